use Rattle.std.proofs.Common.{◌≡◌, ◌<◌, arith, length, refl, rules}
use Rattle.std.specs.Prelude.{◌&&◌}
use Rattle.graph_model.specs.Output.{is_clean_line}
use Rattle.graph_model.specs.Script.{lines_of}
use Rattle.graph_store.specs.Contents.{base_of}
use Rattle.query_answers.specs.Cost.{size_of}
use Rattle.query_answers.specs.Refusing.{asked_refusal}
use Rattle.std.specs.List.{list_all}
use Rattle.query_run.proofs.Counted.{StepsLeft-cut, StepsLeft-more}
use Rattle.query_run.proofs.Blocks.{AddsRest-more, AddsRest-none, clean-more}
use Rattle.query_run.proofs.Scripts.{no-bytes}
use Rattle.query_run.proofs.line_blocks.add_lines.Goals as goal
use Rattle.query_run.proofs.line_blocks.add_lines.Goals.{then-clean, else-clean}

pub returns-in_err-line_clean-clause-cost : goal.returns-in_err-line_clean-clause-cost
returns-in_err-line_clean-clause-cost g c =
    let store = c.args.store.now in
    StepsLeft-cut (base_of store) (size_of store) (lines_of c.args.script.now) (lines_of c.loop-rest.rest.now) (lines_of c.first_line.result.1.now) c.first_line.result.0.now c.args.steps.now c.loop-rest.steps c.add_line.new.steps
    c.first_line.ensures.lines c.add_line.ensures.cost c.loop-rest.invariant.counted

pub loop-rest-preserved : goal.loop-rest-preserved
loop-rest-preserved g c =
    let store = c.args.store.now in
    let left = lines_of c.loop-rest.rest.now in
    let more = lines_of c.first_line.result.1.now in
    let line = c.first_line.result.0.now in
    let both : c.if-clean.clean ≡ (c.loop-rest.clean && c.in_ok-line_clean.line_clean) =
    elim c.if-clean.branch [ then-clean w ↦ rw (w.clean-is, w.if-clean.true) refl | else-clean w ↦ rw (w.clean-is, w.if-clean.false) refl ] in
    record {
      added = AddsRest-more (base_of store) c.loop-rest.number left more (lines_of c.args.script.now) line c.args.out.now.items c.loop-rest.out.items c.add_line.new.out.items
          c.first_line.ensures.lines c.in_ok-line_clean.ensures.block c.loop-rest.invariant.added;
      clean = clean-more (is_clean_line asked_refusal (base_of store)) left more line c.loop-rest.clean c.in_ok-line_clean.line_clean c.if-clean.clean (list_all (is_clean_line asked_refusal (base_of store)) (lines_of c.args.script.now)) c.first_line.ensures.lines c.in_ok-line_clean.ensures.clean both c.loop-rest.invariant.clean;
      number = omega arith;
      counted = StepsLeft-more (base_of store) (size_of store) (lines_of c.args.script.now) left more line c.args.steps.now c.loop-rest.steps c.add_line.new.steps c.first_line.ensures.lines c.add_line.ensures.cost c.loop-rest.invariant.counted;
    }

pub returns-clause-blocks : goal.returns-clause-blocks
returns-clause-blocks g c =
    let few : length c.loop-rest.rest.now < 1 = search rules in
    AddsRest-none (base_of c.args.store.now) c.loop-rest.number c.loop-rest.rest.now (lines_of c.args.script.now) c.args.out.now.items c.loop-rest.out.items
    (no-bytes c.loop-rest.rest.now few) c.loop-rest.invariant.added
