use Rattle.std.proofs.Common.{◌≡◌, ◌∙◌, false, sym}
use Rattle.std.specs.Prelude.{Err}
use Rattle.graph_model.specs.QueryLine.{query_said}
use Rattle.graph_model.specs.Script.{is_blank}
use Rattle.graph_store.specs.Contents.{base_of}
use Rattle.query_run.specs.Causes.{query_refusal_of}
use Rattle.query_run.proofs.Blocks.{blank-added, refused_line-added, said-added}
use Rattle.query_run.proofs.line_blocks.add_line.Goals as goal

pub returns-then-has_only_spaces-clause-block : goal.returns-then-has_only_spaces-clause-block
returns-then-has_only_spaces-clause-block g c =
    blank-added (base_of c.args.store.now) c.args.number c.args.line.now c.args.out.now.items (sym c.has_only_spaces.ensures ∙ c.if-has_only_spaces.true)

pub returns-in-Ok-clause-block : goal.returns-in-Ok-clause-block
returns-in-Ok-clause-block g c =
    let some : is_blank c.args.line.now ≡ false = sym c.has_only_spaces.ensures ∙ c.if-has_only_spaces.false in
    said-added c.add_answer.result (base_of c.args.store.now) c.args.number c.args.line.now c.in-Ok.query c.args.out.now.items c.add_answer.new.out.items
    some c.in-Ok.ensures.said c.add_answer.ensures.block

pub returns-in_ok-refuse_query-in-Err-clause-block : goal.returns-in_ok-refuse_query-in-Err-clause-block
returns-in_ok-refuse_query-in-Err-clause-block g c =
    let some : is_blank c.args.line.now ≡ false = sym c.has_only_spaces.ensures ∙ c.if-has_only_spaces.false in
    let refusal = query_refusal_of c.in_ok-line_cause-in-Err.field-0 in
    let said : query_said c.args.line.now ≡ Err refusal = c.in_ok-line_cause-in-Err.ensures (query_said c.args.line.now) c.in-Err.ensures.refused in
    refused_line-added (base_of c.args.store.now) c.args.number c.args.line.now refusal c.args.out.now.items c.refuse_query.new.out.items
    some said c.in_ok-refuse_query-in-Err.ensures
