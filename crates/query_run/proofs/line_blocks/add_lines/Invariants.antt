use Rattle.std.proofs.Common.{◌≡◌, ◌≤◌, ◌+◌, ◌&&◌, length}
use Rattle.std.specs.List.{list_all}
use Rattle.graph_model.specs.Script.{lines_of}
use Rattle.graph_model.specs.Output.{is_clean_line}
use Rattle.graph_store.specs.Contents.{base_of}
use Rattle.query_answers.specs.Cost.{size_of}
use Rattle.query_answers.specs.Refusing.{asked_refusal}
use Rattle.query_run.proofs.Blocks.{AddsRest}
use Rattle.query_run.proofs.Counted.{StepsLeft}
use Rattle.query_run.proofs.line_blocks.add_lines.Given as goal

abbrev pub invariant-loop-rest : goal.invariant-loop-rest
invariant-loop-rest g l = record {
  added : AddsRest (base_of l.store) l.number (lines_of l.rest) (lines_of l.script) l.fn.out.items l.out.items;
  clean : (l.clean && list_all (is_clean_line asked_refusal (base_of l.store)) (lines_of l.rest)) ≡ list_all (is_clean_line asked_refusal (base_of l.store)) (lines_of l.script);
  number : l.number + length l.rest ≤ length l.script + 1;
  counted : StepsLeft (base_of l.store) (size_of l.store) (lines_of l.script) (lines_of l.rest) l.fn.steps l.steps;
}

abbrev pub decreases-loop-rest : goal.decreases-loop-rest
decreases-loop-rest g l = length l.rest
