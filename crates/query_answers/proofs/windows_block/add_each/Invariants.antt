use Rattle.query_answers.proofs.QueryBlocks.{AddsRest}
use Rattle.query_answers.proofs.windows_block.add_each.Given as goal

abbrev pub invariant-loop-ends : goal.invariant-loop-ends
invariant-loop-ends g l = AddsRest (g.V.View.world l.fn.view) l.fn.ask l.ends-iterator l.fn.windows l.fn.out l.out
