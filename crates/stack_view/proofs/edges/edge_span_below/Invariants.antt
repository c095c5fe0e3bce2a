use Rattle.std.proofs.Common.{length}
use Rattle.view_trait.specs.Meaning.{StepsWithin, edge_at}
use Rattle.stack_view.specs.Below.{below, searches_below}
use Rattle.stack_view.specs.Stands.{StandsFor}
use Rattle.stack_view.proofs.edges.edge_span_below.Given as goal

abbrev pub invariant-loop-i : goal.invariant-loop-i
invariant-loop-i g l = record {
  stands : StandsFor l.store (below l.store l.ops l.i) (edge_at l.store l.e.0) l.part;
  cost : StepsWithin l.fn.steps l.steps (searches_below l.ops l.i).edges (length l.store.accepted);
}
