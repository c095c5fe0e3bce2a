use Rattle.std.proofs.Common.{length}
use Rattle.graph_model.specs.World.{events_of}
use Rattle.graph_store.specs.Contents.{base_of}
use Rattle.view_trait.specs.Meaning.{StepsWithin, node_at}
use Rattle.stack_view.specs.Below.{below, searches_below}
use Rattle.stack_view.specs.Stands.{StandsFor}
use Rattle.stack_view.proofs.nodes.node_span_below.Given as goal

abbrev pub invariant-loop-i : goal.invariant-loop-i
invariant-loop-i g l = record {
  stands : StandsFor l.store (below l.store l.ops l.i) (node_at l.store l.n.0) l.part;
  cost : StepsWithin l.fn.steps l.steps (searches_below l.ops l.i).nodes (length (events_of (base_of l.store) (node_at l.store l.n.0)));
}
