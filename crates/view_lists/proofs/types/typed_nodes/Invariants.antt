use Rattle.std.proofs.Common.{◌≡◌, take}
use Rattle.std.specs.List.{filter, flat_map}
use Rattle.graph_model.specs.World.{names_node}
use Rattle.view_lists.specs.Types.{types_listed, typed_node}
use Rattle.view_lists.proofs.types.typed_nodes.Given as goal

abbrev pub invariant-loop-n : goal.invariant-loop-n
invariant-loop-n g l = types_listed l.typed.items ≡ flat_map (typed_node (g.V.View.contents l.view).types) (filter (names_node (g.V.View.world l.view).events) (take l.n (g.V.View.contents l.view).nodes))
