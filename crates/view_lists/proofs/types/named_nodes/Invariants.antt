use Rattle.std.proofs.Common.{take}
use Rattle.view_lists.specs.Listing.{entities_of}
use Rattle.view_lists.specs.Types.{AreMarked}
use Rattle.view_lists.proofs.types.named_nodes.Given as goal

abbrev pub invariant-loop-one : goal.invariant-loop-one
invariant-loop-one g l = AreMarked (g.V.View.contents l.view) (entities_of (take l.one-index l.shown)) l.flags.items
