use Rattle.std.proofs.Common.{◌≡◌, ◌≤◌, ◌+◌, length, take}
use Rattle.view_lists.specs.Listing.{entities_of, all_placed}
use Rattle.view_lists.proofs.listing.places_by_entity.Given as goal

abbrev pub invariant-loop-i : goal.invariant-loop-i
invariant-loop-i g l = record {
  places : l.places.items ≡ all_placed (g.V.View.world l.view) 0 (take l.i (entities_of l.shown));
  cost : l.steps ≤ l.fn.steps + length l.places.items;
}
