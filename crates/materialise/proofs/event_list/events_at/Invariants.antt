use Rattle.std.proofs.Common.{◌≡◌, map, take}
use Rattle.view_lists.specs.Listing.{event_placed}
use Rattle.materialise.proofs.event_list.events_at.Given as goal

abbrev pub invariant-loop-place : goal.invariant-loop-place
invariant-loop-place g l = l.events ≡ map (event_placed (g.V.View.world l.view) l.shown) (take l.place-index l.places)
