use Rattle.view_trait.proofs.Covered.{Covers-whole}
use Rattle.test_views.proofs.StoredAgain.{base_storable}
use Rattle.test_views.proofs.listing.stored_again.Goals as goal

pub list_world-requires : goal.list_world-requires
list_world-requires g c = record { covers = Covers-whole _ _ }

pub list_types-requires : goal.list_types-requires
list_types-requires g c = record { covers = Covers-whole _ _ }

pub into_store-requires : goal.into_store-requires
into_store-requires g c =
    rw (c.model.ensures, c.bounds.ensures, c.in_ok-events.ensures, c.in_ok-types.ensures) (base_storable c.args.graph.now.store.now c.events-limits.ensures.lawful c.events-limits.ensures.limits)
