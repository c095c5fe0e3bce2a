use Rattle.std.proofs.Common.{◌≡◌, to_z, of_z, ap, subst, ◌∙◌, arith, rules}
use Rattle.std.specs.Int.{w64}
use Rattle.std.proofs.lemmas.Int.{to_z-of_z}
use Rattle.std.proofs.lemmas.Result.{on_ok_weaker}
use Rattle.graph_model.specs.Interval.{Interval}
use Rattle.graph_store.specs.Contents.{Contents}
use Rattle.view_trait.specs.Meaning.{Tells}
use Rattle.view_lists.specs.Listing.{entity_named}
use Rattle.view_lists.proofs.PlacedEvents.{count_shown}
use Rattle.view_lists.proofs.SpanPlaces.{places_shown}
use Rattle.view_lists.proofs.listing.push_events.Goals as goal

pub returns-clause-places : goal.returns-clause-places
returns-clause-places g c =
    let contents = g.V.View.contents c.args.view.now in
    let world = g.V.View.world c.args.view.now in
    let x = entity_named c.args.one.subject in
    let us = c.history_of-history.result.now.updates in
    let tells : Tells contents x us = subst (λ (v : Contents). Tells v x us) c.store-store.ensures c.history_of-history.ensures.tells in
    let lo : to_z w64 (of_z w64 c.lo-lo.result) ≡ world.bounds.lo = to_z-of_z w64 c.lo-lo.result (search rules) ∙ (c.lo-lo.ensures.value ∙ ap (λ (i : Interval). i.lo) c.bounds.ensures) in
    on_ok_weaker c.push_span.result (places_shown contents world x us c.args.one.span c.args.shown (to_z w64 (of_z w64 c.lo-lo.result)) c.args.places.now.items c.push_span.new.places.items tells c.requires.shows lo) c.push_span.ensures.places

pub returns-clause-cost : goal.returns-clause-cost
returns-clause-cost g c =
    let contents = g.V.View.contents c.args.view.now in
    let world = g.V.View.world c.args.view.now in
    let x = entity_named c.args.one.subject in
    let count = count_shown c.store-store.result.now contents world x c.history_of-history.result.now.updates c.args.one.span c.store-store.ensures c.history_of-history.ensures.tells c.requires.shows in
    let spent = c.push_span.ensures.cost in
    omega (arith, spent, count)
