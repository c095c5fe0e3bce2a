use Rattle.std.proofs.Common.{◌≡◌, ◌∙◌, ap, subst, sym, rules, to_z, of_z, w64}
use Rattle.std.specs.Prelude.{IfOk}
use Rattle.std.proofs.lemmas.Int.{to_z-of_z}
use Rattle.graph_model.specs.Interval.{Interval}
use Rattle.view_lists.specs.Borrowed.{event_borrowed, props_borrowed}
use Rattle.view_lists.specs.Listing.{entity_named}
use Rattle.view_lists.proofs.PlacedEvents.{shown_carried, shown_own}
use Rattle.view_lists.proofs.borrowed.shown_event.Goals as goal

pub returns-then-is_carried-clause-event : goal.returns-then-is_carried-clause-event
returns-then-is_carried-clause-event g c =
    let contents = g.V.View.contents c.args.view.now in
    let world = g.V.View.world c.args.view.now in
    let x = entity_named c.args.one.subject in
    let us = c.history_of-history.result.now.updates in
    let lo : to_z w64 (of_z w64 c.lo-lo.result) ≡ world.bounds.lo = to_z-of_z w64 c.lo-lo.result (search rules) ∙ (c.lo-lo.ensures.value ∙ ap (λ (i : Interval). i.lo) c.bounds.ensures) in
    let yes = sym c.is_carried.ensures ∙ c.if-is_carried.true in
    subst (λ y. IfOk c.carried_event.result (λ event. event_borrowed event (props_borrowed c.carried_event.new.props.items) ≡ y)) (shown_carried c.store-store.result.now contents world x us c.args.one.span c.store-store.ensures c.history_of-history.ensures.tells c.requires.part.shows (to_z w64 (of_z w64 c.lo-lo.result)) c.args.place lo yes) c.carried_event.ensures.event

pub returns-clause-event : goal.returns-clause-event
returns-clause-event g c =
    let contents = g.V.View.contents c.args.view.now in
    let world = g.V.View.world c.args.view.now in
    let x = entity_named c.args.one.subject in
    let us = c.history_of-history.result.now.updates in
    let no = sym c.is_carried.ensures ∙ c.if-is_carried.false in
    subst (λ y. IfOk c.update_event.result (λ event. event_borrowed event (props_borrowed c.update_event.new.props.items) ≡ y)) (shown_own c.store-store.result.now contents world x us c.args.one.span c.store-store.ensures c.history_of-history.ensures.tells c.requires.part.shows c.args.place c.place_in-i.result no c.requires.place c.place_in-i.ensures.value) c.update_event.ensures.event
