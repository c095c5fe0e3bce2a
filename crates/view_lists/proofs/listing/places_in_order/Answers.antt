use Rattle.std.proofs.Common.{◌≡◌, ◌∙◌, ap, sym, subst, rules, arith}
use Rattle.std.specs.Ordering.{is_lt}
use Rattle.std.proofs.lemmas.Fn.{always_returns_same}
use Rattle.std.proofs.lemmas.List.MinMax.{ranks_by}
use Rattle.graph_model.specs.Entity.{entity_cmp}
use Rattle.world_laws.proofs.Order.{entity_total}
use Rattle.view_lists.specs.Listing.{AreShown, entity_named, place_cmp, entities_of, all_placed}
use Rattle.view_lists.proofs.Placing.{length_all_placed, place_total, places_sorted}
use Rattle.view_lists.proofs.ShownOnes.{entity_shown, shown_sorted}
use Rattle.view_lists.proofs.listing.places_in_order.Given.{Over}
use Rattle.view_lists.proofs.listing.places_in_order.Goals.{After-as_slice}
use Rattle.view_lists.proofs.listing.places_in_order.Goals as goal

given : (g : Over) (c : After-as_slice g) → AreShown (g.V.View.contents c.args.view.now) (g.V.View.world c.args.view.now) c.as_slice.result.now
given g c =
    let contents = g.V.View.contents c.args.view.now in
    let world = g.V.View.world c.args.view.now in
    subst (AreShown contents world) (sym c.as_slice.ensures.value)
    (shown_sorted contents world (g.met.V.View.shown c.args.view.now) c.args.shown.items c.sort_unstable_by.new.self.items c.requires c.sort_unstable_by.ensures.permutation
    (c.sort_unstable_by.ensures.sorted (λ x y. is_lt (entity_cmp (entity_shown x) (entity_shown y))) (ranks_by entity_total entity_shown) (always_returns_same _ (λ a r. is_lt r ≡ is_lt (entity_cmp (entity_named a.0.now.subject) (entity_named a.1.0.now.subject))) _ (λ a r q k. search rules))))

pub places_by_entity-requires : goal.places_by_entity-requires
places_by_entity-requires g c = given g (goal.at.places_by_entity-requires g c).After-as_slice

pub returns-clause-listed : goal.returns-clause-listed
returns-clause-listed g c =
    let contents = g.V.View.contents c.args.view.now in
    let world = g.V.View.world c.args.view.now in
    let shown = g.met.V.View.shown c.args.view.now in
    places_sorted contents world c.sort_unstable_by.new.self.items c.in_ok-events.events.items c.sort_unstable_by-2.new.self.items shown.lawful
    (shown_sorted contents world shown c.args.shown.items c.sort_unstable_by.new.self.items c.requires c.sort_unstable_by.ensures.permutation
    (c.sort_unstable_by.ensures.sorted (λ x y. is_lt (entity_cmp (entity_shown x) (entity_shown y))) (ranks_by entity_total entity_shown) (always_returns_same _ (λ a r. is_lt r ≡ is_lt (entity_cmp (entity_named a.0.now.subject) (entity_named a.1.0.now.subject))) _ (λ a r q k. search rules))))
    (c.in_ok-events.ensures.places ∙ ap (λ xs. all_placed world 0 (entities_of xs)) c.as_slice.ensures.value) c.sort_unstable_by-2.ensures.permutation
    (c.sort_unstable_by-2.ensures.sorted (λ p q. is_lt (place_cmp p q)) (ranks_by place_total (λ p. p)) (always_returns_same _ (λ a r. is_lt r ≡ is_lt (place_cmp a.0.now a.1.0.now)) _ (λ a r q k. search rules)))

pub returns-in_err-events-clause-cost : goal.returns-in_err-events-clause-cost
returns-in_err-events-clause-cost g c =
    let world = g.V.View.world c.args.view.now in
    let count = length_all_placed (g.V.View.contents c.args.view.now) world c.as_slice.result.now (g.met.V.View.shown c.args.view.now).lawful (given g (goal.at.returns-in_err-events-clause-cost g c).After-as_slice) in
    let spent = c.places_by_entity.ensures.cost in
    omega (arith, count, spent)

pub returns-clause-cost : goal.returns-clause-cost
returns-clause-cost g c =
    let world = g.V.View.world c.args.view.now in
    let count = length_all_placed (g.V.View.contents c.args.view.now) world c.as_slice.result.now (g.met.V.View.shown c.args.view.now).lawful (given g (goal.at.returns-clause-cost g c).After-as_slice) in
    let spent = c.places_by_entity.ensures.cost in
    omega (arith, count, spent)
