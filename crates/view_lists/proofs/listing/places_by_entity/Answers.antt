use Rattle.std.proofs.Common.{◌≡◌, ◌∙◌, length, ap, subst, sym, arith}
use Rattle.std.proofs.lemmas.List.Elements.{All-get_or}
use Rattle.graph_model.specs.Accepting.{Events}
use Rattle.graph_store.specs.Contents.{Contents}
use Rattle.view_lists.specs.Listing.{IsShownEntity, entity_named}
use Rattle.view_lists.proofs.Spent.{spent_more, spent_within}
use Rattle.view_lists.proofs.ShownOnes.{shown_few}
use Rattle.view_lists.proofs.SpanPlaces.{places_more, places_all}
use Rattle.view_lists.proofs.listing.places_by_entity.Goals as goal

pub overflow_cast-i : goal.overflow_cast-i
overflow_cast-i g c =
    let contents = g.V.View.contents c.args.view.now in
    let world = g.V.View.world c.args.view.now in
    let few = shown_few contents world (g.met.V.View.shown c.args.view.now) c.args.shown.now c.requires in
    let nodes = c.nodes-few_nodes.ensures.len ∙ ap (λ (s : Contents). length s.nodes) c.store-store.ensures in
    let few_nodes = c.nodes-few_nodes.ensures.few in
    let events = ap (λ (s : Contents). length s.accepted) c.store-store.ensures in
    let few_events = c.events-few_events.ensures.limits Events in
    let lt = c.loop-i-test.true in
    record { fits = omega (arith, few, nodes, few_nodes, events, few_events, lt) }

pub push_events-requires : goal.push_events-requires
push_events-requires g c =
    let part = IsShownEntity (g.V.View.contents c.args.view.now) (g.V.View.world c.args.view.now) in
    subst part (sym c.index-shown-i.is) (All-get_or part c.args.shown.now c.loop-i.i c.index-shown-i.result c.loop-i-test.true c.requires.parts)

pub loop-i-preserved : goal.loop-i-preserved
loop-i-preserved g c =
    let pushed = c.in_ok-push_events.ensures.places in
    record {
      places = places_more (g.V.View.world c.args.view.now) c.args.shown.now c.loop-i.i c.index-shown-i.result c.loop-i.places.items c.push_events.new.places.items c.loop-i-test.true (sym c.index-shown-i.is) c.loop-i.invariant.places pushed;
      cost = spent_more (g.V.View.world c.args.view.now) (entity_named c.index-shown-i.result.subject) _ c.loop-i.places.items c.push_events.new.places.items _ _ _ pushed c.loop-i.invariant.cost c.push_events.ensures.cost;
    }

pub returns-clause-places : goal.returns-clause-places
returns-clause-places g c =
    let past = c.loop-i-test.false in
    let end = c.loop-i.auto.i-end in
    let all : c.loop-i.i ≡ length c.args.shown.now = omega (arith, past, end) in
    places_all (g.V.View.world c.args.view.now) c.args.shown.now c.loop-i.i c.loop-i.places.items all c.loop-i.invariant.places

pub returns-clause-cost : goal.returns-clause-cost
returns-clause-cost g c =
    let past = c.loop-i-test.false in
    let end = c.loop-i.auto.i-end in
    let all : c.loop-i.i ≡ length c.args.shown.now = omega (arith, past, end) in
    let count = ap (λ l. length l) (places_all (g.V.View.world c.args.view.now) c.args.shown.now c.loop-i.i c.loop-i.places.items all c.loop-i.invariant.places) in
    let spent = c.loop-i.invariant.cost in
    omega (arith, count, spent)

pub returns-in_err-push_events-clause-cost : goal.returns-in_err-push_events-clause-cost
returns-in_err-push_events-clause-cost g c =
    spent_within (g.V.View.world c.args.view.now) c.args.shown.now c.loop-i.i c.index-shown-i.result c.loop-i.places.items _ _ _ c.loop-i-test.true (sym c.index-shown-i.is) c.loop-i.invariant.places c.loop-i.invariant.cost c.push_events.ensures.cost
