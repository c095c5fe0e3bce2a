use Rattle.std.proofs.Common.{◌≡◌, ◌∙◌, ap, sym, rules, arith, length, true, false, []}
use Rattle.std.specs.Prelude.{nat_lt}
use Rattle.std.specs.Int.{w64}
use Rattle.std.proofs.lemmas.Bool.{cond-true, cond-false, lt-ltb}
use Rattle.std.proofs.lemmas.Bool.Decides.{nat_tests}
use Rattle.std.proofs.lemmas.Int.{to_z-of_z}
use Rattle.graph_model.specs.Accepting.{Events}
use Rattle.graph_model.specs.Interval.{Interval}
use Rattle.graph_model.specs.World.{events_of}
use Rattle.time_history.specs.Spans.{spelled}
use Rattle.graph_store.specs.Contents.{Contents, key_names_for}
use Rattle.view_trait.specs.Extent.{extent_of}
use Rattle.view_trait.specs.declared.extent_of_view.WorldExtent.{WorldExtent}
use Rattle.view_trait.specs.Meaning.{StepsWithin, Tells, node_at}
use Rattle.view_trait.proofs.Found.{node_tells, spelled_is, events_fit}
use Rattle.view_trait.proofs.Costs.{StepsWithin-among}
use Rattle.view_trait.proofs.SpanTimes.{few_told}
use Rattle.view_trait.proofs.extent_of_view.node_extent.Given.{Over}
use Rattle.view_trait.proofs.extent_of_view.node_extent.Goals.{After-span_extent}
use Rattle.view_trait.proofs.extent_of_view.node_extent.Goals as goal

tells : (g : Over) (c : After-span_extent g) → Tells (g.V.View.contents c.args.view.now) (node_at (g.V.View.contents c.args.view.now) c.args.n.0) c.node_history.result.now.updates
tells g c = node_tells c.store-store.result.now (g.V.View.contents c.args.view.now) c.args.n.0 c.node_history.result.now.updates c.store-store.ensures c.node_history.ensures.told c.node_history.ensures.fits

pub returns-then-n-nodes-clause-extent : goal.returns-then-n-nodes-clause-extent
returns-then-n-nodes-clause-extent g c =
    let contents = g.V.View.contents c.args.view.now in
    let world = g.V.View.world c.args.view.now in
    let count = c.nodes.ensures.len ∙ ap (λ (v : Contents). length v.nodes) c.store-store.ensures in
    let unknown : nat_lt c.args.n.0 (length contents.nodes) ≡ false = (let le = c.if-n-nodes.true in grind (arith, nat_tests, count, le)) in
    c.new.ensures ∙ ap extent_of (sym (cond-false (nat_lt c.args.n.0 (length contents.nodes)) (events_of world (node_at contents c.args.n.0)) [] unknown))

pub returns-then-n-nodes-clause-few : goal.returns-then-n-nodes-clause-few
returns-then-n-nodes-clause-few g c = let none = ap (λ (r : WorldExtent). r.events) c.new.ensures in omega (arith, none)

pub returns-clause-extent : goal.returns-clause-extent
returns-clause-extent g c =
    let contents = g.V.View.contents c.args.view.now in
    let world = g.V.View.world c.args.view.now in
    let us = c.node_history.result.now.updates in
    let span = c.node_span-span.result in
    let x = node_at contents c.args.n.0 in
    let t = tells g (goal.at.returns-clause-extent g c).After-span_extent in
    let count = c.nodes.ensures.len ∙ ap (λ (v : Contents). length v.nodes) c.store-store.ensures in
    let known : nat_lt c.args.n.0 (length contents.nodes) ≡ true = lt-ltb c.args.n.0 (length contents.nodes) (let le = c.if-n-nodes.false in omega (arith, count, le)) in
    let lo = to_z-of_z w64 c.lo.result (search rules) ∙ (c.lo.ensures.value ∙ ap (λ (i : Interval). i.lo) c.bounds.ensures) in
    c.span_extent.ensures.extent x (key_names_for contents x) t.fits
    ∙ (ap (λ z. extent_of (spelled x (key_names_for contents x) us span z)) lo ∙ (ap extent_of (spelled_is contents world x us span t c.node_span-span.ensures.shows) ∙ ap extent_of (sym (cond-true (nat_lt c.args.n.0 (length contents.nodes)) (events_of world x) [] known))))

pub returns-clause-few : goal.returns-clause-few
returns-clause-few g c =
    let contents = g.V.View.contents c.args.view.now in
    let a = c.span_extent.ensures.few in
    let b = few_told contents (node_at contents c.args.n.0) c.node_history.result.now.updates (tells g (goal.at.returns-clause-few g c).After-span_extent) in
    let d = c.events-few.ensures.limits Events in
    let e = ap (λ (s : Contents). length s.accepted) c.store-store.ensures in
    omega (arith, a, b, d, e)

pub returns-clause-cost : goal.returns-clause-cost
returns-clause-cost g c =
    let contents = g.V.View.contents c.args.view.now in
    let found : StepsWithin c.args.steps.now c.node_span-span.new.steps (g.V.View.searches c.args.view.now).nodes (length contents.accepted) = StepsWithin-among _ _ _ _ _ c.node_span-span.ensures.cost (events_fit contents (node_at contents c.args.n.0)) in
    omega (arith, found, c.span_extent.ensures.cost)
