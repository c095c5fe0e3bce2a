use Rattle.std.proofs.Common.{◌≡◌, ◌∙◌, ◌++◌, ap, refl, sym, rules, arith, length, to_z, of_z, false, [], append-nil, w64}
use Rattle.std.specs.Prelude.{nat_lt}
use Rattle.std.proofs.lemmas.Bool.{cond-true, cond-false, lt-ltb}
use Rattle.std.proofs.lemmas.Bool.Decides.{nat_tests}
use Rattle.std.proofs.lemmas.Int.{to_z-of_z}
use Rattle.std.proofs.lemmas.Result.{on_ok_weaker}
use Rattle.graph_model.specs.Interval.{Interval}
use Rattle.graph_model.specs.World.{events_of}
use Rattle.graph_store.specs.Contents.{Contents}
use Rattle.view_trait.specs.Extent.{events_of_node}
use Rattle.view_trait.specs.Meaning.{StepsWithin, Tells, node_at}
use Rattle.view_trait.proofs.Costs.{StepsWithin-among}
use Rattle.view_trait.proofs.Found.{events_fit, node_tells}
use Rattle.view_lists.proofs.PlacedEvents.{count_shown}
use Rattle.window_sweep.specs.Filling.{held_under}
use Rattle.window_sweep.proofs.Holding.{held_shown}
use Rattle.window_sweep.proofs.filling.hold_node.Given.{Over}
use Rattle.window_sweep.proofs.filling.hold_node.Goals.{After-hold_span}
use Rattle.window_sweep.proofs.filling.hold_node.Goals as goal

known : (g : Over) (c : After-hold_span g) → events_of_node (g.V.View.contents c.args.view.now) (g.V.View.world c.args.view.now) c.args.node.0 ≡ events_of (g.V.View.world c.args.view.now) (node_at (g.V.View.contents c.args.view.now) c.args.node.0)
known g c =
    let contents = g.V.View.contents c.args.view.now in
    let count = c.nodes.ensures.len ∙ ap (λ (v : Contents). length v.nodes) c.store-store.ensures in
    cond-true (nat_lt c.args.node.0 (length contents.nodes)) (events_of (g.V.View.world c.args.view.now) (node_at contents c.args.node.0)) []
    (lt-ltb c.args.node.0 (length contents.nodes) (let le = c.if-node-nodes.false in omega (arith, count, le)))

tells : (g : Over) (c : After-hold_span g) → Tells (g.V.View.contents c.args.view.now) (node_at (g.V.View.contents c.args.view.now) c.args.node.0) c.node_history-history.result.now.updates
tells g c = node_tells c.store-store.result.now (g.V.View.contents c.args.view.now) c.args.node.0 c.node_history-history.result.now.updates c.store-store.ensures c.node_history-history.ensures.told c.node_history-history.ensures.fits

pub returns-then-node-nodes-clause-held : goal.returns-then-node-nodes-clause-held
returns-then-node-nodes-clause-held g c =
    let contents = g.V.View.contents c.args.view.now in
    let count = c.nodes.ensures.len ∙ ap (λ (v : Contents). length v.nodes) c.store-store.ensures in
    let unknown : nat_lt c.args.node.0 (length contents.nodes) ≡ false = (let le = c.if-node-nodes.true in grind (arith, nat_tests, count, le)) in
    sym (ap (λ xs. c.args.held.now.items ++ held_under c.args.node.0 xs) (cond-false (nat_lt c.args.node.0 (length contents.nodes)) (events_of (g.V.View.world c.args.view.now) (node_at contents c.args.node.0)) [] unknown)
    ∙ append-nil c.args.held.now.items)

pub returns-clause-held : goal.returns-clause-held
returns-clause-held g c =
    let contents = g.V.View.contents c.args.view.now in
    let world = g.V.View.world c.args.view.now in
    let n = c.args.node.0 in
    let us = c.node_history-history.result.now.updates in
    let after = (goal.at.returns-clause-held g c).After-hold_span in
    let lo : to_z w64 (of_z w64 c.lo.result) ≡ world.bounds.lo = to_z-of_z w64 c.lo.result (search rules) ∙ (c.lo.ensures.value ∙ ap (λ (i : Interval). i.lo) c.bounds.ensures) in
    on_ok_weaker c.hold_span.result
    (λ h. held_shown contents world (node_at contents n) us c.node_span-span.result (to_z w64 (of_z w64 c.lo.result)) n c.args.held.now.items c.hold_span.new.held.items (tells g after) c.node_span-span.ensures.shows lo h
    ∙ ap (λ xs. c.args.held.now.items ++ held_under n xs) (sym (known g after))) c.hold_span.ensures.held

pub returns-clause-cost : goal.returns-clause-cost
returns-clause-cost g c =
    let contents = g.V.View.contents c.args.view.now in
    let world = g.V.View.world c.args.view.now in
    let x = node_at contents c.args.node.0 in
    let after = (goal.at.returns-clause-cost g c).After-hold_span in
    let found : StepsWithin c.args.steps.now c.node_span-span.new.steps (g.V.View.searches c.args.view.now).nodes (length contents.accepted) = StepsWithin-among _ _ _ _ _ c.node_span-span.ensures.cost (events_fit contents x) in
    let count = count_shown contents contents world x c.node_history-history.result.now.updates c.node_span-span.result refl (tells g after) c.node_span-span.ensures.shows in
    let spent = c.hold_span.ensures.cost in
    let events = ap length (known g after) in
    omega (arith, found, count, spent, events)
