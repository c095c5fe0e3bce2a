use Rattle.std.proofs.Common.{◌≡◌, ◌<◌, ◌≤◌, ◌+◌, ◌*◌, ◌∙◌, ap, subst, length, arith}
use Rattle.std.specs.Prelude.{slice_get, Some}
use Rattle.std.proofs.lemmas.List.{take_all}
use Rattle.graph_model.specs.Searches.{digits}
use Rattle.view_trait.specs.Coverage.{node_count_on, nodes_on}
use Rattle.view_trait.specs.Extent.{events_of_node}
use Rattle.view_trait.proofs.Covered.{length-nodes_on}
use Rattle.window_sweep.specs.Filling.{nodes_held}
use Rattle.window_sweep.proofs.Holding.{numbers_more, steps_more, steps_within}
use Rattle.window_sweep.proofs.filling.held_nodes.Given.{Over}
use Rattle.window_sweep.proofs.filling.held_nodes.Goals.{After-hold_node}
use Rattle.window_sweep.proofs.filling.held_nodes.Goals as goal

-- the node at this place of the roster
below : (g : Over) (c : After-hold_node g) → c.loop-i.i < length (nodes_on (g.V.View.contents c.args.view.now) c.args.roster)
below g c =
    let s = g.V.View.contents c.args.view.now in
    let count : c.node_count_on-i-end.result ≡ node_count_on s c.args.roster = c.node_count_on-i-end.ensures ∙ ap (λ v. node_count_on v c.args.roster) c.store-store.ensures in
    let lt = c.loop-i-test.true in
    let long = length-nodes_on s c.args.roster in
    omega (arith, lt, count, long)

here : (g : Over) (c : After-hold_node g) → slice_get (nodes_on (g.V.View.contents c.args.view.now) c.args.roster) c.loop-i.i ≡ Some c.node.result.0
here g c = subst (λ v. slice_get (nodes_on v c.args.roster) c.loop-i.i ≡ Some c.node.result.0) c.store-store.ensures c.node.ensures

pub loop-i-preserved : goal.loop-i-preserved
loop-i-preserved g c =
    let s = g.V.View.contents c.args.view.now in
    let w = g.V.View.world c.args.view.now in
    let d = digits (length s.accepted) in
    let after = (goal.at.loop-i-preserved g c).After-hold_node in
    record {
      held = numbers_more (events_of_node s w) (nodes_on s c.args.roster) c.loop-i.i c.node.result.0 c.loop-i.held.items c.hold_node.new.held.items (below g after) (here g after) c.loop-i.invariant.held c.in_ok-hold_node.ensures.held;
      cost = steps_more (events_of_node s w) c.args.steps.now c.loop-i.steps c.hold_node.new.steps c.loop-i.i c.node.result.0 (g.V.View.searches c.args.view.now).nodes d c.loop-i.held.items c.hold_node.new.held.items c.in_ok-hold_node.ensures.held c.loop-i.invariant.cost c.hold_node.ensures.cost;
    }

pub returns-clause-held : goal.returns-clause-held
returns-clause-held g c =
    let s = g.V.View.contents c.args.view.now in
    let w = g.V.View.world c.args.view.now in
    let count : c.node_count_on-i-end.result ≡ node_count_on s c.args.roster = c.node_count_on-i-end.ensures ∙ ap (λ v. node_count_on v c.args.roster) c.store-store.ensures in
    let all : length (nodes_on s c.args.roster) ≤ c.loop-i.i = (let le = c.loop-i-test.false in let long = length-nodes_on s c.args.roster in omega (arith, le, count, long)) in
    c.loop-i.invariant.held ∙ ap (nodes_held s w) (take_all c.loop-i.i (nodes_on s c.args.roster) all)

pub returns-clause-cost : goal.returns-clause-cost
returns-clause-cost g c =
    let s = g.V.View.contents c.args.view.now in
    let w = g.V.View.world c.args.view.now in
    let r = c.args.roster in
    let searches = (g.V.View.searches c.args.view.now).nodes in
    let d = digits (length s.accepted) in
    let count : c.node_count_on-i-end.result ≡ node_count_on s r = c.node_count_on-i-end.ensures ∙ ap (λ v. node_count_on v r) c.store-store.ensures in
    let end = c.loop-i.auto.i-end in
    let past = c.loop-i-test.false in
    let all : c.loop-i.i ≡ node_count_on s r = omega (arith, count, end, past) in
    let long = length-nodes_on s r in
    let size = ap (λ l. length l) (c.loop-i.invariant.held ∙ ap (nodes_held s w) (take_all c.loop-i.i (nodes_on s r) (omega (arith, all, long)))) in
    let spent = c.loop-i.invariant.cost in
    subst (λ n. c.loop-i.steps ≤ c.args.steps.now + (n * searches) * d + length (nodes_held s w (nodes_on s r))) all (omega (arith, spent, size))

pub returns-in_err-hold_node-clause-cost : goal.returns-in_err-hold_node-clause-cost
returns-in_err-hold_node-clause-cost g c =
    let s = g.V.View.contents c.args.view.now in
    let w = g.V.View.world c.args.view.now in
    let r = c.args.roster in
    let searches = (g.V.View.searches c.args.view.now).nodes in
    let d = digits (length s.accepted) in
    let after = (goal.at.returns-in_err-hold_node-clause-cost g c).After-hold_node in
    subst (λ n. c.hold_node.new.steps ≤ c.args.steps.now + (n * searches) * d + length (nodes_held s w (nodes_on s r))) (length-nodes_on s r)
    (steps_within (events_of_node s w) (nodes_on s r) c.args.steps.now c.loop-i.steps c.hold_node.new.steps c.loop-i.i c.node.result.0 searches d c.loop-i.held.items (below g after) (here g after) c.loop-i.invariant.held c.loop-i.invariant.cost c.hold_node.ensures.cost)
