use Rattle.std.proofs.Common.{◌≡◌, ◌<◌, ◌≤◌, ◌+◌, ◌*◌, length, ap, subst, ◌∙◌, arith}
use Rattle.std.specs.Ordering.{nat_cmp}
use Rattle.std.specs.Prelude.{slice_get, Some}
use Rattle.graph_model.specs.Rising.{Rises}
use Rattle.view_trait.specs.Coverage.{edge_count_on, edges_on, node_count_on, nodes_among, nodes_on}
use Rattle.view_trait.proofs.Covered.{length-edges_on, length-nodes_on}
use Rattle.view_trait.specs.Meaning.{StepsWithin}
use Rattle.view_lists.proofs.Spent.{edge_more, edge_within, no_edges, node_more, node_within}
use Rattle.view_lists.proofs.ShownOnes.{edges_all, edges_kept, found_on, nodes_all, nodes_kept}
use Rattle.view_lists.proofs.listing.shown_by_number.Goals as goal

pub loop-i-preserved : goal.loop-i-preserved
loop-i-preserved g c =
    let s = g.V.View.contents c.args.view.now in
    let w = g.V.View.world c.args.view.now in
    let r = c.args.roster in
    let i = c.loop-i.i in
    let count : c.node_count_on-i-end.result ≡ node_count_on s r = c.node_count_on-i-end.ensures ∙ ap (λ v. node_count_on v r) c.store-store.ensures in
    let below : i < length (nodes_on s r) = (let lt = c.loop-i-test.true in let long = length-nodes_on s r in omega (arith, lt, count, long)) in
    let here : slice_get (nodes_on s r) i ≡ Some c.node.result.0 = subst (λ v. slice_get (nodes_on v r) i ≡ Some c.node.result.0) c.store-store.ensures c.node.ensures in
    record {
      entities = nodes_kept s w (nodes_on s r) i c.node.result.0 c.loop-i.shown.items c.push_node.new.shown.items below here c.loop-i.invariant.entities c.in_ok-push_node.ensures.entities;
      parts = c.in_ok-push_node.ensures.parts c.loop-i.invariant.parts;
      cost = node_more _ _ _ i _ _ c.loop-i.invariant.cost c.push_node.ensures.cost;
    }

pub loop-j-init : goal.loop-j-init
loop-j-init g c =
    let s = g.V.View.contents c.args.view.now in
    let w = g.V.View.world c.args.view.now in
    let r = c.args.roster in
    let count : c.node_count_on-i-end.result ≡ node_count_on s r = c.node_count_on-i-end.ensures ∙ ap (λ v. node_count_on v r) c.store-store.ensures in
    let all : length (nodes_on s r) ≤ c.loop-i.i = (let le = c.loop-i-test.false in let long = length-nodes_on s r in omega (arith, le, count, long)) in
    let same : c.loop-i.i ≡ node_count_on s r = (let over = c.loop-i.auto.i-end in let le = c.loop-i-test.false in omega (arith, over, le, count)) in
    let searches = g.V.View.searches c.args.view.now in
    record {
      entities = nodes_all s w (nodes_on s r) c.loop-i.i c.loop-i.shown.items all c.loop-i.invariant.entities;
      parts = c.loop-i.invariant.parts;
      cost = no_edges _ _ (node_count_on s r) searches.nodes searches.edges (length s.accepted) (subst (λ n. StepsWithin c.args.steps.now c.loop-i.steps (n * searches.nodes) (length s.accepted)) same c.loop-i.invariant.cost);
    }

pub loop-j-preserved : goal.loop-j-preserved
loop-j-preserved g c =
    let s = g.V.View.contents c.args.view.now in
    let w = g.V.View.world c.args.view.now in
    let r = c.args.roster in
    let j = c.loop-j.j in
    let count : c.edge_count_on-j-end.result ≡ edge_count_on s r = c.edge_count_on-j-end.ensures ∙ ap (λ v. edge_count_on v r) c.store-store.ensures in
    let below : j < length (edges_on s r) = (let lt = c.loop-j-test.true in let long = length-edges_on s r in omega (arith, lt, count, long)) in
    let here : slice_get (edges_on s r) j ≡ Some c.edge.result.0 = subst (λ v. slice_get (edges_on v r) j ≡ Some c.edge.result.0) c.store-store.ensures c.edge.ensures in
    record {
      entities = edges_kept s w (nodes_among s (nodes_on s r)) (edges_on s r) j c.edge.result.0 c.loop-j.shown.items c.push_edge.new.shown.items below here c.loop-j.invariant.entities c.in_ok-push_edge.ensures.entities;
      parts = c.in_ok-push_edge.ensures.parts c.loop-j.invariant.parts;
      cost = edge_more _ _ _ (node_count_on s r * (g.V.View.searches c.args.view.now).nodes) j _ _ c.loop-j.invariant.cost c.push_edge.ensures.cost;
    }

pub returns-clause-found : goal.returns-clause-found
returns-clause-found g c =
    let s = g.V.View.contents c.args.view.now in
    let w = g.V.View.world c.args.view.now in
    let r = c.args.roster in
    let count : c.edge_count_on-j-end.result ≡ edge_count_on s r = c.edge_count_on-j-end.ensures ∙ ap (λ v. edge_count_on v r) c.store-store.ensures in
    let all : length (edges_on s r) ≤ c.loop-j.j = (let le = c.loop-j-test.false in let long = length-edges_on s r in omega (arith, le, count, long)) in
    let nodes : Rises nat_cmp (nodes_on s r) = subst (λ v. Rises nat_cmp (nodes_on v r)) c.store-store.ensures c.roster_facts.ensures.nodes in
    let edges : Rises nat_cmp (edges_on s r) = subst (λ v. Rises nat_cmp (edges_on v r)) c.store-store.ensures c.roster_facts.ensures.edges in
    found_on s w (g.met.V.View.shown c.args.view.now) r c.requires.covers nodes edges c.loop-j.shown.items (edges_all s w r c.loop-j.j c.loop-j.shown.items all c.loop-j.invariant.entities) c.loop-j.invariant.parts

pub returns-clause-cost : goal.returns-clause-cost
returns-clause-cost g c =
    let s = g.V.View.contents c.args.view.now in
    let r = c.args.roster in
    let searches = g.V.View.searches c.args.view.now in
    let count : c.edge_count_on-j-end.result ≡ edge_count_on s r = c.edge_count_on-j-end.ensures ∙ ap (λ v. edge_count_on v r) c.store-store.ensures in
    let same : c.loop-j.j ≡ edge_count_on s r = (let over = c.loop-j.auto.j-end in let le = c.loop-j-test.false in omega (arith, over, le, count)) in
    subst (λ n. StepsWithin c.args.steps.now c.loop-j.steps (node_count_on s r * searches.nodes + n * searches.edges) (length s.accepted)) same c.loop-j.invariant.cost

pub returns-in_err-push_node-clause-cost : goal.returns-in_err-push_node-clause-cost
returns-in_err-push_node-clause-cost g c =
    let s = g.V.View.contents c.args.view.now in
    let r = c.args.roster in
    let searches = g.V.View.searches c.args.view.now in
    let count : c.node_count_on-i-end.result ≡ node_count_on s r = c.node_count_on-i-end.ensures ∙ ap (λ v. node_count_on v r) c.store-store.ensures in
    let below : c.loop-i.i < node_count_on s r = (let lt = c.loop-i-test.true in omega (arith, lt, count)) in
    node_within _ _ _ c.loop-i.i (node_count_on s r) searches.nodes (edge_count_on s r * searches.edges) _ below c.loop-i.invariant.cost c.push_node.ensures.cost

pub returns-in_err-push_edge-clause-cost : goal.returns-in_err-push_edge-clause-cost
returns-in_err-push_edge-clause-cost g c =
    let s = g.V.View.contents c.args.view.now in
    let r = c.args.roster in
    let searches = g.V.View.searches c.args.view.now in
    let count : c.edge_count_on-j-end.result ≡ edge_count_on s r = c.edge_count_on-j-end.ensures ∙ ap (λ v. edge_count_on v r) c.store-store.ensures in
    let below : c.loop-j.j < edge_count_on s r = (let lt = c.loop-j-test.true in omega (arith, lt, count)) in
    edge_within _ _ _ (node_count_on s r * searches.nodes) c.loop-j.j (edge_count_on s r) searches.edges _ below c.loop-j.invariant.cost c.push_edge.ensures.cost
