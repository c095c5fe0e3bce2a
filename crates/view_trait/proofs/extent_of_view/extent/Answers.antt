use Rattle.std.proofs.Common.{◌≡◌, ◌<◌, ◌≤◌, ◌+◌, ◌*◌, ◌^◌, length, ap, subst, ◌∙◌, arith, rules}
use Rattle.std.specs.Ordering.{nat_cmp}
use Rattle.std.specs.Prelude.{slice_get, Some}
use Rattle.graph_model.specs.Rising.{Rises}
use Rattle.graph_model.specs.Searches.{digits}
use Rattle.view_trait.specs.Coverage.{edge_count_on, edges_on, node_count_on, nodes_among, nodes_on}
use Rattle.view_trait.specs.declared.extent_of_view.WorldExtent.{WorldExtent}
use Rattle.view_trait.proofs.Costs.{spans_more, spans_after}
use Rattle.view_trait.proofs.Covered.{length-edges_on, length-nodes_on}
use Rattle.view_trait.proofs.Extents.{IsExtent-none, edges_extent, edges_whole, nodes_extent, nodes_whole}
use Rattle.view_trait.proofs.OnRoster.{no_less}
use Rattle.view_trait.proofs.extent_of_view.extent.Goals as goal

pub loop-i-init : goal.loop-i-init
loop-i-init g c =
    let none = ap (λ (r : WorldExtent). r.events) c.new-all.ensures in
    record { reach = omega arith; few = omega (arith, none); cost = omega arith; extent = IsExtent-none c.new-all.result c.new-all.ensures }

pub loop-i-preserved : goal.loop-i-preserved
loop-i-preserved g c =
    let s = g.V.View.contents c.args.view.now in
    let w = g.V.View.world c.args.view.now in
    let r = c.args.roster in
    let i = c.loop-i.i in
    let count : c.node_count_on-i-end.result ≡ node_count_on s r = c.node_count_on-i-end.ensures ∙ ap (λ v. node_count_on v r) c.store-store.ensures in
    let below : i < length (nodes_on s r) = (let lt = c.loop-i-test.true in let long = length-nodes_on s r in omega (arith, lt, count, long)) in
    let here : slice_get (nodes_on s r) i ≡ Some c.node.result.0 = subst (λ v. slice_get (nodes_on v r) i ≡ Some c.node.result.0) c.store-store.ensures c.node.ensures in
    let rise : Rises nat_cmp (nodes_on s r) = subst (λ v. Rises nat_cmp (nodes_on v r)) c.store-store.ensures c.roster_facts.ensures.nodes in
    let least = no_less (nodes_on s r) i c.node.result.0 rise below here in
    let range : c.node.result.0 < 2 ^ 32 = search rules in
    let joined = c.with-all.ensures in
    record {
      reach = omega (arith, least, range);
      few = omega (arith, joined.events, c.loop-i.invariant.few, c.node_extent.ensures.few);
      cost = spans_more _ _ _ i _ _ c.loop-i.invariant.cost c.node_extent.ensures.cost;
      extent = nodes_extent s w (g.met.V.View.shown c.args.view.now) (nodes_on s r) i c.node.result.0 c.loop-i.all c.node_extent.result c.with-all.result below here c.loop-i.invariant.extent c.node_extent.ensures.extent joined.events joined.first joined.last;
    }

pub loop-j-init : goal.loop-j-init
loop-j-init g c =
    let s = g.V.View.contents c.args.view.now in
    let w = g.V.View.world c.args.view.now in
    let r = c.args.roster in
    let count : c.node_count_on-i-end.result ≡ node_count_on s r = c.node_count_on-i-end.ensures ∙ ap (λ v. node_count_on v r) c.store-store.ensures in
    let all : c.loop-i.i ≡ node_count_on s r = omega (arith, count) in
    record {
      reach = omega arith;
      few = omega (arith, c.loop-i.invariant.few, c.loop-i.invariant.reach);
      cost =
          (let searches = g.V.View.searches c.args.view.now in
          let d = digits (length s.accepted) in
          let made : c.loop-i.steps ≤ c.args.steps.now + (node_count_on s r * searches.nodes) * d + 2 * node_count_on s r = subst (λ n. c.loop-i.steps ≤ c.args.steps.now + (n * searches.nodes) * d + 2 * n) all c.loop-i.invariant.cost in
          let none : (node_count_on s r * searches.nodes) * d ≡ (node_count_on s r * searches.nodes + 0 * searches.edges) * d = ap (λ n. n * d) (omega arith) in
          omega (arith, made, none));
      extent = nodes_whole s w (g.met.V.View.shown c.args.view.now) (nodes_on s r) c.loop-i.i c.loop-i.all (let long = length-nodes_on s r in omega (arith, all, long)) c.loop-i.invariant.extent;
    }

pub loop-j-preserved : goal.loop-j-preserved
loop-j-preserved g c =
    let s = g.V.View.contents c.args.view.now in
    let w = g.V.View.world c.args.view.now in
    let r = c.args.roster in
    let j = c.loop-j.j in
    let count : c.edge_count_on-j-end.result ≡ edge_count_on s r = c.edge_count_on-j-end.ensures ∙ ap (λ v. edge_count_on v r) c.store-store.ensures in
    let below : j < length (edges_on s r) = (let lt = c.loop-j-test.true in let long = length-edges_on s r in omega (arith, lt, count, long)) in
    let here : slice_get (edges_on s r) j ≡ Some c.edge.result.0 = subst (λ v. slice_get (edges_on v r) j ≡ Some c.edge.result.0) c.store-store.ensures c.edge.ensures in
    let rise : Rises nat_cmp (edges_on s r) = subst (λ v. Rises nat_cmp (edges_on v r)) c.store-store.ensures c.roster_facts.ensures.edges in
    let least = no_less (edges_on s r) j c.edge.result.0 rise below here in
    let range : c.edge.result.0 < 2 ^ 32 = search rules in
    let joined = c.with-all-in-loop-j.ensures in
    record {
      reach = omega (arith, least, range);
      few = omega (arith, joined.events, c.loop-j.invariant.few, c.edge_extent.ensures.few);
      cost = spans_after _ _ _ _ (node_count_on s r) j _ _ c.loop-j.invariant.cost c.edge_extent.ensures.cost;
      extent = edges_extent s w (g.met.V.View.shown c.args.view.now) (nodes_among s (nodes_on s r)) (edges_on s r) j c.edge.result.0 c.loop-j.all c.edge_extent.result c.with-all-in-loop-j.result below here c.loop-j.invariant.extent c.edge_extent.ensures.extent joined.events joined.first joined.last;
    }

pub returns-clause-extent : goal.returns-clause-extent
returns-clause-extent g c =
    let s = g.V.View.contents c.args.view.now in
    let w = g.V.View.world c.args.view.now in
    let r = c.args.roster in
    let count : c.edge_count_on-j-end.result ≡ edge_count_on s r = c.edge_count_on-j-end.ensures ∙ ap (λ v. edge_count_on v r) c.store-store.ensures in
    let all : length (edges_on s r) ≤ c.loop-j.j = (let le = c.loop-j-test.false in let long = length-edges_on s r in omega (arith, le, count, long)) in
    let nodes : Rises nat_cmp (nodes_on s r) = subst (λ v. Rises nat_cmp (nodes_on v r)) c.store-store.ensures c.roster_facts.ensures.nodes in
    let edges : Rises nat_cmp (edges_on s r) = subst (λ v. Rises nat_cmp (edges_on v r)) c.store-store.ensures c.roster_facts.ensures.edges in
    edges_whole s w (g.met.V.View.shown c.args.view.now) r c.loop-j.j c.loop-j.all c.requires.covers nodes edges all c.loop-j.invariant.extent

pub returns-clause-cost : goal.returns-clause-cost
returns-clause-cost g c =
    let s = g.V.View.contents c.args.view.now in
    let r = c.args.roster in
    let searches = g.V.View.searches c.args.view.now in
    let d = digits (length s.accepted) in
    let count : c.edge_count_on-j-end.result ≡ edge_count_on s r = c.edge_count_on-j-end.ensures ∙ ap (λ v. edge_count_on v r) c.store-store.ensures in
    let all : c.loop-j.j ≡ edge_count_on s r = omega (arith, count) in
    subst (λ n. c.loop-j.steps ≤ c.args.steps.now + (node_count_on s r * searches.nodes + n * searches.edges) * d + 2 * (node_count_on s r + n)) all c.loop-j.invariant.cost
