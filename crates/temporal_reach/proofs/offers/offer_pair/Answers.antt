use Rattle.std.proofs.Common.{◌≡◌, ◌<◌, ◌∷◌, length, inl, inr, sym, subst}
use Rattle.std.specs.List.{Contains}
use Rattle.world_laws.proofs.Rows.{contains_cases, contains_first, contains_later, each_contained}
use Rattle.graph_store.specs.Ends.{ends_at}
use Rattle.graph_store.specs.EdgeIndex.{edges_between}
use Rattle.view_trait.proofs.Pairs.{edges_within}
use Rattle.temporal_reach.proofs.Offering.{offered_then}
use Rattle.temporal_reach.proofs.offers.offer_pair.Goals as goal

pub offer_edge-requires : goal.offer_edge-requires
offer_edge-requires g c =
    let contents = g.V.View.contents c.args.view.now in
    let ends = ends_at contents.pairs c.args.pair.0 in
    let e = c.in-Some.e.0 in
    each_contained (λ k. k < length contents.edges) (edges_between contents.edges ends) e (edges_within contents ends)
    (c.loop-e.invariant.among e (subst (λ xs. Contains xs e) (sym c.in-Some.ensures.steps) (contains_first e c.next.new.self)))

pub loop-e-preserved : goal.loop-e-preserved
loop-e-preserved g c =
    let contents = g.V.View.contents c.args.view.now in
    let world = g.V.View.world c.args.view.now in
    let all = edges_between contents.edges (ends_at contents.pairs c.args.pair.0) in
    let inv = c.loop-e.invariant in
    let e = c.in-Some.e.0 in
    let step = c.in-Some.ensures.steps in
    record {
      among = λ k h. inv.among k (subst (λ xs. Contains xs k) (sym step) (contains_later e c.next.new.self k h));
      offered = offered_then contents world _ (Contains all) (Contains c.loop-e.edges) (λ k. k ≡ e) (Contains c.next.new.self) c.args.frontier.now c.loop-e.frontier c.offer_edge.new.frontier inv.offered c.in_ok-offer_edge.ensures
          (λ k h. elim (contains_cases e c.next.new.self k (subst (λ xs. Contains xs k) step h)) [ inl is ↦ inl (sym is) | inr r ↦ inr r ])
          (λ k is. inv.among k (subst (λ xs. Contains xs k) (sym step) (subst (Contains (e ∷ c.next.new.self)) (sym is) (contains_first e c.next.new.self))));
    }
