use Rattle.std.proofs.Common.{◌≡◌, ◌<◌, length, inl, inr, sym, ap, subst, ◌∙◌}
use Rattle.std.specs.List.{Contains}
use Rattle.world_laws.proofs.Rows.{contains_cases, contains_first, contains_later, each_contained}
use Rattle.graph_store.specs.Ends.{ends_at}
use Rattle.graph_store.specs.EdgeIndex.{edges_between}
use Rattle.graph_store.specs.PairIndex.{pairs_from}
use Rattle.graph_store.specs.Contents.{Contents}
use Rattle.view_trait.proofs.Pairs.{pairs_from_within}
use Rattle.temporal_reach.specs.Offers.{LeadsAnew, LeavesAnew}
use Rattle.temporal_reach.proofs.EdgePlaces.{IsOfPairs, leaves_pair, pair_leaves}
use Rattle.temporal_reach.proofs.Offering.{offered_none, offered_then}
use Rattle.temporal_reach.proofs.offers.offer_from.Goals as goal

pub loop-p-init : goal.loop-p-init
loop-p-init g c =
    let contents = g.V.View.contents c.args.view.now in
    let world = g.V.View.world c.args.view.now in
    let n = c.args.n.0 in
    let pairs : c.out_pairs-pairs.result ≡ pairs_from contents.pairs n = c.out_pairs-pairs.ensures ∙ ap (λ (s : Contents). pairs_from s.pairs n) c.store.ensures in
    record {
      among = λ p h. subst (λ xs. Contains xs p) pairs h;
      offered = offered_none contents world _ (LeavesAnew contents c.args.table.now n) (λ e. IsOfPairs contents c.out_pairs-pairs.result e × LeadsAnew contents c.args.table.now e) c.args.frontier.now
          (λ e h. (subst (λ xs. IsOfPairs contents xs e) (sym pairs) (leaves_pair contents n e (g.met.V.View.shown c.args.view.now).indexed h.0), h.1));
    }

pub offer_new_pair-requires : goal.offer_new_pair-requires
offer_new_pair-requires g c =
    let contents = g.V.View.contents c.args.view.now in
    let p = c.in-Some.p.0 in
    each_contained (λ k. k < length contents.pairs) (pairs_from contents.pairs c.args.n.0) p (pairs_from_within contents c.args.n.0)
    (c.loop-p.invariant.among p (subst (λ xs. Contains xs p) (sym c.in-Some.ensures.steps) (contains_first p c.next.new.self)))

pub loop-p-preserved : goal.loop-p-preserved
loop-p-preserved g c =
    let contents = g.V.View.contents c.args.view.now in
    let world = g.V.View.world c.args.view.now in
    let n = c.args.n.0 in
    let inv = c.loop-p.invariant in
    let table = c.args.table.now in
    let p = c.in-Some.p.0 in
    let step = c.in-Some.ensures.steps in
    record {
      among = λ k h. inv.among k (subst (λ xs. Contains xs k) (sym step) (contains_later p c.next.new.self k h));
      offered = offered_then contents world _ (LeavesAnew contents table n) (λ e. IsOfPairs contents c.loop-p.pairs e × LeadsAnew contents table e) (λ e. Contains (edges_between contents.edges (ends_at contents.pairs p)) e × LeadsAnew contents table e) (λ e. IsOfPairs contents c.next.new.self e × LeadsAnew contents table e) c.args.frontier.now c.loop-p.frontier c.offer_new_pair.new.frontier inv.offered c.in_ok-offer_new_pair.ensures
          (λ e h. elim (contains_cases p c.next.new.self h.0.0 (subst (λ xs. Contains xs h.0.0) step h.0.1)) [
            | inl is ↦ inl (subst (λ k. Contains (edges_between contents.edges (ends_at contents.pairs k)) e) (sym is) h.0.2, h.1)
            | inr r ↦ inr ((h.0.0, r, h.0.2), h.1)
          ])
          (λ e h. (pair_leaves contents n p e (inv.among p (subst (λ xs. Contains xs p) (sym step) (contains_first p c.next.new.self))) h.0, h.1));
    }
