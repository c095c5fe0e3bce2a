use Rattle.std.proofs.Common.{ℤ, w64, sym, ap, subst, ◌∙◌}
use Rattle.std.specs.List.{Contains}
use Rattle.std.proofs.lemmas.Int.{to_z-of_z}
use Rattle.std.proofs.lemmas.Result.{on_ok_weaker}
use Rattle.graph_store.specs.Ends.{ends_at}
use Rattle.graph_store.specs.EdgeIndex.{edges_between}
use Rattle.graph_store.specs.Contents.{Contents}
use Rattle.temporal_reach.specs.Offers.{AreOffered, LeadsAnew}
use Rattle.temporal_reach.specs.Reaching.{reached_at}
use Rattle.temporal_reach.proofs.EdgePlaces.{pair_leads_to}
use Rattle.temporal_reach.proofs.Offering.{offered_none, offered_same}
use Rattle.temporal_reach.proofs.TablePlaces.{none_from, some_not}
use Rattle.temporal_reach.proofs.offers.offer_new_pair.Goals as goal

pub returns-then-is_some : goal.returns-then-is_some
returns-then-is_some g c =
    let contents = g.V.View.contents c.args.view.now in
    let p = c.args.pair.0 in
    let dst = c.pair_ends.ensures.dst ∙ ap (λ (s : Contents). (ends_at s.pairs p).dst) c.store.ensures in
    offered_none contents (g.V.View.world c.args.view.now) _ (λ e. Contains (edges_between contents.edges (ends_at contents.pairs p)) e × LeadsAnew contents c.args.table.now e) (λ k. ⊥) c.args.frontier.now
    (λ e h. some_not c.of.result (sym c.if-is_some.ensures) (c.of.ensures ∙ (ap (reached_at c.args.table.now) (dst ∙ pair_leads_to contents p e h.0) ∙ h.1)))

pub returns : goal.returns
returns g c =
    let contents = g.V.View.contents c.args.view.now in
    let world = g.V.View.world c.args.view.now in
    let p = c.args.pair.0 in
    let edges = edges_between contents.edges (ends_at contents.pairs p) in
    let dst = c.pair_ends.ensures.dst ∙ ap (λ (s : Contents). (ends_at s.pairs p).dst) c.store.ensures in
    on_ok_weaker c.offer_pair.result
    (λ h. offered_same contents world c.args.after (Contains edges) (λ e. Contains edges e × LeadsAnew contents c.args.table.now e) c.args.frontier.now c.offer_pair.new.frontier (subst (λ (z : ℤ). AreOffered contents world z (Contains edges) (λ k. ⊥) c.args.frontier.now c.offer_pair.new.frontier) (to_z-of_z w64 c.args.after c.ranges.after) h)
    (λ e k. (k, ap (reached_at c.args.table.now) (sym (dst ∙ pair_leads_to contents p e k)) ∙ (sym c.of.ensures ∙ none_from c.of.result (sym c.if-is_some.ensures))))
    (λ e k. k.0)) c.offer_pair.ensures
