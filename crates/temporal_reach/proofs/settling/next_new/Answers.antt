use Rattle.std.proofs.Common.{◌≡◌, ℤ, ℕ, ◌<◌, ◌≤ℤ◌, None, length, inl, inr, sym, ap, subst, ◌∙◌, arith}
use Rattle.std.proofs.lemmas.List.Sorted.{Contains-permutation, IsPermutation-sym, length_permutation}
use Rattle.world_laws.proofs.Rows.{contains_cases, contains_first, contains_later, each_contained}
use Rattle.graph_store.specs.EdgeParts.{parts_at}
use Rattle.graph_store.specs.Contents.{Contents}
use Rattle.temporal_reach.specs.Reaching.{reached_at}
use Rattle.temporal_reach.proofs.TablePlaces.{none_from, some_not}
use Rattle.temporal_reach.proofs.settling.next_new.Goals as goal

pub edge_parts-layer-requires : goal.edge_parts-layer-requires
edge_parts-layer-requires g c =
    let x = c.in-Some.offer in
    let perm = c.in-Some.ensures.0 in
    subst (λ (s : Contents). x.1 < length s.edges) (sym c.store.ensures)
    (c.requires x (c.loop-offer.invariant.among x (Contains-permutation _ _ x (IsPermutation-sym _ _ perm) (contains_first x c.pop.new.self))))

pub returns-then-is_none : goal.returns-then-is_none
returns-then-is_none g c =
    let x = c.in-Some.offer in
    let contents = g.V.View.contents c.args.view.now in
    let perm = c.in-Some.ensures.0 in
    let inv = c.loop-offer.invariant in
    record {
      among = inv.among x (Contains-permutation _ _ x (IsPermutation-sym _ _ perm) (contains_first x c.pop.new.self));
      node = sym (c.edge_parts-layer.ensures.dst ∙ ap (λ (s : Contents). (parts_at s.edges x.1).dst) c.store.ensures);
      unreached = sym c.of.ensures ∙ none_from c.of.result c.if-is_none.ensures;
      kept = λ y q. (inv.among y (Contains-permutation _ _ y (IsPermutation-sym _ _ perm) (contains_later x c.pop.new.self y q)), each_contained (λ (z : ℤ × ℕ). x.0 ≤ℤ z.0) c.pop.new.self y c.in-Some.ensures.1 q);
      rest = λ y q. elim (inv.gone y q) [
        | inl there ↦ elim (contains_cases x c.pop.new.self y (Contains-permutation _ _ y perm there)) [ inl is ↦ inl (inr (sym is)) | inr r ↦ inl (inl r) ]
        | inr known ↦ inr known
      ];
    }

pub loop-offer-smaller : goal.loop-offer-smaller
loop-offer-smaller g c = let e = length_permutation _ _ c.in-Some.ensures.0 in omega (arith, e)

pub loop-offer-preserved : goal.loop-offer-preserved
loop-offer-preserved g c =
    let x = c.in-Some.offer in
    let contents = g.V.View.contents c.args.view.now in
    let perm = c.in-Some.ensures.0 in
    let inv = c.loop-offer.invariant in
    let known : reached_at c.args.table.now (parts_at contents.edges x.1).dst ≡ None → ⊥ = (λ e. some_not c.of.result c.if-is_none.ensures (c.of.ensures ∙ (ap (reached_at c.args.table.now) (c.edge_parts-layer.ensures.dst ∙ ap (λ (s : Contents). (parts_at s.edges x.1).dst) c.store.ensures) ∙ e))) in
    record {
      among = λ y q. inv.among y (Contains-permutation _ _ y (IsPermutation-sym _ _ perm) (contains_later x c.pop.new.self y q));
      gone = λ y q. elim (inv.gone y q) [
        | inl there ↦ elim (contains_cases x c.pop.new.self y (Contains-permutation _ _ y perm there)) [
          | inl is ↦ inr (subst (λ (z : ℤ × ℕ). reached_at c.args.table.now (parts_at contents.edges z.1).dst ≡ None → ⊥) is known)
          | inr r ↦ inl r
        ]
        | inr k ↦ inr k
      ];
    }
