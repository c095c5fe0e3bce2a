-- Offers that are added to others.
use Rattle.std.proofs.Common.{◌≡◌, ℕ, ℤ, ◌⊎◌, List, ◌∷◌, inl, inr, refl, sym, subst}
use Rattle.std.specs.Prelude.{IsPermutation, Some, None}
use Rattle.std.proofs.lemmas.List.Sorted.{Contains-permutation, IsPermutation-sym}
use Rattle.graph_model.specs.World.{World}
use Rattle.graph_model.specs.Presence.{IsContact}
use Rattle.world_laws.proofs.Rows.{contains_cases, contains_first, contains_later}
use Rattle.graph_store.specs.Contents.{Contents}
use Rattle.view_trait.specs.Meaning.{edge_named}
use Rattle.view_trait.specs.Contacts.{IsContactAfter}
use Rattle.temporal_reach.specs.Offers.{AreOffered, IsOffer, IsOffered}

module _ (c : Contents) (w : World) (after : ℤ) where
  -- none is added while all are left
  pub offered_none : (all left : ℕ → Type 0) (xs : List (ℤ × ℕ)) → ((e : ℕ) → all e → left e) → AreOffered c w after all left xs xs
  offered_none all left xs h = record { kept = λ x k. k; added = λ x k. inl k; each = λ e t a later contact. inl (h e a) }

  -- first some, and then some of those that are left
  pub offered_then : (all left here rest : ℕ → Type 0) (old mid new : List (ℤ × ℕ)) → AreOffered c w after all left old mid → AreOffered c w after here (λ k. ⊥) mid new → ((e : ℕ) → left e → here e ⊎ rest e) → ((e : ℕ) → here e → all e) → AreOffered c w after all rest old new
  offered_then all left here rest old mid new h k split within = record {
    kept = λ x q. k.kept x (h.kept x q);
    added = λ x q. elim (k.added x q) [ inl p ↦ h.added x p | inr r ↦ inr (within x.1 r.0, r.1) ];
    each = λ e t a later contact. elim (h.each e t a later contact) [
      | inl l ↦ elim (split e l) [
        | inl own ↦ elim (k.each e t own later contact) [ inl none ↦ absurd none | inr r ↦ inr r ]
        | inr r ↦ inl r
      ]
      | inr r ↦ inr (r.0, k.kept (r.0, e) r.1, r.2)
    ];
  }

  -- none is left
  pub offered_all : (all left : ℕ → Type 0) (old new : List (ℤ × ℕ)) → AreOffered c w after all left old new → ((e : ℕ) → left e → ⊥) → AreOffered c w after all (λ k. ⊥) old new
  offered_all all left old new h none = record {
    kept = h.kept;
    added = h.added;
    each = λ e t a later contact. elim (h.each e t a later contact) [ inl l ↦ inl (none e l) | inr r ↦ inr r ];
  }

  -- the same edges in other words
  pub offered_same : (all same : ℕ → Type 0) (old new : List (ℤ × ℕ)) → AreOffered c w after all (λ k. ⊥) old new → ((e : ℕ) → all e → same e) → ((e : ℕ) → same e → all e) → AreOffered c w after same (λ k. ⊥) old new
  offered_same all same old new h there back = record {
    kept = h.kept;
    added = λ x k. elim (h.added x k) [ inl p ↦ inl p | inr r ↦ inr (there x.1 r.0, r.1) ];
    each = λ e t a later contact. h.each e t (back e a) later contact;
  }

  -- an edge at its least contact, and one that has none
  pub offered_push : (e : ℕ) (m : ℤ) (old new : List (ℤ × ℕ)) → IsContactAfter w (edge_named c e) after (Some m) → IsPermutation ((m, e) ∷ old) new → AreOffered c w after (λ k. k ≡ e) (λ k. ⊥) old new
  offered_push e m old new h moved = record {
    kept = λ x k. Contains-permutation ((m, e) ∷ old) new x moved (contains_later (m, e) old x k);
    added = λ x k. elim (contains_cases (m, e) old x (Contains-permutation new ((m, e) ∷ old) x (IsPermutation-sym ((m, e) ∷ old) new moved) k)) [
      | inl is ↦ inr (subst (λ (z : ℤ × ℕ). (z.1 ≡ e) × IsOffer c w after z) is (refl, record { contact = h.1; later = h.0 }))
      | inr q ↦ inl q
    ];
    each = λ k t is later contact. inr (subst (λ z. IsOffered new z t) (sym is) (m, Contains-permutation ((m, e) ∷ old) new (m, e) moved (contains_first (m, e) old), h.2 t later (subst (λ z. IsContact w (edge_named c z) t) is contact)));
  }

  pub offered_nothing : (e : ℕ) (xs : List (ℤ × ℕ)) → IsContactAfter w (edge_named c e) after None → AreOffered c w after (λ k. k ≡ e) (λ k. ⊥) xs xs
  offered_nothing e xs h = record {
    kept = λ x k. k;
    added = λ x k. inl k;
    each = λ k t is later contact. absurd (h t later (subst (λ z. IsContact w (edge_named c z) t) is contact));
  }
