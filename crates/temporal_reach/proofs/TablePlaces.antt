-- A table of reached nodes: what it has of a node, and its nodes in their places.
use Rattle.std.proofs.Common.{◌≡◌, ℕ, Bool, true, false, List, [], ◌∷◌, Option, Some, None, cond, inl, inr, refl, sym, ◌∙◌, ap, subst, eqb-true, eq-eqb}
use Rattle.std.specs.Prelude.{is_some, nat_eq}
use Rattle.std.specs.List.{Contains}
use Rattle.std.proofs.lemmas.Bool.{false_from_ne_true, true≢false}
use Rattle.indexmap.specs.IndexMap.{insert_entry}
use Rattle.world_laws.proofs.Rows.{contains_cases, contains_first, contains_later, contains_none}
use Rattle.temporal_reach.specs.declared.reach_table.Reached.{Reached}
use Rattle.temporal_reach.specs.Reaching.{Puts, reached_at, nodes_in}

-- ---- what is there or not

pub none_from : {X : Type 0} (o : Option X) → is_some o ≡ false → o ≡ None
none_from None h = refl
none_from (Some x) h = cc

pub some_not : {X : Type 0} (o : Option X) → is_some o ≡ true → o ≡ None → ⊥
some_not None h e = cc
some_not (Some x) h e = cc

-- ---- one more

put_same : (table : List (ℕ × Reached)) (n : ℕ) (r : Reached) → reached_at (insert_entry nat_eq table n r) n ≡ Some r
put_same [] n r = ap (λ b. cond b (Some r) None) (eq-eqb n n refl)
put_same (e ∷ table) n r = by (put_same table n r) (nat_eq n e.0) refl
  where
    by : reached_at (insert_entry nat_eq table n r) n ≡ Some r → (t : Bool) → nat_eq n e.0 ≡ t → reached_at (cond t ((e.0, r) ∷ table) (e ∷ insert_entry nat_eq table n r)) n ≡ Some r
    by rest true is = ap (λ b. cond b (Some r) (reached_at table n)) is
    by rest false is = ap (λ b. cond b (Some e.1) (reached_at (insert_entry nat_eq table n r) n)) is ∙ rest

put_other : (table : List (ℕ × Reached)) (n : ℕ) (r : Reached) (k : ℕ) → (k ≡ n → ⊥) → reached_at (insert_entry nat_eq table n r) k ≡ reached_at table k
put_other [] n r k apart = ap (λ b. cond b (Some r) None) (false_from_ne_true (nat_eq k n) (λ e. apart (eqb-true k n e)))
put_other (e ∷ table) n r k apart = by (put_other table n r k apart) (nat_eq n e.0) refl
  where
    by : reached_at (insert_entry nat_eq table n r) k ≡ reached_at table k → (t : Bool) → nat_eq n e.0 ≡ t → reached_at (cond t ((e.0, r) ∷ table) (e ∷ insert_entry nat_eq table n r)) k ≡ reached_at (e ∷ table) k
    by rest true is =
        let other : nat_eq k e.0 ≡ false = false_from_ne_true (nat_eq k e.0) (λ same. apart (eqb-true k e.0 same ∙ sym (eqb-true n e.0 is))) in
        ap (λ b. cond b (Some r) (reached_at table k)) other ∙ sym (ap (λ b. cond b (Some e.1) (reached_at table k)) other)
    by rest false is = ap (λ o. cond (nat_eq k e.0) (Some e.1) o) rest

-- what an entry more says
pub put_entry : (table after : List (ℕ × Reached)) (n : ℕ) (r : Reached) → after ≡ insert_entry nat_eq table n r → Puts table n r after
put_entry table after n r is = (ap (λ l. reached_at l n) is ∙ put_same table n r, λ k apart. ap (λ l. reached_at l k) is ∙ put_other table n r k apart)

-- a reached node is listed
pub reached_listed : (table : List (ℕ × Reached)) (n : ℕ) (r : Reached) → reached_at table n ≡ Some r → Contains (nodes_in table) n
reached_listed [] n r e = cc
reached_listed (x ∷ table) n r e = by (reached_listed table n r) (nat_eq n x.0) refl e
  where
    by : (reached_at table n ≡ Some r → Contains (nodes_in table) n) → (t : Bool) → nat_eq n x.0 ≡ t → cond t (Some x.1) (reached_at table n) ≡ Some r → Contains (nodes_in (x ∷ table)) n
    by rest true is e = subst (Contains (nodes_in (x ∷ table))) (sym (eqb-true n x.0 is)) (contains_first x.0 (nodes_in table))
    by rest false is e = contains_later x.0 (nodes_in table) n (rest e)

-- and a listed node is reached
pub listed_reached : (table : List (ℕ × Reached)) (n : ℕ) → Contains (nodes_in table) n → (r : Reached) × (reached_at table n ≡ Some r)
listed_reached [] n there = absurd (contains_none n there)
listed_reached (x ∷ table) n there = by (listed_reached table n) (nat_eq n x.0) refl
  where
    by : (Contains (nodes_in table) n → (r : Reached) × (reached_at table n ≡ Some r)) → (t : Bool) → nat_eq n x.0 ≡ t → (r : Reached) × (reached_at (x ∷ table) n ≡ Some r)
    by rest true is = (x.1, ap (λ b. cond b (Some x.1) (reached_at table n)) is)
    by rest false is = elim (contains_cases x.0 (nodes_in table) n there) [
      | inl same ↦ absurd (let own = eq-eqb n x.0 (sym same) in true≢false (sym own ∙ is))
      | inr later ↦ let found = rest later in (found.0, ap (λ b. cond b (Some x.1) (reached_at table n)) is ∙ found.1)
    ]
