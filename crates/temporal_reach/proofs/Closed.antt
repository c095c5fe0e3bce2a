-- The end of a search, and why it ends.
use Rattle.std.proofs.Common.{◌≡◌, ℕ, ◌+◌, ℤ, ◌<◌, ◌≤◌, Bool, true, false, List, [], ◌∷◌, Option, Some, None, cond, length, inl, inr, refl, sym, ◌∙◌, ap, arith}
use Rattle.std.specs.Prelude.{is_none}
use Rattle.std.specs.List.{Contains, filter, range_with_len}
use Rattle.std.proofs.lemmas.Bool.{cases_eq, true≢false}
use Rattle.std.proofs.lemmas.List.FromFn.{get_or-range_with_len, length-range_with_len}
use Rattle.std.proofs.lemmas.Int.{ints}
use Rattle.world_laws.proofs.Rows.{contains_cases, contains_none}
use Rattle.graph_model.specs.World.{World}
use Rattle.graph_store.specs.EdgeParts.{parts_at}
use Rattle.graph_store.specs.Contents.{Contents}
use Rattle.temporal_reach.specs.declared.reach_table.Reached.{Reached}
use Rattle.temporal_reach.specs.declared.reach_table.Reached.TheVariants.{Start, Moment}
use Rattle.temporal_reach.specs.Reaching.{Puts, reached_at}
use Rattle.temporal_reach.specs.Offers.{IsOffered}
use Rattle.temporal_reach.specs.Search.{AreKnown, IsSearch, IsSettledBy}

-- where each offer leads to a node that is reached, none is wanted any more
pub closed : (c : Contents) (w : World) (names : List (List ℕ)) (start : ℤ) (table : List (ℕ × Reached)) (offers : List (ℤ × ℕ)) → IsSearch c w names start table offers → AreKnown c table offers → IsSearch c w names start table []
closed c w names start table offers h known = record {
  within = h.within;
  seeded = h.seeded;
  started = h.started;
  certified = h.certified;
  reached = h.reached;
  offered = λ x q. absurd (contains_none x q);
  rising = λ n m by x e q. absurd (contains_none x q);
  followed = λ e t s. elim (h.followed e t s) [ inl settled ↦ inl settled | inr o ↦ inl (settled_by e t (reached_at table (parts_at c.edges e).dst) refl o) ];
}
  where
    settled_by : (e : ℕ) (t : ℤ) (r : Option Reached) → reached_at table (parts_at c.edges e).dst ≡ r → IsOffered offers e t → IsSettledBy table (parts_at c.edges e).dst t
    settled_by e t None d o = absurd (known (o.0, e) o.1 d)
    settled_by e t (Some Start) d o = inl d
    settled_by e t (Some (Moment k b)) d o = let a = h.rising (parts_at c.edges e).dst k b (o.0, e) d o.1 in let l = o.2 in inr (k, (b, d, omega (arith, ints)))

-- ---- why it ends

-- how many nodes of so many are not reached
abbrev pub unreached : ℕ → List (ℕ × Reached) → ℕ
unreached nodes table = length (filter (λ n. is_none (reached_at table n)) (range_with_len 0 nodes))

module _ (p q : ℕ → Bool) (weaker : (k : ℕ) → q k ≡ true → p k ≡ true) where
  no_more : (xs : List ℕ) → length (filter q xs) ≤ length (filter p xs)
  no_more [] = omega arith
  no_more (x ∷ xs) = by (q x) (p x) (weaker x) (no_more xs)
    where
      by : (a b : Bool) → (a ≡ true → b ≡ true) → length (filter q xs) ≤ length (filter p xs) → length (cond a (x ∷ filter q xs) (filter q xs)) ≤ length (cond b (x ∷ filter p xs) (filter p xs))
      by true true h rest = omega (arith, rest)
      by true false h rest = absurd (true≢false (sym (h refl)))
      by false true h rest = omega (arith, rest)
      by false false h rest = rest

  -- where one passes no longer, fewer pass
  one_less : (xs : List ℕ) (n : ℕ) → Contains xs n → p n ≡ true → q n ≡ false → length (filter q xs) < length (filter p xs)
  one_less [] n there before now = absurd (contains_none n there)
  one_less (x ∷ xs) n there before now = elim (contains_cases x xs n there) [
    | inl is ↦ first (ap p is ∙ before) (ap q is ∙ now)
    | inr later ↦ by (q x) (p x) (weaker x) (one_less xs n later before now)
  ]
    where
      first : p x ≡ true → q x ≡ false → length (filter q (x ∷ xs)) < length (filter p (x ∷ xs))
      first before now =
          let rest = no_more xs in
          let left : length (filter q (x ∷ xs)) ≡ length (filter q xs) = ap (λ b. length (cond b (x ∷ filter q xs) (filter q xs))) now in
          let all : length (filter p (x ∷ xs)) ≡ length (x ∷ filter p xs) = ap (λ b. length (cond b (x ∷ filter p xs) (filter p xs))) before in
          omega (arith, rest, left, all)

      by : (a b : Bool) → (a ≡ true → b ≡ true) → length (filter q xs) < length (filter p xs) → length (cond a (x ∷ filter q xs) (filter q xs)) < length (cond b (x ∷ filter p xs) (filter p xs))
      by true true h rest = omega (arith, rest)
      by true false h rest = absurd (true≢false (sym (h refl)))
      by false true h rest = omega (arith, rest)
      by false false h rest = rest

-- one that is reached leaves fewer
pub fewer : (nodes : ℕ) (table after : List (ℕ × Reached)) (n : ℕ) (r : Reached) → n < nodes → reached_at table n ≡ None → Puts table n r after → unreached nodes after < unreached nodes table
fewer nodes table after n r below none puts =
    one_less (λ k. is_none (reached_at table k)) (λ k. is_none (reached_at after k)) still (range_with_len 0 nodes) n
    (let long = length-range_with_len 0 nodes in let zeroth : 0 + n ≡ n = omega arith in (n, omega (arith, below, long), get_or-range_with_len 0 nodes n n below ∙ zeroth)) (ap is_none none) (ap is_none puts.0)
  where
    still : (k : ℕ) → is_none (reached_at after k) ≡ true → is_none (reached_at table k) ≡ true
    still k h = elim (cases_eq k n) [
      | inl same ↦ ap (λ j. is_none (reached_at table j)) same ∙ ap is_none none
      | inr apart ↦ ap is_none (sym (puts.1 k apart)) ∙ h
    ]
