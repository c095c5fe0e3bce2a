-- Places that are joined by links, one after another, end as least places.
use Rattle.std.proofs.Common.{◌≡◌, ◌≢◌, ℕ, ◌+◌, ◌<◌, ◌≤◌, ◌⊎◌, Bool, true, false, List, length, get_or, refl, sym, ◌∙◌, ap, subst, inl, inr, arith, eq-eqb}
use Rattle.std.specs.Prelude.{◌==◌, nat_lt, if◌then◌else◌}
use Rattle.std.specs.List.{range_with_len}
use Rattle.std.proofs.lemmas.Bool.{cases_eq, cases_lt, cond-true, cond-false, le-ltb, lt-ltb, ne_eqb}
use Rattle.std.proofs.lemmas.List.{get_or-map, length-map}
use Rattle.std.proofs.lemmas.List.FromFn.{get_or-range_with_len, length-range_with_len}
use Rattle.graph_model.specs.declared.queries.Direction.TheVariants.{Both}
use Rattle.graph_model.specs.Neighbours.{leads}
use Rattle.graph_model.specs.Presence.{node_present}
use Rattle.graph_model.specs.Walk.{Reaches}
use Rattle.graph_model.specs.World.{World}
use Rattle.disjoint_sets.specs.Sets.{joined, least_joined}
use Rattle.walk_laws.specs.Labels.{AreReached}
use Rattle.walk_laws.specs.Numbers.{name_of}
use Rattle.walk_laws.proofs.Turned.{leads_back, reach_all, reach_on, reach_own, turn}

-- ---- the lesser of two least numbers

joined_below : (x y n : ℕ) → x < y → least_joined x y n ≡ (if n == y then x else n)
joined_below x y n less = cond-true (nat_lt x y) (if n == y then x else n) (if n == x then y else n) (lt-ltb x y less)

joined_above : (x y n : ℕ) → y ≤ x → least_joined x y n ≡ (if n == x then y else n)
joined_above x y n le = cond-false (nat_lt x y) (if n == y then x else n) (if n == x then y else n) (le-ltb x y le)

-- a least number stays, or it is the greater and becomes the lesser
record Joins (x y n m : ℕ) : Type 0 where
  lower : m ≤ n
  by : (m ≡ n) ⊎ (((n ≡ y) × (m ≡ x)) ⊎ ((n ≡ x) × (m ≡ y)))

joins : (x y n : ℕ) → Joins x y n (least_joined x y n)
joins x y n = elim (cases_lt x y) [
  | inl less ↦ elim (cases_eq n y) [
    | inl same ↦
        let e = joined_below x y n less ∙ cond-true (n == y) x n (eq-eqb n y same) in
        record { lower = omega arith; by = inr (inl (same, e)) }
    | inr other ↦
        let e = joined_below x y n less ∙ cond-false (n == y) x n (ne_eqb n y other) in
        record { lower = omega arith; by = inl e }
  ]
  | inr le ↦ elim (cases_eq n x) [
    | inl same ↦
        let e = joined_above x y n le ∙ cond-true (n == x) y n (eq-eqb n x same) in
        record { lower = omega arith; by = inr (inr (same, e)) }
    | inr other ↦
        let e = joined_above x y n le ∙ cond-false (n == x) y n (ne_eqb n x other) in
        record { lower = omega arith; by = inl e }
  ]
]

-- it becomes that of both
joined_alike : (x y : ℕ) → least_joined x y x ≡ least_joined x y y
joined_alike x y = elim (cases_lt x y) [
  | inl less ↦
      let apart : x ≢ y = λ e. absurd (omega arith) in
      joined_below x y x less ∙ (cond-false (x == y) x x (ne_eqb x y apart) ∙ sym (joined_below x y y less ∙ cond-true (y == y) x y (eq-eqb y y refl)))
  | inr le ↦ joined_above x y x le ∙ (cond-true (x == x) y x (eq-eqb x x refl) ∙ sym (joined_above x y y le ∙ same (y == x)))
]
  where
    same : (t : Bool) → (if t then y else y) ≡ y
    same true = refl
    same false = refl

-- ---- places

-- each place alone
pub reached_none : (w : World) (names : List (List ℕ)) → ((i : ℕ) → i < length names → node_present w (name_of names i) ≡ true) → AreReached w names (range_with_len 0 (length names))
reached_none w names present =
    let own : (i : ℕ) → i < length names → get_or (range_with_len 0 (length names)) i 0 ≡ i = λ i lt. get_or-range_with_len 0 (length names) i 0 lt ∙ (let e : 0 + i ≡ i = omega arith in e) in
    record {
      each = length-range_with_len 0 (length names);
      lower = λ i lt. let e = own i lt in omega arith;
      reached = λ i lt. subst (λ n. Reaches w Both (name_of names i) (name_of names n)) (sym (own i lt)) (reach_own w Both (name_of names i) (present i lt));
    }

-- the places of two neighbours are joined
module _ (w : World) (names : List (List ℕ)) (least : List ℕ) (h : AreReached w names least) (a b : ℕ) (below_a : a < length names) (below_b : b < length names)
    (led : leads w Both (name_of names a) (name_of names b) ≡ true) where
  abbrev least_of : ℕ → ℕ
  least_of i = get_or least i 0

  abbrev name_at : ℕ → List ℕ
  name_at i = name_of names i

  abbrev more : List ℕ
  more = joined (least_of a) (least_of b) least

  more_at : (i : ℕ) → i < length names → get_or more i 0 ≡ least_joined (least_of a) (least_of b) (least_of i)
  more_at i lt = let each = h.each in get_or-map (least_joined (least_of a) (least_of b)) least i 0 0 (omega arith)

  to_least : (i : ℕ) → i < length names → Reaches w Both (name_at i) (name_at (least_of i))
  to_least i lt = h.reached i lt

  from_least : (i : ℕ) → i < length names → Reaches w Both (name_at (least_of i)) (name_at i)
  from_least i lt = turn w Both (name_at i) (name_at (least_of i)) (to_least i lt)

  led_back : leads w Both (name_at b) (name_at a) ≡ true
  led_back = sym (leads_back w Both (name_at a) (name_at b)) ∙ led

  a_to_b : Reaches w Both (name_at (least_of a)) (name_at (least_of b))
  a_to_b = reach_all w Both (name_at (least_of a)) (name_at b) (name_at (least_of b)) (reach_on w Both (name_at (least_of a)) (name_at a) (name_at b) (from_least a below_a) led) (to_least b below_b)

  b_to_a : Reaches w Both (name_at (least_of b)) (name_at (least_of a))
  b_to_a = turn w Both (name_at (least_of a)) (name_at (least_of b)) a_to_b

  reached_at : (i m : ℕ) → i < length names → Joins (least_of a) (least_of b) (least_of i) m → Reaches w Both (name_at i) (name_at m)
  reached_at i m lt j = elim j.by [
    | inl same ↦ subst (λ n. Reaches w Both (name_at i) (name_at n)) (sym same) (to_least i lt)
    | inr moved ↦ elim moved [
      | inl b_moves ↦
          reach_all w Both (name_at i) (name_at (least_of b)) (name_at m) (subst (λ n. Reaches w Both (name_at i) (name_at n)) b_moves.0 (to_least i lt))
          (subst (λ n. Reaches w Both (name_at (least_of b)) (name_at n)) (sym b_moves.1) b_to_a)
      | inr a_moves ↦
          reach_all w Both (name_at i) (name_at (least_of a)) (name_at m) (subst (λ n. Reaches w Both (name_at i) (name_at n)) a_moves.0 (to_least i lt))
          (subst (λ n. Reaches w Both (name_at (least_of a)) (name_at n)) (sym a_moves.1) a_to_b)
    ]
  ]

  pub reached_more : AreReached w names more
  reached_more = record {
    each = length-map least (least_joined (least_of a) (least_of b)) ∙ h.each;
    lower = λ i lt.
        let e = more_at i lt in
        let low = (joins (least_of a) (least_of b) (least_of i)).lower in
        let lower = h.lower i lt in
        omega arith;
    reached = λ i lt. subst (λ n. Reaches w Both (name_at i) (name_at n)) (sym (more_at i lt)) (reached_at i (least_joined (least_of a) (least_of b) (least_of i)) lt (joins (least_of a) (least_of b) (least_of i)));
  }

  -- what was joined stays so, and the two are
  pub still_joined : (i j : ℕ) → i < length names → j < length names → least_of i ≡ least_of j → get_or more i 0 ≡ get_or more j 0
  still_joined i j lt_i lt_j e = more_at i lt_i ∙ (ap (least_joined (least_of a) (least_of b)) e ∙ sym (more_at j lt_j))

  pub now_joined : get_or more a 0 ≡ get_or more b 0
  now_joined = more_at a below_a ∙ (joined_alike (least_of a) (least_of b) ∙ sym (more_at b below_b))
