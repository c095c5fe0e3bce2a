-- Walks breadth first: the nodes are visited level by level.
use Rattle.std.proofs.Common.{◌≡◌, ℕ, ◌+◌, ◌<◌, ◌≤◌, List, [], ◌∷◌, length, refl, sym, ◌∙◌, ap, subst, inl, inr, arith}
use Rattle.std.proofs.lemmas.Bool.{cases_lt}
use Rattle.node_visits.specs.declared.visited.Visit.{Visit}
use Rattle.node_visits.specs.Visits.{node_in, mark_in}
use Rattle.node_visits.specs.Levels.{Within, IsWalking}
use Rattle.node_visits.proofs.Visiting.{Has, IsMore}

-- the start alone
abbrev pub begin : ℕ → List Visit
begin start = (record { node = start; mark = 0 }) ∷ []

pub walk_begins : (next : ℕ → ℕ → Type 0) (far : ℕ → ℕ → Type 0) (start : ℕ) → far 0 start → IsWalking next far start (begin start) 0
walk_begins next far start h = record {
  within = omega arith;
  begun = record { place = 0; below = omega arith; is = refl; near = omega arith };
  sound = λ i lt. subst (λ z. far (mark_in (begin start) z) (node_in (begin start) z)) (let e : 0 ≡ i = omega arith in e) h;
  rise = λ i j less lt. absurd (omega arith);
  near = λ i j from lt_i lt_j. let e : mark_in (begin start) j ≡ 0 = ap (mark_in (begin start)) (let z : j ≡ 0 = omega arith in z) in omega arith;
  few = λ i lt. let e : mark_in (begin start) i ≡ 0 = ap (mark_in (begin start)) (let z : i ≡ 0 = omega arith in z) in omega arith;
  closed = λ i lt. absurd (omega arith);
}

-- one more is settled, once the nodes to which it leads are visited
module _
    (next : ℕ → ℕ → Type 0) (far : ℕ → ℕ → Type 0) (on : (k a b : ℕ) → far k a → next a b → far (k + 1) b)
    (start : ℕ) (before after : List Visit) (i : ℕ) (h : IsWalking next far start before i) (lt : i < length before)
    (more : IsMore (next (node_in before i)) (mark_in before i + 1) before after)
    (all : (b : ℕ) → next (node_in before i) b → Has after b) where
  node_still : (j : ℕ) → j < length before → node_in after j ≡ node_in before j
  node_still j below = ap (λ (v : Visit). v.node) (more.same j below)

  mark_still : (j : ℕ) → j < length before → mark_in after j ≡ mark_in before j
  mark_still j below = ap (λ (v : Visit). v.mark) (more.same j below)

  within_still : (n k : ℕ) → Within before n k → Within after n k
  within_still n k w = record {
    place = w.place;
    below = (let u = w.below in let v = more.longer in omega arith);
    is = node_still w.place w.below ∙ w.is;
    near = (let e = mark_still w.place w.below in let u = w.near in omega arith);
  }

  -- no mark is more than one step further
  most : (j : ℕ) → j < length after → mark_in after j ≤ mark_in before i + 1
  most j below = elim (cases_lt j (length before)) [
    | inl old ↦ let e = mark_still j old in let u = h.near i j (omega arith) lt old in omega arith
    | inr new ↦ let e = more.marked j new below in omega arith
  ]

  sound_on : (j : ℕ) → j < length after → far (mark_in after j) (node_in after j)
  sound_on j below = elim (cases_lt j (length before)) [
    | inl old ↦ subst (λ (v : Visit). far v.mark v.node) (sym (more.same j old)) (h.sound j old)
    | inr new ↦ subst (λ k. far k (node_in after j)) (sym (more.marked j new below)) (on (mark_in before i) (node_in before i) (node_in after j) (h.sound i lt) (more.node j new below))
  ]

  rise_on : (p q : ℕ) → p < q → q < length after → mark_in after p ≤ mark_in after q
  rise_on p q less below = elim (cases_lt q (length before)) [
    | inl old ↦ let e = mark_still p (omega arith) in let f = mark_still q old in let u = h.rise p q less old in omega arith
    | inr new ↦ let e = more.marked q new below in let u = most p (omega arith) in omega arith
  ]

  -- what is yet to be settled is as far as the one that is settled, at least
  least : (j : ℕ) → i < j → j < length after → mark_in before i ≤ mark_in after j
  least j from below = let e = mark_still i lt in let u = rise_on i j from below in omega arith

  few_on : (j : ℕ) → j < length after → mark_in after j ≤ j
  few_on j below = elim (cases_lt j (length before)) [
    | inl old ↦ let e = mark_still j old in let u = h.few j old in omega arith
    | inr new ↦ let e = more.marked j new below in let u = h.few i lt in omega arith
  ]

  closed_old : (j : ℕ) → j < i → (b : ℕ) → next (node_in after j) b → Within after b (mark_in after j + 1)
  closed_old j old b leads =
      let below : j < length before = omega arith in
      subst (λ k. Within after b (k + 1)) (sym (mark_still j below)) (within_still b (mark_in before j + 1) (h.closed j old b (subst (λ a. next a b) (node_still j below) leads)))

  closed_new : (b : ℕ) → next (node_in after i) b → Within after b (mark_in after i + 1)
  closed_new b leads =
      let has = all b (subst (λ a. next a b) (node_still i lt) leads) in
      record {
        place = has.place;
        below = has.below;
        is = has.is;
        near = (let u = most has.place has.below in let e = mark_still i lt in omega arith);
      }

  closed_on : (j : ℕ) → j < i + 1 → (b : ℕ) → next (node_in after j) b → Within after b (mark_in after j + 1)
  closed_on j below b leads = elim (cases_lt j i) [
    | inl old ↦ closed_old j old b leads
    | inr new ↦
        let e : i ≡ j = omega arith in
        subst (λ z. next (node_in after z) b → Within after b (mark_in after z + 1)) e (closed_new b) leads
  ]

  pub walk_goes_on : IsWalking next far start after (i + 1)
  walk_goes_on = record {
    within = (let u = more.longer in omega arith);
    begun = within_still start 0 h.begun;
    sound = sound_on;
    rise = rise_on;
    near = λ p q from lt_p lt_q. let u = least p (omega arith) lt_p in let v = most q lt_q in omega arith;
    few = few_on;
    closed = closed_on;
  }
