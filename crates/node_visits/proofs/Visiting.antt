-- Visits, with those of more nodes.
use Rattle.std.proofs.Common.{◌≡◌, ℕ, zero, suc, ◌<◌, ◌≤◌, Bool, true, false, List, [], ◌∷◌, ◌++◌, length, get_or, refl, sym, ◌∙◌, ap, subst, inl, inr, arith}
use Rattle.std.proofs.lemmas.Bool.{cases_lt, eqb-true, cond-true, cond-false}
use Rattle.std.proofs.lemmas.List.{length_push, length-map, get_or-map}
use Rattle.std.proofs.Math.ListN.{get_or-append}
use Rattle.std.proofs.Math.Seq.{get_or-append_seam}
use Rattle.std.proofs.lemmas.Map.Views.{Contains-from_any}
use Rattle.node_visits.specs.declared.visited.Visit.{Visit}
use Rattle.node_visits.specs.Visits.{visit_at, node_in, mark_in, nodes_of, was_visited, visited_too, all_visited}

abbrev pub blank : Visit
blank = record { node = 0; mark = 0 }

-- a node was visited in some place
pub record Has (visits : List Visit) (n : ℕ) : Type 0 where
  pub place : ℕ
  pub below : place < length visits
  pub is : node_in visits place ≡ n

-- the same visits, and behind them some of nodes with a property, all with one mark
pub record IsMore (P : ℕ → Type 0) (mark : ℕ) (before after : List Visit) : Type 0 where
  pub longer : length before ≤ length after
  pub same : (i : ℕ) → i < length before → visit_at after i ≡ visit_at before i
  pub node : (i : ℕ) → length before ≤ i → i < length after → P (node_in after i)
  pub marked : (i : ℕ) → length before ≤ i → i < length after → mark_in after i ≡ mark

pub has_still : (P : ℕ → Type 0) (mark : ℕ) (before after : List Visit) (n : ℕ) → IsMore P mark before after → Has before n → Has after n
has_still P mark before after n more h = record {
  place = h.place;
  below = (let lt = h.below in let longer = more.longer in omega arith);
  is = ap (λ (v : Visit). v.node) (more.same h.place h.below) ∙ h.is;
}

more_none : (P : ℕ → Type 0) (mark : ℕ) (visits : List Visit) → IsMore P mark visits visits
more_none P mark visits = record {
  longer = omega arith;
  same = λ i lt. refl;
  node = λ i from below. absurd (omega arith);
  marked = λ i from below. absurd (omega arith);
}

more_more : (P : ℕ → Type 0) (mark : ℕ) (a b c : List Visit) → IsMore P mark a b → IsMore P mark b c → IsMore P mark a c
more_more P mark a b c h k = record {
  longer = (let u = h.longer in let v = k.longer in omega arith);
  same = λ i lt. k.same i (let u = h.longer in omega arith) ∙ h.same i lt;
  node = λ i from below. elim (cases_lt i (length b)) [
    | inl lt ↦ subst (λ (v : Visit). P v.node) (sym (k.same i lt)) (h.node i from lt)
    | inr ge ↦ k.node i ge below
  ];
  marked = λ i from below. elim (cases_lt i (length b)) [
    | inl lt ↦ ap (λ (v : Visit). v.mark) (k.same i lt) ∙ h.marked i from lt
    | inr ge ↦ k.marked i ge below
  ];
}

more_one : (P : ℕ → Type 0) (visits : List Visit) (n mark : ℕ) → P n → IsMore P mark visits (visits ++ (record { node = n; mark = mark }) ∷ [])
more_one P visits n mark p =
    let one : Visit = record { node = n; mark = mark } in
    let len = length_push visits one in
    let last : (i : ℕ) → length visits ≤ i → i < length (visits ++ one ∷ []) → visit_at (visits ++ one ∷ []) i ≡ one = λ i from below.
    subst (λ z. visit_at (visits ++ one ∷ []) z ≡ one) (let e : length visits ≡ i = omega arith in e) (get_or-append_seam visits one [] blank) in
    record {
      longer = omega (arith, len);
      same = λ i lt. get_or-append visits (one ∷ []) blank i lt;
      node = λ i from below. subst (λ (v : Visit). P v.node) (sym (last i from below)) p;
      marked = λ i from below. ap (λ (v : Visit). v.mark) (last i from below);
    }

-- one more node
module _ (P : ℕ → Type 0) (visits : List Visit) (n mark : ℕ) (p : P n) where
  more_too_by : (t : Bool) → was_visited visits n ≡ t → IsMore P mark visits (visited_too visits n mark)
  more_too_by true e = subst (IsMore P mark visits) (sym (cond-true (was_visited visits n) visits (visits ++ (record { node = n; mark = mark }) ∷ []) e)) (more_none P mark visits)
  more_too_by false e = subst (IsMore P mark visits) (sym (cond-false (was_visited visits n) visits (visits ++ (record { node = n; mark = mark }) ∷ []) e)) (more_one P visits n mark p)

  pub more_too : IsMore P mark visits (visited_too visits n mark)
  more_too = more_too_by (was_visited visits n) refl

-- it is visited then
has_visited : (visits : List Visit) (n : ℕ) → was_visited visits n ≡ true → Has visits n
has_visited visits n e =
    let r = Contains-from_any eqb-true n (nodes_of visits) e in
    let len = length-map visits (λ (v : Visit). v.node) in
    let lt : r.0 < length visits = omega (arith, len, r.1) in
    record { place = r.0; below = lt; is = sym (get_or-map (λ (v : Visit). v.node) visits r.0 blank n lt) ∙ r.2 }

has_last : (visits : List Visit) (n mark : ℕ) → Has (visits ++ (record { node = n; mark = mark }) ∷ []) n
has_last visits n mark =
    let one : Visit = record { node = n; mark = mark } in
    let len = length_push visits one in
    record { place = length visits; below = omega (arith, len); is = ap (λ (v : Visit). v.node) (get_or-append_seam visits one [] blank) }

has_too_by : (visits : List Visit) (n mark : ℕ) (t : Bool) → was_visited visits n ≡ t → Has (visited_too visits n mark) n
has_too_by visits n mark true e = subst (λ vs. Has vs n) (sym (cond-true (was_visited visits n) visits (visits ++ (record { node = n; mark = mark }) ∷ []) e)) (has_visited visits n e)
has_too_by visits n mark false e = subst (λ vs. Has vs n) (sym (cond-false (was_visited visits n) visits (visits ++ (record { node = n; mark = mark }) ∷ []) e)) (has_last visits n mark)

pub has_too : (visits : List Visit) (n mark : ℕ) → Has (visited_too visits n mark) n
has_too visits n mark = has_too_by visits n mark (was_visited visits n) refl

-- more nodes, one after another
pub more_all : (P : ℕ → Type 0) (mark : ℕ) (numbers : List ℕ) (visits : List Visit) → ((j : ℕ) → j < length numbers → P (get_or numbers j 0)) → IsMore P mark visits (all_visited mark numbers visits)
more_all P mark [] visits h = more_none P mark visits
more_all P mark (n ∷ numbers) visits h =
    more_more P mark visits (visited_too visits n mark) (all_visited mark numbers (visited_too visits n mark)) (more_too P visits n mark (h 0 (omega arith)))
    (more_all P mark numbers (visited_too visits n mark) (λ j lt. h (suc j) (omega arith)))

any_more : (mark : ℕ) (numbers : List ℕ) (visits : List Visit) → IsMore (λ n. Unit {0}) mark visits (all_visited mark numbers visits)
any_more mark numbers visits = more_all (λ n. Unit {0}) mark numbers visits (λ j lt. tt)

pub has_all : (mark : ℕ) (numbers : List ℕ) (visits : List Visit) (j : ℕ) → j < length numbers → Has (all_visited mark numbers visits) (get_or numbers j 0)
has_all mark [] visits j lt = absurd (omega arith)
has_all mark (n ∷ numbers) visits zero lt = has_still (λ n. Unit {0}) mark (visited_too visits n mark) (all_visited mark numbers (visited_too visits n mark)) n (any_more mark numbers (visited_too visits n mark)) (has_too visits n mark)
has_all mark (n ∷ numbers) visits (suc j) lt = has_all mark numbers (visited_too visits n mark) j (omega arith)
