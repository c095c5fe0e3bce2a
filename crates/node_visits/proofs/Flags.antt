-- Flags that say which nodes were visited.
use Rattle.std.proofs.Common.{◌≡◌, ℕ, ◌<◌, ◌≤◌, Bool, true, false, ◌||◌, List, [], ◌∷◌, ◌++◌, length, replicate, set, get_or, refl, sym, ◌∙◌, ap, subst, arith, eqb, eq-eqb, get_or-set_same, get_or-set_other}
use Rattle.std.specs.Cmp.{nat_eq_equiv}
use Rattle.std.specs.List.{list_any, All, IsDistinct}
use Rattle.std.proofs.lemmas.Bool.{eqb-true, true≢false}
use Rattle.std.proofs.Math.ListN.{length-set}
use Rattle.std.proofs.lemmas.List.{map-append, length-map, length-replicate, get_or-replicate}
use Rattle.std.proofs.lemmas.List.Folds.{list_any-append}
use Rattle.std.proofs.lemmas.List.Elements.{All-nil, All-push, All-contains}
use Rattle.std.proofs.lemmas.Map.Keys.{IsDistinct-push, IsDistinct-from_apart}
use Rattle.std.proofs.lemmas.Map.Steps.{length-le_from_distinct_below}
use Rattle.std.proofs.lemmas.Map.Views.{Contains-from_any}
use Rattle.node_visits.specs.declared.visited.Visit.{Visit}
use Rattle.node_visits.specs.Visits.{nodes_of, was_visited, AreVisits, AreFlagged}

-- there are at most as many visits as nodes
pub few_visits : (limit : ℕ) (visits : List Visit) → AreVisits limit visits → length visits ≤ limit
few_visits limit visits h =
    let n = length-map visits (λ (v : Visit). v.node) in
    let few = length-le_from_distinct_below (nodes_of visits) limit h.once (λ q e. All-contains (λ n. n < limit) (nodes_of visits) q h.within (Contains-from_any eqb-true q (nodes_of visits) e)) in
    omega (arith, n, few)

-- no flag is set where no node was visited
pub none_flagged : (n : ℕ) (flags : List Bool) (visits : List Visit) → flags ≡ replicate n false → visits ≡ [] → AreFlagged flags visits
none_flagged n flags visits is none = subst (AreFlagged flags) (sym none) (record {
  different = record {
    within = All-nil (λ n. n < length flags);
    once = IsDistinct-from_apart eqb [] (λ i j d less below. absurd (omega arith));
  };
  flagged = λ i below.
      let lt : i < n = (let len = ap length is in let size = length-replicate n false in omega (arith, len, size, below)) in
      ap (λ fs. get_or fs i false) is ∙ get_or-replicate n i false false lt;
})

-- a node with no flag is visited, and its flag is set
module _ (flags : List Bool) (visits : List Visit) (h : AreFlagged flags visits) (n mark : ℕ) (below : n < length flags) (new : get_or flags n false ≡ false) where
  abbrev one : Visit
  one = record { node = n; mark = mark }

  nodes_more : nodes_of (visits ++ one ∷ []) ≡ nodes_of visits ++ n ∷ []
  nodes_more = map-append (λ (v : Visit). v.node) visits (one ∷ [])

  pub not_visited : was_visited visits n ≡ false
  not_visited = sym (h.flagged n below) ∙ new

  same_len : length (set flags n true) ≡ length flags
  same_len = length-set flags n true

  found_more : (k : ℕ) → was_visited (visits ++ one ∷ []) k ≡ (was_visited visits k || eqb k n)
  found_more k = ap (list_any (eqb k)) nodes_more ∙ (list_any-append (eqb k) (nodes_of visits) (n ∷ []) ∙ ap (λ t. was_visited visits k || t) (last (eqb k n)))
    where
      last : (t : Bool) → (t || false) ≡ t
      last true = refl
      last false = refl

  flag_more : (k : ℕ) → k < length flags → (t : Bool) → eqb k n ≡ t → get_or (set flags n true) k false ≡ (was_visited visits k || eqb k n)
  flag_more k lt true e =
      subst (λ z. get_or (set flags n true) z false ≡ (was_visited visits z || eqb z n)) (sym (eqb-true k n e))
      (get_or-set_same flags n true false below ∙ (λ i. sym (always (was_visited visits n)) i) ∙ ap (λ t. was_visited visits n || t) (sym (eq-eqb n n refl)))
    where
      always : (t : Bool) → (t || true) ≡ true
      always true = refl
      always false = refl
  flag_more k lt false e =
      get_or-set_other flags n k true false (λ s. true≢false (sym (eq-eqb k n s) ∙ e))
      ∙ (h.flagged k lt ∙ (sym (alone (was_visited visits k)) ∙ ap (λ t. was_visited visits k || t) (sym e)))
    where
      alone : (t : Bool) → (t || false) ≡ t
      alone true = refl
      alone false = refl

  pub one_flagged : AreFlagged (set flags n true) (visits ++ one ∷ [])
  one_flagged = record {
    different = record {
      within = subst (All (λ m. m < length (set flags n true))) (sym nodes_more) (subst (λ l. All (λ m. m < l) (nodes_of visits ++ n ∷ [])) (sym same_len) (All-push (λ m. m < length flags) (nodes_of visits) n h.different.within below));
      once = subst (λ ns. IsDistinct eqb ns) (sym nodes_more) (IsDistinct-push nat_eq_equiv (nodes_of visits) n h.different.once not_visited);
    };
    flagged = λ k lt. flag_more k (subst (λ l. k < l) same_len lt) (eqb k n) refl ∙ sym (found_more k);
  }
