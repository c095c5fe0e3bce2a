-- Places in lists, and the numbers of names.
use Rattle.std.proofs.Common.{◌≡◌, ℕ, suc, ◌<◌, Bool, true, List, [], ◌∷◌, length, get_or, refl, sym, ◌∙◌, ap, inl, inr, arith, eqb, eq-eqb}
use Rattle.std.specs.List.{list_any, IsDistinct}
use Rattle.std.proofs.lemmas.Bool.{cases_order, true≢false, or_cases}
use Rattle.std.proofs.lemmas.List.{get_or-map, length-map}
use Rattle.std.proofs.lemmas.Map.Keys.{apart_from_distinct}
use Rattle.graph_model.specs.Names.{same_name}
use Rattle.graph_model.specs.World.{World}
use Rattle.graph_model.specs.Presence.{node_present}
use Rattle.world_laws.proofs.Order.{same_name-refl, same_name-exact}
use Rattle.node_visits.specs.declared.visited.Visit.{Visit}
use Rattle.node_visits.specs.Visits.{AreVisits, node_in, nodes_of}
use Rattle.node_visits.proofs.Visiting.{blank}
use Rattle.walk_laws.specs.Numbers.{AreNumbers, name_of}

-- a place of an item that passes a test
pub record Place {X : Type 0} (p : X → Bool) (xs : List X) (d : X) : Type 0 where
  pub place : ℕ
  pub below : place < length xs
  pub passes : p (get_or xs place d) ≡ true

pub some_place : {X : Type 0} (p : X → Bool) (xs : List X) (d : X) → list_any p xs ≡ true → Place p xs d
some_place p [] d h = absurd (true≢false (sym h))
some_place p (x ∷ xs) d h = elim (or_cases (p x) (list_any p xs) h) [
  | inl e ↦ record { place = 0; below = omega arith; passes = e }
  | inr e ↦ let r = some_place p xs d e in record { place = suc r.place; below = (let lt = r.below in omega arith); passes = r.passes }
]

-- different items stand in different places
pub one_place : {K : Type 0} (eq : K → K → Bool) → ((x : K) → eq x x ≡ true) → (xs : List K) (i j : ℕ) (d : K) → IsDistinct eq xs → i < length xs → j < length xs → get_or xs i d ≡ get_or xs j d → i ≡ j
one_place eq own xs i j d once lt_i lt_j e = elim (cases_order i j) [
  | inl same ↦ same
  | inr either ↦ elim either [
    | inl less ↦ absurd (true≢false (sym (own (get_or xs j d)) ∙ (ap (λ x. eq x (get_or xs j d)) (sym e) ∙ apart_from_distinct eq xs i j d once less lt_j)))
    | inr less ↦ absurd (true≢false (sym (own (get_or xs j d)) ∙ (ap (λ x. eq (get_or xs j d) x) (sym e) ∙ apart_from_distinct eq xs j i d once less lt_i)))
  ]
]

-- one visit of each node
pub same_place : (limit : ℕ) (visits : List Visit) (i j : ℕ) → AreVisits limit visits → i < length visits → j < length visits → node_in visits i ≡ node_in visits j → i ≡ j
same_place limit visits i j h lt_i lt_j e =
    let len = length-map visits (λ (v : Visit). v.node) in
    one_place eqb (λ x. eq-eqb x x refl) (nodes_of visits) i j 0 h.once (omega (arith, len)) (omega (arith, len))
    (get_or-map (λ (v : Visit). v.node) visits i blank 0 lt_i ∙ (e ∙ sym (get_or-map (λ (v : Visit). v.node) visits j blank 0 lt_j)))

-- a name has one number, and that of a present node has one
module _ (w : World) (nodes : List (List ℕ)) (h : AreNumbers w nodes) where
  pub same_number : (i j : ℕ) → i < length nodes → j < length nodes → name_of nodes i ≡ name_of nodes j → i ≡ j
  same_number i j lt_i lt_j e = one_place same_name same_name-refl nodes i j [] h.once lt_i lt_j e

  pub number_of : (name : List ℕ) → node_present w name ≡ true → (b : ℕ) × (b < length nodes) × (name_of nodes b ≡ name)
  number_of name present =
      let r = some_place (same_name name) nodes [] (h.known name present) in
      (r.place, r.below, sym (same_name-exact name (name_of nodes r.place) r.passes))
