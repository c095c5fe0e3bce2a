-- What the readers of a store rest on.
use Rattle.std.proofs.Common.{◌≡◌, ℕ, ◌<◌, ◌≤◌, List, [], ◌∷◌, Bool, true, false, not, cond, Option, Some, None, length, get_or, refl, sym, ap, ◌∙◌, arith}
use Rattle.std.specs.Prelude.{is_some, position, nat_lt}
use Rattle.std.specs.List.{list_any, position_or_len}
use Rattle.std.proofs.lemmas.List.{get_or-map, length-map}
use Rattle.std.proofs.lemmas.List.Folds.{list_any_none}
use Rattle.std.proofs.lemmas.List.Sums.{prefix_len_passes}
use Rattle.std.proofs.lemmas.List.Quantifiers.{position-Some}
use Rattle.std.proofs.lemmas.Bool.{ltb-false, not-true, true≢false}
use Rattle.graph_model.specs.declared.events.Entity.TheVariants.{Node, Edge}
use Rattle.time_history.specs.History.{UpdateList}
use Rattle.time_history.specs.declared.updates.Update.{Update}
use Rattle.graph_store.specs.declared.edges.EdgeParts.{EdgeParts}
use Rattle.graph_store.specs.Histories.{updates_in}
use Rattle.graph_store.specs.Telling.{updates_of_number}
use Rattle.graph_store.specs.Contents.{Contents, AreContents, edge_name}
use Rattle.graph_store.proofs.Listed.{list_any-place}

-- where no place is found, no item passes
pub none_found : {X : Type 0} (p : X → Bool) (xs : List X) → position p xs ≡ None → list_any p xs ≡ false
none_found p xs e = list_any_none p xs (λ k d lt. let h = high (nat_lt (position_or_len p xs) (length xs)) refl e in not-true (p (get_or xs k d)) (prefix_len_passes (λ x. not (p x)) xs k d (omega arith)))
  where
    high : (t : Bool) → nat_lt (position_or_len p xs) (length xs) ≡ t → cond t (Some (position_or_len p xs)) None ≡ None → length xs ≤ position_or_len p xs
    high true a b = cc
    high false a b = ltb-false (position_or_len p xs) (length xs) a

-- where a place is found, an item passes
pub one_found : {X : Type 0} (p : X → Bool) (xs : List X) (i : ℕ) (d : X) → position p xs ≡ Some i → list_any p xs ≡ true
one_found p xs i d e = let h = position-Some p xs i d e in list_any-place p xs i d h.0 h.1

-- a place is found where an item passes
pub is_some-position : {X : Type 0} (p : X → Bool) (xs : List X) (d : X) → is_some (position p xs) ≡ list_any p xs
is_some-position p xs d = go (position p xs) refl
  where
    go : (o : Option ℕ) → position p xs ≡ o → is_some o ≡ list_any p xs
    go None e = sym (none_found p xs e)
    go (Some i) e = sym (one_found p xs i d e)

-- where no item passes, no place is found
pub nowhere : {X : Type 0} (p : X → Bool) (xs : List X) → list_any p xs ≡ false → position p xs ≡ None
nowhere p [] e = refl
nowhere p (x ∷ xs) e = go (position p (x ∷ xs)) refl
  where
    go : (o : Option ℕ) → position p (x ∷ xs) ≡ o → position p (x ∷ xs) ≡ None
    go None h = h
    go (Some i) h = absurd (true≢false (sym (one_found p (x ∷ xs) i x h) ∙ e))

-- a history in place
pub updates_at : (items : List UpdateList) (n : ℕ) (x : UpdateList) → n < length items → x ≡ get_or items n x → updates_of_number (updates_in items) n ≡ x.updates
updates_at items n x lt e = get_or-map (λ (h : UpdateList). h.updates) items n x [] lt ∙ ap (λ (h : UpdateList). h.updates) (sym e)

pub node_in_place : (c : Contents) (items : List UpdateList) (edges : List (List Update)) → AreContents c (updates_in items) edges → (n : ℕ) → n < length c.nodes → n < length items
node_in_place c items edges h n lt =
    let a = h.nodes_told.lengths in
    let b = length-map c.nodes Node in
    let d = length-map items (λ (k : UpdateList). k.updates) in
    omega (arith, a, b, d)

pub edge_in_place : (c : Contents) (nodes : List (List Update)) (items : List UpdateList) → AreContents c nodes (updates_in items) → (n : ℕ) → n < length c.edges → n < length items
edge_in_place c nodes items h n lt =
    let a = h.edges_told.lengths in
    let b = length-map c.edges (λ (p : EdgeParts). Edge (edge_name c.nodes c.layers p)) in
    let d = length-map items (λ (k : UpdateList). k.updates) in
    omega (arith, a, b, d)
