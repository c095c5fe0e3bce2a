-- Layers and nodes that are chosen by their numbers.
use Rattle.std.proofs.Common.{◌≡◌, ℕ, zero, suc, ◌+◌, ◌^◌, ◌≤◌, ◌<◌, Bool, true, false, not, ◌&&◌, ◌||◌, List, [], ◌∷◌, refl, sym, ◌∙◌, ap, subst, arith, length, get_or, inl, inr, eqb}
use Rattle.std.specs.Prelude.{bit_and, ◌⊎◌, min}
use Rattle.std.specs.Int.{bit_at, bit_not, w64}
use Rattle.std.proofs.lemmas.Nat.Bits.{bit_at_and, bit_at_not, bit_at-lt}
use Rattle.std.proofs.lemmas.Bool.Decides.{nat_tests}
use Rattle.std.specs.List.{list_any, AllByRecursion, IsDistinct}
use Rattle.std.proofs.lemmas.Map.Keys.{IsDistinct-head, IsDistinct-tail}
use Rattle.std.proofs.lemmas.Bool.{cases_Bool, cond-true, cond-false, eqb-true, eqb-false, ne_eqb}
use Rattle.graph_model.specs.declared.events.EdgeName.{EdgeName}
use Rattle.graph_model.specs.declared.events.Entity.{Entity}
use Rattle.graph_model.specs.declared.events.Entity.TheVariants.{Node, Edge}
use Rattle.graph_model.specs.Names.{same_name}
use Rattle.graph_model.specs.declared.events.Event.{Event}
use Rattle.graph_model.specs.Entity.{entity_of}
use Rattle.graph_model.specs.Keep.{keep, is_named, in_layers, outside_layers}
use Rattle.graph_model.specs.World.{World, remake}
use Rattle.world_laws.proofs.Filters.{filter_same, each_weaker}
use Rattle.world_laws.proofs.Order.{same_name-exact, same_name-refl}
use Rattle.graph_store.specs.EdgeParts.{parts_at}
use Rattle.graph_store.specs.Contents.{Contents, name_at}
use Rattle.graph_store.specs.Indexed.{IsIndexed}
use Rattle.view_trait.specs.Meaning.{IsShown, knows, node_at, edge_at}
use Rattle.view_trait.specs.Numbered.{numbered, has_bit, is_listed, layers_numbered, nodes_numbered, layer_world, chooses, keeps_number}
use Rattle.view_trait.proofs.Pairs.{edge_number}

-- a name is among those that differ from it under no number
none_chosen : (p : ℕ → Bool) (i : ℕ) (a : List ℕ) (xs : List (List ℕ)) → AllByRecursion (λ x. same_name a x ≡ false) xs → list_any (same_name a) (numbered p i xs) ≡ false
none_chosen p i a [] h = refl
none_chosen p i a (x ∷ xs) h =
    let rest = none_chosen p (i + 1) a xs h.1 in
    elim (cases_Bool (p i)) [
      | inl e ↦ ap (list_any (same_name a)) (cond-true (p i) _ _ e) ∙ (ap (λ t. t || list_any (same_name a) (numbered p (i + 1) xs)) h.0 ∙ rest)
      | inr e ↦ ap (list_any (same_name a)) (cond-false (p i) _ _ e) ∙ rest
    ]

differs : (x : List ℕ) (xs : List (List ℕ)) (n : ℕ) → AllByRecursion (λ y. same_name x y ≡ false) xs → n < length xs → same_name (get_or xs n []) x ≡ false
differs x [] n h m = absurd (omega arith)
differs x (y ∷ ys) zero h m = apart x y (same_name y x) refl h.0
  where
    apart : (x y : List ℕ) (t : Bool) → same_name y x ≡ t → same_name x y ≡ false → same_name y x ≡ false
    apart x y false e f = e
    apart x y true e f = subst (λ z. same_name z x ≡ false) (sym (same_name-exact y x e)) (absurd (let q : true ≡ false = sym (same_name-refl x) ∙ (ap (same_name x) (sym (same_name-exact y x e)) ∙ f) in cc))
differs x (y ∷ ys) (suc n) h m = differs x ys n h.1 (omega arith)

-- where names are distinct, one is chosen by its number
chosen : (p : ℕ → Bool) (i n : ℕ) (xs : List (List ℕ)) → IsDistinct same_name xs → n < length xs → is_named (numbered p i xs) (get_or xs n []) ≡ p (i + n)
chosen p i n [] h k = absurd (omega arith)
chosen p i zero (x ∷ xs) h k =
    let e : i + 0 ≡ i = omega arith in
    elim (cases_Bool (p i)) [
      | inl t ↦ ap (list_any (same_name x)) (cond-true (p i) _ _ t) ∙ (ap (λ b. b || list_any (same_name x) (numbered p (i + 1) xs)) (same_name-refl x) ∙ (sym t ∙ ap p (sym e)))
      | inr t ↦ ap (list_any (same_name x)) (cond-false (p i) _ _ t) ∙ (none_chosen p (i + 1) x xs (IsDistinct-head same_name x xs h) ∙ (sym t ∙ ap p (sym e)))
    ]
chosen p i (suc n) (x ∷ xs) h k =
    let a = get_or xs n [] in
    let m : n < length xs = omega arith in
    let e : (i + 1) + n ≡ i + suc n = omega arith in
    let rest : list_any (same_name a) (numbered p (i + 1) xs) ≡ p (i + suc n) = chosen p (i + 1) n xs (IsDistinct-tail same_name x xs h) m ∙ ap p e in
    let other : same_name a x ≡ false = differs x xs n (IsDistinct-head same_name x xs h) m in
    elim (cases_Bool (p i)) [
      | inl t ↦ ap (list_any (same_name a)) (cond-true (p i) _ _ t) ∙ (ap (λ b. b || list_any (same_name a) (numbered p (i + 1) xs)) other ∙ rest)
      | inr t ↦ ap (list_any (same_name a)) (cond-false (p i) _ _ t) ∙ rest
    ]

pub layer_chosen : (c : Contents) (bits l : ℕ) → IsIndexed c → l < length c.layers → is_named (layers_numbered c bits) (name_at c.layers l) ≡ has_bit bits l
layer_chosen c bits l h k = let e : 0 + l ≡ l = omega arith in chosen (has_bit bits) 0 l c.layers h.layer_names k ∙ ap (has_bit bits) e

pub node_chosen : (c : Contents) (numbers : List ℕ) (n : ℕ) → IsIndexed c → n < length c.nodes → is_named (nodes_numbered c numbers) (name_at c.nodes n) ≡ is_listed numbers n
node_chosen c numbers n h k = let e : 0 + n ≡ n = omega arith in chosen (is_listed numbers) 0 n c.nodes h.node_names k ∙ ap (is_listed numbers) e

-- ---- which entities the views keep

pub layer_keeps : (c : Contents) (bits e : ℕ) → IsIndexed c → e < length c.edges → in_layers (layers_numbered c bits) (edge_at c e) ≡ has_bit bits (parts_at c.edges e).layer
layer_keeps c bits e h k = layer_chosen c bits (parts_at c.edges e).layer h (h.within e k).2

pub node_keeps : (c : Contents) (keeps : Bool) (numbers : List ℕ) (n : ℕ) → IsIndexed c → n < length c.nodes → chooses keeps (nodes_numbered c numbers) (node_at c n) ≡ keeps_number keeps (is_listed numbers n)
node_keeps c true numbers n h k = node_chosen c numbers n h k
node_keeps c false numbers n h k = ap not (node_chosen c numbers n h k)

pub ends_keep : (c : Contents) (keeps : Bool) (numbers : List ℕ) (e : ℕ) → IsIndexed c → e < length c.edges
    → chooses keeps (nodes_numbered c numbers) (edge_at c e) ≡ (keeps_number keeps (is_listed numbers (parts_at c.edges e).src) && keeps_number keeps (is_listed numbers (parts_at c.edges e).dst))
ends_keep c true numbers e h k =
    ap (λ t. t && is_named (nodes_numbered c numbers) (name_at c.nodes (parts_at c.edges e).dst)) (node_chosen c numbers (parts_at c.edges e).src h (h.within e k).0)
    ∙ ap (λ t. is_listed numbers (parts_at c.edges e).src && t) (node_chosen c numbers (parts_at c.edges e).dst h (h.within e k).1)
ends_keep c false numbers e h k =
    ap (λ t. not t && not (is_named (nodes_numbered c numbers) (name_at c.nodes (parts_at c.edges e).dst))) (node_chosen c numbers (parts_at c.edges e).src h (h.within e k).0)
    ∙ ap (λ t. not (is_listed numbers (parts_at c.edges e).src) && not t) (node_chosen c numbers (parts_at c.edges e).dst h (h.within e k).1)

-- a bit that two numbers do not both have
pub both_bits : (a b l : ℕ) → bit_at (bit_and a b) l ≡ 0 → (bit_at a l ≡ 0) ⊎ (has_bit b l ≡ false)
both_bits a b l h =
    let e : min (bit_at a l) (bit_at b l) ≡ 0 = sym (bit_at_and a b l) ∙ h in
    elim (cases_Bool (eqb (bit_at a l) 0)) [
      | inl t ↦ inl (eqb-true (bit_at a l) 0 t)
      | inr t ↦ inr (let m = eqb-false (bit_at a l) 0 t in ne_eqb (bit_at b l) 1 (λ o. m (let k = bit_at-lt a l in omega (arith, e, o))))
    ]

-- ---- leaving out layers is keeping the others

other_bit : (bits l : ℕ) → bits < 2 ^ 64 → l < 64 → has_bit (bit_not w64 bits) l ≡ not (has_bit bits l)
other_bit bits l h k =
    let e = bit_at_not w64 bits l h k in
    let lt = bit_at-lt bits l in
    elim (cases_Bool (eqb (bit_at bits l) 1)) [
      | inl t ↦ ne_eqb (bit_at (bit_not w64 bits) l) 1 (λ o. let one = eqb-true (bit_at bits l) 1 t in omega (arith, e, o, one)) ∙ sym (ap not t)
      | inr t ↦ (let none = eqb-false (bit_at bits l) 1 t in let one : bit_at (bit_not w64 bits) l ≡ 1 = omega (arith, e, lt, none) in let r : eqb (bit_at (bit_not w64 bits) l) 1 ≡ true = grind (arith, nat_tests, one) in r) ∙ sym (ap not t)
    ]

same_test : (c : Contents) (bits : ℕ) (x : Entity) → bits < 2 ^ 64 → IsIndexed c → length c.layers ≤ 64 → knows c x ≡ true → in_layers (layers_numbered c (bit_not w64 bits)) x ≡ outside_layers (layers_numbered c bits) x
same_test c bits (Node name) few h layers k = refl
same_test c bits (Edge edge) few h layers k =
    let r = edge_number c edge k in
    let within = (h.within r.0 r.1).2 in
    let l = (parts_at c.edges r.0).layer in
    let p : in_layers (layers_numbered c (bit_not w64 bits)) (Edge edge) ≡ has_bit (bit_not w64 bits) l = ap (λ e. in_layers (layers_numbered c (bit_not w64 bits)) (Edge e)) (sym r.2) ∙ layer_chosen c (bit_not w64 bits) l h within in
    let q : is_named (layers_numbered c bits) edge.layer ≡ has_bit bits l = ap (λ (e : EdgeName). is_named (layers_numbered c bits) e.layer) (sym r.2) ∙ layer_chosen c bits l h within in
    p ∙ (other_bit bits l few (omega (arith, within, layers)) ∙ sym (ap not q))

pub layers_dropped : (c : Contents) (bits : ℕ) (w : World) → bits < 2 ^ 64 → IsShown c w → layer_world c (bit_not w64 bits) w ≡ keep (outside_layers (layers_numbered c bits)) w
layers_dropped c bits w few h =
    ap (remake w w.bounds) (filter_same (λ (x : Event). in_layers (layers_numbered c (bit_not w64 bits)) (entity_of x)) (λ (x : Event). outside_layers (layers_numbered c bits) (entity_of x)) w.events
    (each_weaker (λ (x : Event). knows c (entity_of x) ≡ true) (λ (x : Event). in_layers (layers_numbered c (bit_not w64 bits)) (entity_of x) ≡ outside_layers (layers_numbered c bits) (entity_of x)) (λ x k. same_test c bits (entity_of x) few h.indexed h.few_layers k) w.events h.known))
