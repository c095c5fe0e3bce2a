-- Edges by the names of their parts.
use Rattle.std.proofs.Common.{◌≡◌, ℕ, ◌+◌, ◌<◌, List, [], ◌∷◌, ◌++◌, Bool, true, false, not, cond, Option, Some, None, length, map, get_or, refl, sym, ap, ◌∙◌, arith}
use Rattle.std.specs.Prelude.{position, nat_lt, ◌==◌, ◌&&◌}
use Rattle.std.specs.List.{list_any, position_or_len, AllByRecursion, IsDistinct}
use Rattle.std.proofs.lemmas.List.{length-map, get_or-map, length_push}
use Rattle.std.proofs.lemmas.List.Quantifiers.{position-Some}
use Rattle.std.proofs.lemmas.Bool.{or_from, or_parts, lt-ltb, and_parts, eq-eqb, eqb-true, true≢false, false_from_ne_true}
use Rattle.indexmap.specs.IndexSet.{insert_key}
use Rattle.graph_model.specs.declared.events.EdgeName.{EdgeName}
use Rattle.graph_model.specs.declared.events.Entity.TheVariants.{Node, Edge}
use Rattle.graph_model.specs.Names.{same_name}
use Rattle.graph_model.specs.Entity.{same_entity}
use Rattle.world_laws.proofs.Order.{same_name-exact, same_name-refl, same_edge-exact, same_edge-refl}
use Rattle.world_laws.proofs.Filters.{each_weaker}
use Rattle.world_laws.proofs.Members.{both_true}
pub use Rattle.world_laws.proofs.ListItems.{each_from}
use Rattle.graph_store.specs.declared.edges.EdgeParts.{EdgeParts}
use Rattle.graph_store.specs.EdgeParts.{same_parts, parts_at}
use Rattle.graph_store.specs.Contents.{name_at, edge_name, edge_entities}
use Rattle.graph_store.proofs.Listed.{one_place, list_any-place}
use Rattle.time_history.specs.declared.updates.Update.{Update}
use Rattle.graph_store.specs.WithUpdate.{with_history, with_ends, with_end_histories}
use Rattle.graph_store.proofs.AcceptNode.{name_at-insert}
use Rattle.graph_store.proofs.AcceptEdge.{length-insert_key}
use Rattle.graph_store.proofs.Readers.{none_found, nowhere}
use Rattle.graph_store.proofs.Results.{insert_key-known}

-- tests that agree on items and on what they are mapped to have one first place
first_same : {X Y : Type 0} (f : X → Y) (p : X → Bool) (q : Y → Bool) (xs : List X) → AllByRecursion (λ x. q (f x) ≡ p x) xs → position_or_len q (map f xs) ≡ position_or_len p xs
first_same f p q [] h = refl
first_same f p q (x ∷ xs) h = let rest = first_same f p q xs h.1 in let here = h.0 in λ i. cond (not (here i)) (1 + rest i) 0

pub position-same : {X Y : Type 0} (f : X → Y) (p : X → Bool) (q : Y → Bool) (xs : List X) → AllByRecursion (λ x. q (f x) ≡ p x) xs → position q (map f xs) ≡ position p xs
position-same f p q xs h = let e = first_same f p q xs h in let l = length-map xs f in λ i. cond (nat_lt (e i) (l i)) (Some (e i)) None

-- where no item passes, no place is found
none_passes : {X Y : Type 0} (f : X → Y) (q : Y → Bool) (xs : List X) → AllByRecursion (λ x. q (f x) ≡ false) xs → list_any q (map f xs) ≡ false
none_passes f q [] h = refl
none_passes f q (x ∷ xs) h = or_from (q (f x)) (list_any q (map f xs)) h.0 (none_passes f q xs h.1)

last_or_len : {X : Type 0} (p : X → Bool) (xs : List X) (y : X) → list_any p xs ≡ false → p y ≡ true → position_or_len p (xs ++ y ∷ []) ≡ length xs
last_or_len p [] y none e = λ i. cond (not (e i)) (1 + 0) 0
last_or_len p (x ∷ xs) y none e =
    let h = or_parts (p x) (list_any p xs) none in
    let here = h.0 in
    let rest = last_or_len p xs y h.1 e in
    let first : position_or_len p ((x ∷ xs) ++ y ∷ []) ≡ 1 + length xs = λ i. cond (not (here i)) (1 + rest i) 0 in
    let more : 1 + length xs ≡ length (x ∷ xs) = omega arith in
    first ∙ more

pub last_place : {X : Type 0} (p : X → Bool) (xs : List X) (y : X) → list_any p xs ≡ false → p y ≡ true → position p (xs ++ y ∷ []) ≡ Some (length xs)
last_place p xs y none e =
    let at = last_or_len p xs y none e in
    let len = length_push xs y in
    let found : position p (xs ++ y ∷ []) ≡ cond (nat_lt (length xs) (length xs + 1)) (Some (length xs)) None = λ i. cond (nat_lt (at i) (len i)) (Some (at i)) None in
    found ∙ ap (λ t. cond t (Some (length xs)) None) (lt-ltb (length xs) (length xs + 1) (omega arith))

-- a name has one number
pub number-once : (names : List (List ℕ)) (name : List ℕ) (i j : ℕ) → IsDistinct same_name names → position (same_name name) names ≡ Some i → j < length names → name ≡ name_at names j → i ≡ j
number-once names name i j once e lt at =
    let found = position-Some (same_name name) names i [] e in
    one_place same_name same_name-refl names i j [] once found.0 lt (sym (same_name-exact name (name_at names i) found.1) ∙ at)

pub name-found : (names : List (List ℕ)) (name : List ℕ) (i : ℕ) → position (same_name name) names ≡ Some i → name ≡ name_at names i
name-found names name i e = same_name-exact name (name_at names i) (position-Some (same_name name) names i [] e).1

same_numbers : (a b : EdgeParts) → a.src ≡ b.src → a.dst ≡ b.dst → a.layer ≡ b.layer → same_parts a b ≡ true
same_numbers a b src dst layer = let x = eq-eqb a.src b.src src in let y = eq-eqb a.dst b.dst dst in let z = eq-eqb a.layer b.layer layer in rw (x, y, z) refl

pub same_parts-own : (a : EdgeParts) → same_parts a a ≡ true
same_parts-own a = same_numbers a a refl refl refl

pub same_parts-exact : (a b : EdgeParts) → same_parts a b ≡ true → a ≡ b
same_parts-exact a b h =
    let first = and_parts (a.src == b.src) ((a.dst == b.dst) && (a.layer == b.layer)) h in
    let second = and_parts (a.dst == b.dst) (a.layer == b.layer) first.1 in
    let x = eqb-true a.src b.src first.0 in
    let y = eqb-true a.dst b.dst second.0 in
    let z = eqb-true a.layer b.layer second.1 in
    λ i. record { src = x i; dst = y i; layer = z i }

abbrev pub IsWithin : List (List ℕ) → List (List ℕ) → EdgeParts → Type 0
IsWithin nodes layers p = (p.src < length nodes) × (p.dst < length nodes) × (p.layer < length layers)

module _ (nodes layers : List (List ℕ)) (edge : EdgeName) (edges : List EdgeParts) (within : (e : ℕ) → e < length edges → ((parts_at edges e).src < length nodes) × ((parts_at edges e).dst < length nodes) × ((parts_at edges e).layer < length layers)) where
  all_within : AllByRecursion (IsWithin nodes layers) edges
  all_within = each_from (IsWithin nodes layers) edges (record { src = 0; dst = 0; layer = 0 }) within

  missing : ((p : EdgeParts) → IsWithin nodes layers p → edge ≡ edge_name nodes layers p → ⊥) → position (same_entity (Edge edge)) (edge_entities nodes layers edges) ≡ None
  missing other =
      nowhere (same_entity (Edge edge)) (edge_entities nodes layers edges)
      (none_passes (λ (p : EdgeParts). Edge (edge_name nodes layers p)) (same_entity (Edge edge)) edges
      (each_weaker (IsWithin nodes layers) (λ p. same_entity (Edge edge) (Edge (edge_name nodes layers p)) ≡ false)
      (λ p w. false_from_ne_true (same_entity (Edge edge) (Edge (edge_name nodes layers p))) (λ s. other p w (same_edge-exact edge (edge_name nodes layers p) s))) edges all_within))

  absent : (names : List (List ℕ)) (name : List ℕ) (i : ℕ) → position (same_name name) names ≡ None → i < length names → name ≡ name_at names i → ⊥
  absent names name i e lt at =
      true≢false (sym (list_any-place (same_name name) names i [] lt (ap (same_name name) (sym at) ∙ same_name-refl name)) ∙ none_found (same_name name) names e)

  pub no_src : position (same_name edge.src) nodes ≡ None → position (same_entity (Edge edge)) (edge_entities nodes layers edges) ≡ None
  no_src e = missing (λ p w same. absent nodes edge.src p.src e w.0 (ap (λ (x : EdgeName). x.src) same))

  pub no_dst : position (same_name edge.dst) nodes ≡ None → position (same_entity (Edge edge)) (edge_entities nodes layers edges) ≡ None
  no_dst e = missing (λ p w same. absent nodes edge.dst p.dst e w.1 (ap (λ (x : EdgeName). x.dst) same))

  pub no_layer : position (same_name edge.layer) layers ≡ None → position (same_entity (Edge edge)) (edge_entities nodes layers edges) ≡ None
  no_layer e = missing (λ p w same. absent layers edge.layer p.layer e w.2 (ap (λ (x : EdgeName). x.layer) same))

  -- an edge whose parts have numbers has the place of these
  pub place_of_parts : IsDistinct same_name nodes → IsDistinct same_name layers → (parts : EdgeParts) → position (same_name edge.src) nodes ≡ Some parts.src → position (same_name edge.dst) nodes ≡ Some parts.dst → position (same_name edge.layer) layers ≡ Some parts.layer
      → position (same_entity (Edge edge)) (edge_entities nodes layers edges) ≡ position (same_parts parts) edges
  place_of_parts once_nodes once_layers parts src dst layer =
      position-same (λ (p : EdgeParts). Edge (edge_name nodes layers p)) (same_parts parts) (same_entity (Edge edge)) edges
      (each_weaker (IsWithin nodes layers) (λ p. same_entity (Edge edge) (Edge (edge_name nodes layers p)) ≡ same_parts parts p) (λ p w. both_true (same_entity (Edge edge) (Edge (edge_name nodes layers p))) (same_parts parts p)
      (λ s. let same = same_edge-exact edge (edge_name nodes layers p) s in
      same_numbers parts p
      (number-once nodes edge.src parts.src p.src once_nodes src w.0 (ap (λ (x : EdgeName). x.src) same))
      (number-once nodes edge.dst parts.dst p.dst once_nodes dst w.1 (ap (λ (x : EdgeName). x.dst) same))
      (number-once layers edge.layer parts.layer p.layer once_layers layer w.2 (ap (λ (x : EdgeName). x.layer) same)))
      (λ s. let is = same_parts-exact parts p s in
      ap (λ (x : EdgeName). same_entity (Edge edge) (Edge x)) (sym (named_so ∙ ap (edge_name nodes layers) is)) ∙ same_edge-refl edge)) edges all_within)
    where
      named_so : edge ≡ edge_name nodes layers parts
      named_so = let a = name-found nodes edge.src parts.src src in let b = name-found nodes edge.dst parts.dst dst in let d = name-found layers edge.layer parts.layer layer in λ i. record { src = a i; dst = b i; layer = d i }

  -- an edge that has a number has this name
  pub known_edge : (i : ℕ) → position (same_entity (Edge edge)) (edge_entities nodes layers edges) ≡ Some i → (i < length edges) × (edge ≡ edge_name nodes layers (parts_at edges i))
  known_edge i e =
      let found = position-Some (same_entity (Edge edge)) (edge_entities nodes layers edges) i (Node []) e in
      let lt : i < length edges = rw length-map at found.0 in
      let at : get_or (edge_entities nodes layers edges) i (Node []) ≡ Edge (edge_name nodes layers (parts_at edges i)) = get_or-map (λ (p : EdgeParts). Edge (edge_name nodes layers p)) edges i (record { src = 0; dst = 0; layer = 0 }) (Node []) lt in
      (lt, same_edge-exact edge (edge_name nodes layers (parts_at edges i)) (sym (ap (same_entity (Edge edge)) at) ∙ found.1))

  has_name : (names : List (List ℕ)) (name : List ℕ) (i : ℕ) → i < length names → name ≡ name_at names i → list_any (same_name name) names ≡ true
  has_name names name i lt at = list_any-place (same_name name) names i [] lt (ap (same_name name) (sym at) ∙ same_name-refl name)

  -- it names nothing new
  module _ (i : ℕ) (e : position (same_entity (Edge edge)) (edge_entities nodes layers edges) ≡ Some i) where
    src_known : list_any (same_name edge.src) nodes ≡ true
    src_known = let k = known_edge i e in has_name nodes edge.src (parts_at edges i).src (within i k.0).0 (ap (λ (x : EdgeName). x.src) k.1)

    dst_known : list_any (same_name edge.dst) nodes ≡ true
    dst_known = let k = known_edge i e in has_name nodes edge.dst (parts_at edges i).dst (within i k.0).1 (ap (λ (x : EdgeName). x.dst) k.1)

    pub known_ends : nodes ≡ with_ends nodes edge
    known_ends = sym (ap (λ ns. insert_key same_name ns edge.dst) (insert_key-known same_name nodes edge.src src_known) ∙ insert_key-known same_name nodes edge.dst dst_known)

    pub known_layer : layers ≡ insert_key same_name layers edge.layer
    known_layer = let k = known_edge i e in sym (insert_key-known same_name layers edge.layer (has_name layers edge.layer (parts_at edges i).layer (within i k.0).2 (ap (λ (x : EdgeName). x.layer) k.1)))

    pub known_histories : (hs : List (List Update)) → hs ≡ with_end_histories nodes edge hs
    known_histories hs =
        let src : hs ≡ with_history nodes edge.src hs = sym (ap (λ t. cond t hs (hs ++ [] ∷ [])) src_known) in
        let dst : hs ≡ with_history nodes edge.dst hs = sym (ap (λ t. cond t hs (hs ++ [] ∷ [])) dst_known) in
        let same = sym (insert_key-known same_name nodes edge.src src_known) in
        dst ∙ (λ k. with_history (same k) edge.dst (src k))

  -- the parts of a new edge are those of none that is there
  pub new_parts : position (same_entity (Edge edge)) (edge_entities nodes layers edges) ≡ None → (parts : EdgeParts) → edge_name (with_ends nodes edge) (insert_key same_name layers edge.layer) parts ≡ edge → list_any (same_parts parts) edges ≡ false
  new_parts none parts is_named = go (position (same_parts parts) edges) refl
    where
      go : (o : Option ℕ) → position (same_parts parts) edges ≡ o → list_any (same_parts parts) edges ≡ false
      go None e = none_found (same_parts parts) edges e
      go (Some i) e =
          let found = position-Some (same_parts parts) edges i (record { src = 0; dst = 0; layer = 0 }) e in
          let w = within i found.0 in
          let p = parts_at edges i in
          let more = length-insert_key nodes edge.src in
          let first = w.0 in
          let second = w.1 in
          let src = name_at-insert (insert_key same_name nodes edge.src) edge.dst p.src (omega arith) ∙ name_at-insert nodes edge.src p.src w.0 in
          let dst = name_at-insert (insert_key same_name nodes edge.src) edge.dst p.dst (omega arith) ∙ name_at-insert nodes edge.src p.dst w.1 in
          let layer = name_at-insert layers edge.layer p.layer w.2 in
          let kept : edge_name (with_ends nodes edge) (insert_key same_name layers edge.layer) p ≡ edge_name nodes layers p = λ k. record { src = src k; dst = dst k; layer = layer k } in
          let same : edge_name nodes layers p ≡ edge = sym kept ∙ (ap (edge_name (with_ends nodes edge) (insert_key same_name layers edge.layer)) (sym (same_parts-exact parts p found.1)) ∙ is_named) in
          let at : get_or (edge_entities nodes layers edges) i (Node []) ≡ Edge (edge_name nodes layers (parts_at edges i)) = get_or-map (λ (q : EdgeParts). Edge (edge_name nodes layers q)) edges i (record { src = 0; dst = 0; layer = 0 }) (Node []) found.0 in
          absurd
          (true≢false
          (sym (list_any-place (same_entity (Edge edge)) (edge_entities nodes layers edges) i (Node []) (rw length-map found.0) (ap (same_entity (Edge edge)) at ∙ (ap (λ (x : EdgeName). same_entity (Edge edge) (Edge x)) same ∙ same_edge-refl edge)))
          ∙ none_found (same_entity (Edge edge)) (edge_entities nodes layers edges) none))
