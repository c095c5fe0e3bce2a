-- The numbers of an edge's parts, its edge and its pair.
use Rattle.std.proofs.Common.{◌≡◌, ℕ, ◌<◌, ◌≤◌, List, [], ◌∷◌, ◌++◌, Bool, true, false, cond, Option, Some, None, length, get_or, refl, sym, ap, ◌∙◌, subst, ◌+◌, arith}
use Rattle.std.specs.Prelude.{position, nat_lt, unwrap_or}
use Rattle.std.specs.List.{list_any, position_or_len, IsDistinct}
use Rattle.std.proofs.lemmas.List.{length_push}
use Rattle.std.proofs.lemmas.List.Quantifiers.{position-Some}
use Rattle.std.proofs.lemmas.Bool.{true≢false}
use Rattle.indexmap.specs.IndexSet.{insert_key}
use Rattle.graph_model.specs.declared.events.EdgeName.{EdgeName}
use Rattle.graph_model.specs.declared.events.Entity.TheVariants.{Edge}
use Rattle.graph_model.specs.Names.{same_name}
use Rattle.graph_model.specs.Entity.{same_entity}
use Rattle.world_laws.proofs.Order.{same_name-refl}
use Rattle.graph_store.specs.declared.pairs.Ends.{Ends}
use Rattle.graph_store.specs.declared.edges.EdgeParts.{EdgeParts}
use Rattle.graph_store.specs.Ends.{same_ends, ends_at}
use Rattle.graph_store.specs.EdgeParts.{same_parts, ends_of, parts_at}
use Rattle.graph_store.specs.EdgeIndex.{EdgeIndex}
use Rattle.graph_store.specs.WithUpdate.{with_ends, HasEdge}
use Rattle.graph_store.specs.Contents.{name_at, edge_name, edge_entities}
use Rattle.graph_store.specs.WithEvent.{parts_in}
use Rattle.graph_store.proofs.Listed.{list_any-place}
use Rattle.graph_store.proofs.LinkLaws.{same_ends-own, same_ends-equal}
use Rattle.graph_store.proofs.Readers.{none_found}
use Rattle.graph_store.proofs.Results.{insert_key-new}
use Rattle.graph_store.proofs.JudgeLaws.{distinct-insert}
use Rattle.graph_store.proofs.EdgeNames.{number-once, known_edge, known_ends, known_layer, new_parts, same_parts-own}

-- a key makes a list longer by one at the most
pub length-insert_key-le : {X : Type 0} (eq : X → X → Bool) (xs : List X) (x : X) → length (insert_key eq xs x) ≤ length xs + 1
length-insert_key-le {X} eq xs x = go (list_any (eq x) xs)
  where
    go : (t : Bool) → length (cond t xs (xs ++ x ∷ [])) ≤ length xs + 1
    go true = omega arith
    go false = omega (arith, length_push xs x)

-- where an item passes, one stands at a place
pub some_place : {X : Type 0} (p : X → Bool) (xs : List X) (d : X) → list_any p xs ≡ true → (i : ℕ) × (i < length xs) × (p (get_or xs i d) ≡ true)
some_place p xs d h = go (position p xs) refl
  where
    go : (o : Option ℕ) → position p xs ≡ o → (i : ℕ) × (i < length xs) × (p (get_or xs i d) ≡ true)
    go None e = absurd (true≢false (sym h ∙ none_found p xs e))
    go (Some i) e = let f = position-Some p xs i d e in (i, f.0, f.1)

-- the ends of a pair have numbers where the parts of edges have
pub ends_within : (nodes : ℕ) (pairs : List Ends) (edges : List EdgeParts) → ((ends : Ends) → list_any (same_ends ends) pairs ≡ list_any (λ (e : EdgeParts). same_ends ends (ends_of e)) edges)
    → ((e : ℕ) → e < length edges → ((parts_at edges e).src < nodes) × ((parts_at edges e).dst < nodes)) → (p : ℕ) → p < length pairs → ((ends_at pairs p).src < nodes) × ((ends_at pairs p).dst < nodes)
ends_within nodes pairs edges known within p lt =
    let ends = ends_at pairs p in
    let there = list_any-place (same_ends ends) pairs p (record { src = 0; dst = 0 }) lt (same_ends-own ends) in
    let e = some_place (λ (x : EdgeParts). same_ends ends (ends_of x)) edges (record { src = 0; dst = 0; layer = 0 }) (sym (known ends) ∙ there) in
    let same = same_ends-equal ends (ends_of (parts_at edges e.0)) e.2 in
    let w = within e.0 e.1 in
    (subst (λ (x : Ends). x.src < nodes) (sym same) w.0, subst (λ (x : Ends). x.dst < nodes) (sym same) w.1)

place_is : {X : Type 0} (p : X → Bool) (xs : List X) (i : ℕ) → position p xs ≡ Some i → position_or_len p xs ≡ i
place_is p xs i e = go (nat_lt (position_or_len p xs) (length xs)) refl e
  where
    go : (t : Bool) → nat_lt (position_or_len p xs) (length xs) ≡ t → cond t (Some (position_or_len p xs)) None ≡ Some i → position_or_len p xs ≡ i
    go true a b = ap (λ o. unwrap_or o 0) b
    go false a b = cc

-- a name stands at one place
pub place_once : (names : List (List ℕ)) (name : List ℕ) (i : ℕ) → IsDistinct same_name names → i < length names → name_at names i ≡ name → position_or_len (same_name name) names ≡ i
place_once names name i once lt at = go (position (same_name name) names) refl
  where
    go : (o : Option ℕ) → position (same_name name) names ≡ o → position_or_len (same_name name) names ≡ i
    go None e = absurd (true≢false (sym (list_any-place (same_name name) names i [] lt (ap (same_name name) at ∙ same_name-refl name)) ∙ none_found (same_name name) names e))
    go (Some j) e = place_is (same_name name) names j e ∙ number-once names name j i once e lt (sym at)

-- the parts that name an edge are its parts
pub parts_once : (nodes layers : List (List ℕ)) (edge : EdgeName) (parts : EdgeParts) → IsDistinct same_name nodes → IsDistinct same_name layers → edge_name nodes layers parts ≡ edge
    → parts.src < length nodes → parts.dst < length nodes → parts.layer < length layers → parts ≡ parts_in nodes layers edge
parts_once nodes layers edge parts once_nodes once_layers is src dst layer =
    let a = place_once nodes edge.src parts.src once_nodes src (ap (λ (x : EdgeName). x.src) is) in
    let b = place_once nodes edge.dst parts.dst once_nodes dst (ap (λ (x : EdgeName). x.dst) is) in
    let d = place_once layers edge.layer parts.layer once_layers layer (ap (λ (x : EdgeName). x.layer) is) in
    sym (λ k. record { src = a k; dst = b k; layer = d k })

module _ (nodes layers : List (List ℕ)) (edge : EdgeName) (before after : EdgeIndex) (once_nodes : IsDistinct same_name nodes) (once_layers : IsDistinct same_name layers)
    (within : (e : ℕ) → e < length before.edges → ((parts_at before.edges e).src < length nodes) × ((parts_at before.edges e).dst < length nodes) × ((parts_at before.edges e).layer < length layers))
    (known : (ends : Ends) → list_any (same_ends ends) before.pairs ≡ list_any (λ (e : EdgeParts). same_ends ends (ends_of e)) before.edges) where
  nodes_after : List (List ℕ)
  nodes_after = with_ends nodes edge

  abbrev parts : EdgeParts
  parts = parts_in (with_ends nodes edge) (insert_key same_name layers edge.layer) edge

  once_ends : IsDistinct same_name (with_ends nodes edge)
  once_ends = distinct-insert (insert_key same_name nodes edge.src) edge.dst (distinct-insert nodes edge.src once_nodes)

  once_layer : IsDistinct same_name (insert_key same_name layers edge.layer)
  once_layer = distinct-insert layers edge.layer once_layers

  -- a known edge has these parts
  known_parts : (i : ℕ) → position (same_entity (Edge edge)) (edge_entities nodes layers before.edges) ≡ Some i → (i < length before.edges) × (parts_at before.edges i ≡ parts)
  known_parts i e =
      let k = known_edge nodes layers edge before.edges within i e in
      let w = within i k.0 in
      let same_nodes = known_ends nodes layers edge before.edges within i e in
      let same_layers = known_layer nodes layers edge before.edges within i e in
      (k.0, parts_once nodes layers edge (parts_at before.edges i) once_nodes once_layers (sym k.1) w.0 w.1 w.2 ∙ (λ j. parts_in (same_nodes j) (same_layers j) edge))

  edges_after : (o : Option ℕ) → position (same_entity (Edge edge)) (edge_entities nodes layers before.edges) ≡ o → HasEdge o (with_ends nodes edge) (insert_key same_name layers edge.layer) edge before after
      → after.edges ≡ insert_key same_parts before.edges parts
  edges_after None e added =
      let same = parts_once (with_ends nodes edge) (insert_key same_name layers edge.layer) edge added.parts once_ends once_layer added.is_named added.src added.dst added.layer in
      added.edges
      ∙ (ap (λ p. before.edges ++ p ∷ []) same
      ∙ sym (insert_key-new same_parts before.edges parts (subst (λ (p : EdgeParts). list_any (same_parts p) before.edges ≡ false) same (new_parts nodes layers edge before.edges within e added.parts added.is_named))))
  edges_after (Some i) e had =
      let k = known_parts i e in
      had.0 ∙ sym (ap (λ t. cond t before.edges (before.edges ++ parts ∷ [])) (list_any-place (same_parts parts) before.edges i (record { src = 0; dst = 0; layer = 0 }) k.0 (ap (same_parts parts) k.1 ∙ same_parts-own parts)))

  pairs_after : (o : Option ℕ) → position (same_entity (Edge edge)) (edge_entities nodes layers before.edges) ≡ o → HasEdge o (with_ends nodes edge) (insert_key same_name layers edge.layer) edge before after
      → after.pairs ≡ insert_key same_ends before.pairs (ends_of parts)
  pairs_after None e added =
      let same = parts_once (with_ends nodes edge) (insert_key same_name layers edge.layer) edge added.parts once_ends once_layer added.is_named added.src added.dst added.layer in
      added.pairs ∙ ap (λ p. insert_key same_ends before.pairs (ends_of p)) same
  pairs_after (Some i) e had =
      let k = known_parts i e in
      had.1
      ∙ sym (ap (λ t. cond t before.pairs (before.pairs ++ ends_of parts ∷ []))
      (known (ends_of parts)
      ∙ list_any-place (λ (x : EdgeParts). same_ends (ends_of parts) (ends_of x)) before.edges i (record { src = 0; dst = 0; layer = 0 }) k.0 (ap (λ p. same_ends (ends_of parts) (ends_of p)) k.1 ∙ same_ends-own (ends_of parts))))

  -- the edge is among the edges, put last where it is new
  pub edges-has : HasEdge (position (same_entity (Edge edge)) (edge_entities nodes layers before.edges)) (with_ends nodes edge) (insert_key same_name layers edge.layer) edge before after → after.edges ≡ insert_key same_parts before.edges parts
  edges-has h = edges_after (position (same_entity (Edge edge)) (edge_entities nodes layers before.edges)) refl h

  -- and its pair is among the pairs
  pub pairs-has : HasEdge (position (same_entity (Edge edge)) (edge_entities nodes layers before.edges)) (with_ends nodes edge) (insert_key same_name layers edge.layer) edge before after → after.pairs ≡ insert_key same_ends before.pairs (ends_of parts)
  pairs-has h = pairs_after (position (same_entity (Edge edge)) (edge_entities nodes layers before.edges)) refl h
