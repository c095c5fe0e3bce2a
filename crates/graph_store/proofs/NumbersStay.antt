-- An accepted event or type changes no number that was given before.
use Rattle.std.proofs.Common.{◌≡◌, ℕ, ◌<◌, List, [], ◌∷◌, ◌++◌, Bool, true, false, cond, length, get_or, refl, ◌∙◌, arith}
use Rattle.std.specs.List.{list_any}
use Rattle.std.proofs.lemmas.List.{length_push}
use Rattle.std.proofs.Math.ListN.{get_or-append}
use Rattle.indexmap.specs.IndexSet.{insert_key}
use Rattle.graph_model.specs.declared.properties.Value.{Value}
use Rattle.graph_model.specs.declared.properties.ValueType.{ValueType}
use Rattle.graph_model.specs.declared.events.EdgeName.{EdgeName}
use Rattle.graph_model.specs.declared.events.Event.{Event}
use Rattle.graph_model.specs.declared.events.What.{What}
use Rattle.graph_model.specs.declared.events.What.TheVariants.{Node, Add, Delete}
use Rattle.graph_model.specs.Names.{same_name}
use Rattle.graph_store.specs.Ends.{same_ends}
use Rattle.graph_store.specs.EdgeParts.{same_parts, ends_of}
use Rattle.graph_store.specs.Keys.{key_name, with_keys}
use Rattle.graph_store.specs.WithUpdate.{with_ends}
use Rattle.graph_store.specs.Contents.{Contents, name_at}
use Rattle.graph_store.specs.WithEvent.{parts_in, with_edge_event, with_what, with_event}
use Rattle.graph_store.specs.WithType.{with_type}
use Rattle.graph_store.specs.KeepsNumbers.{KeepsNumbers}
use Rattle.graph_store.proofs.KeyLaws.{key_name-with_keys, length-with_keys}

-- what stands in a list stays where it is when a key is put in
keeps-insert : {X : Type 0} (eq : X → X → Bool) (xs : List X) (x d : X) (i : ℕ) → i < length xs → (i < length (insert_key eq xs x)) × (get_or (insert_key eq xs x) i d ≡ get_or xs i d)
keeps-insert eq xs x d i lt = elim (list_any (eq x) xs) as (λ t. (i < length (cond t xs (xs ++ x ∷ []))) × (get_or (cond t xs (xs ++ x ∷ [])) i d ≡ get_or xs i d)) [
  | true ↦ (lt, refl)
  | false ↦ (let more = length_push xs x in omega arith, get_or-append xs (x ∷ []) d i lt)
]

keeps-keys : (keys : List (List ℕ × ValueType)) (props : List (List ℕ × Value)) (k : ℕ) → k < length keys → (k < length (with_keys keys props)) × (key_name (with_keys keys props) k ≡ key_name keys k)
keeps-keys keys props k lt = let more = length-with_keys keys props in (omega arith, key_name-with_keys keys props k lt)

keeps-ends : (names : List (List ℕ)) (edge : EdgeName) (n : ℕ) → n < length names → (n < length (with_ends names edge)) × (name_at (with_ends names edge) n ≡ name_at names n)
keeps-ends names edge n lt =
    let first = keeps-insert same_name names edge.src [] n lt in
    let second = keeps-insert same_name (insert_key same_name names edge.src) edge.dst [] n first.0 in
    (second.0, second.1 ∙ first.1)

of_edge : (c : Contents) (x : Event) (edge : EdgeName) (props : List (List ℕ × Value)) → KeepsNumbers c (with_edge_event c x edge props)
of_edge c x edge props =
    let parts = parts_in (with_ends c.nodes edge) (insert_key same_name c.layers edge.layer) edge in
    record {
      nodes = keeps-ends c.nodes edge;
      layers = keeps-insert same_name c.layers edge.layer [];
      kinds = λ k lt. (lt, refl);
      node_keys = λ k lt. (lt, refl);
      edge_keys = keeps-keys c.edge_keys props;
      edges = keeps-insert same_parts c.edges parts (record { src = 0; dst = 0; layer = 0 });
      pairs = keeps-insert same_ends c.pairs (ends_of parts) (record { src = 0; dst = 0 });
    }

-- after an event
pub numbers_stay : (c : Contents) (x : Event) → KeepsNumbers c (with_event c x)
numbers_stay c x = go x.what
  where
    go : (w : What) → KeepsNumbers c (with_what c x w)
    go (Node name props) = record {
      nodes = keeps-insert same_name c.nodes name [];
      layers = λ l lt. (lt, refl);
      kinds = λ k lt. (lt, refl);
      node_keys = keeps-keys c.node_keys props;
      edge_keys = λ k lt. (lt, refl);
      edges = λ e lt. (lt, refl);
      pairs = λ p lt. (lt, refl);
    }
    go (Add edge props) = of_edge c x edge props
    go (Delete edge) = of_edge c x edge []

-- after the type of a node
pub numbers_stay-type : (c : Contents) (node kind : List ℕ) → KeepsNumbers c (with_type c node kind)
numbers_stay-type c node kind = record {
  nodes = keeps-insert same_name c.nodes node [];
  layers = λ l lt. (lt, refl);
  kinds = keeps-insert same_name c.kinds kind [];
  node_keys = λ k lt. (lt, refl);
  edge_keys = λ k lt. (lt, refl);
  edges = λ e lt. (lt, refl);
  pairs = λ p lt. (lt, refl);
}
