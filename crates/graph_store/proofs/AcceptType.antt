-- A store that accepts the type of a node.
use Rattle.std.proofs.Common.{◌≡◌, ℕ, List, [], ◌∷◌, ◌++◌, Bool, true, false, cond, ◌||◌, Option, Some, None, length, refl, sym, ap, ◌∙◌, arith, subst}
use Rattle.std.proofs.Math.Bool.{or_assoc}
use Rattle.std.specs.Prelude.{is_some}
use Rattle.std.specs.Option.{option_or}
use Rattle.std.specs.List.{list_any}
use Rattle.indexmap.specs.IndexSet.{insert_key}
use Rattle.graph_model.specs.declared.events.Entity.TheVariants.{Edge}
use Rattle.graph_model.specs.Names.{same_name}
use Rattle.graph_model.specs.Rising.{Rises}
use Rattle.graph_model.specs.Entity.{same_entity}
use Rattle.graph_model.specs.World.{names_node, type_cmp, type_of, put_type}
use Rattle.graph_model.specs.Accepting.{type_names}
use Rattle.time_history.specs.declared.updates.Update.{Update}
use Rattle.graph_store.specs.Filed.{all_arrived, by_arrival}
use Rattle.graph_store.specs.Keys.{key_name}
use Rattle.graph_store.specs.Telling.{TellEvents}
use Rattle.graph_store.specs.WithUpdate.{with_history}
use Rattle.graph_store.specs.Contents.{Contents, AreContents, edge_entities}
use Rattle.graph_store.specs.WithType.{with_type}
use Rattle.graph_store.proofs.AcceptNode.{insert_key-has, name_at-insert, edge_entities-same, unnamed}
use Rattle.graph_store.proofs.AcceptEdge.{length-insert_key, TellEvents-names_node, all_arrived-names_node}
use Rattle.graph_store.proofs.TypeLaws.{type_of-put, any-put_type}

named_type : (p : List ℕ → Bool) (types : List (List ℕ × List ℕ)) → list_any p (type_names types) ≡ list_any (λ (t : List ℕ × List ℕ). p t.1) types
named_type p [] = refl
named_type p (t ∷ types) = ap (λ b. p t.1 || b) (named_type p types)

some_either : (o : Option (List ℕ)) (b : Bool) (kind : List ℕ) → is_some (option_or o (cond b (Some kind) None)) ≡ (is_some o || b)
some_either None true kind = refl
some_either None false kind = refl
some_either (Some x) b kind = refl

module _ (c : Contents) (node_updates edge_updates : List (List Update)) (h : AreContents c node_updates edge_updates) (rises : Rises type_cmp c.types) (node kind : List ℕ) where
  known_nodes-type : (n : List ℕ) → list_any (same_name n) (insert_key same_name c.nodes node) ≡ (names_node c.accepted n || is_some (type_of (put_type (node, kind) c.types) n))
  known_nodes-type n =
      insert_key-has c.nodes node n
      ∙ (ap (λ t. t || same_name n node) (h.known_nodes n)
      ∙ (or_assoc (names_node c.accepted n) (is_some (type_of c.types n)) (same_name n node)
      ∙ ap (λ t. names_node c.accepted n || t) (sym (ap is_some (type_of-put (node, kind) c.types n rises) ∙ some_either (type_of c.types n) (same_name n node) kind))))

  known_kinds-type : type_of c.types node ≡ None → (n : List ℕ) → list_any (same_name n) (insert_key same_name c.kinds kind) ≡ list_any (same_name n) (type_names (put_type (node, kind) c.types))
  known_kinds-type absent n =
      insert_key-has c.kinds kind n
      ∙ (ap (λ t. t || same_name n kind) (h.known_kinds n ∙ named_type (same_name n) c.types)
      ∙ sym (named_type (same_name n) (put_type (node, kind) c.types) ∙ any-put_type (λ (t : List ℕ × List ℕ). same_name n t.1) (node, kind) c.types absent))

  edges-same : edge_entities (insert_key same_name c.nodes node) c.layers c.edges ≡ edge_entities c.nodes c.layers c.edges
  edges-same = edge_entities-same c.nodes (insert_key same_name c.nodes node) c.layers c.layers c.edges (name_at-insert c.nodes node) (λ i lt. refl) h.within

  -- a type for a node that has none
  pub AreContents-typed : type_of c.types node ≡ None → AreContents (with_type c node kind) (with_history c.nodes node node_updates) edge_updates
  AreContents-typed absent = record {
    arrived = (λ k. by_arrival (all_arrived-names_node (key_name c.node_keys) c.nodes node_updates node h.nodes_told.lengths k ++ all_arrived (key_name c.edge_keys) (edges-same k) edge_updates)) ∙ h.arrived;
    nodes_told = TellEvents-names_node (key_name c.node_keys) (length c.node_keys) c.nodes node_updates c.accepted node (unnamed c node_updates edge_updates h node) h.nodes_told;
    edges_told = subst (λ es. TellEvents (key_name c.edge_keys) (length c.edge_keys) es edge_updates c.accepted) (sym edges-same) h.edges_told;
    known_nodes = known_nodes-type;
    known_layers = h.known_layers;
    known_kinds = known_kinds-type absent;
    known_edges = λ edge. ap (list_any (same_entity (Edge edge))) edges-same ∙ h.known_edges edge;
    node_types = h.node_types;
    edge_types = h.edge_types;
    within = λ e lt. let w = h.within e lt in let src = w.0 in let dst = w.1 in let more = length-insert_key c.nodes node in (omega arith, omega arith, w.2);
  }
