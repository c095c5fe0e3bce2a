-- Room for whatever an event names.
use Rattle.std.proofs.Common.{◌≡◌, ℕ, ◌+◌, ◌<◌, ◌≤◌, List, [], ◌∷◌, ◌++◌, Bool, true, false, cond, None, length, map, refl, sym, ap, ◌∙◌, arith}
use Rattle.std.specs.Prelude.{is_some}
use Rattle.std.specs.List.{IsDistinct}
use Rattle.std.proofs.lemmas.List.{length_push}
use Rattle.indexmap.specs.IndexSet.{insert_key}
use Rattle.graph_model.specs.Limits.{most_events, most_nodes, most_layers, most_types, most_keys}
use Rattle.graph_model.specs.declared.properties.Value.{Value}
use Rattle.graph_model.specs.declared.properties.ValueType.{ValueType}
use Rattle.graph_model.specs.declared.events.EdgeName.{EdgeName}
use Rattle.graph_model.specs.declared.events.Entity.TheVariants.{Edge}
use Rattle.graph_model.specs.declared.events.Event.{Event}
use Rattle.graph_model.specs.declared.events.What.{What}
use Rattle.graph_model.specs.declared.events.What.TheVariants.{Node, Add, Delete}
use Rattle.graph_model.specs.Names.{same_name}
use Rattle.graph_model.specs.ValueKind.{value_type}
use Rattle.graph_model.specs.Entity.{subject, what_props, props_of}
use Rattle.graph_model.specs.Accepting.{passed_limit}
use Rattle.time_history.specs.declared.updates.Update.{Update}
use Rattle.graph_store.specs.declared.judging.Totals.{Totals}
use Rattle.graph_store.specs.Keys.{type_in, with_key, with_keys}
use Rattle.graph_store.specs.Contents.{Contents, AreContents}
use Rattle.graph_store.proofs.EdgeNumbers.{length-insert_key-le}
use Rattle.graph_store.proofs.JudgeLaws.{totals-update, totals-edge, first_limit, none_above}

-- the keys of properties make a table longer by as many at the most
length-with_key-le : (keys : List (List ℕ × ValueType)) (p : List ℕ × Value) → length (with_key keys p) ≤ length keys + 1
length-with_key-le keys p = go (is_some (type_in keys p.0))
  where
    go : (t : Bool) → length (cond t keys (keys ++ (p.0, value_type p.1) ∷ [])) ≤ length keys + 1
    go true = omega arith
    go false = omega (arith, length_push keys (p.0, value_type p.1))

length-with_keys-le : (keys : List (List ℕ × ValueType)) (props : List (List ℕ × Value)) → length (with_keys keys props) ≤ length keys + length props
length-with_keys-le keys [] = omega arith
length-with_keys-le keys (p ∷ ps) =
    let here = length-with_key-le keys p in
    let later = length-with_keys-le (with_key keys p) ps in
    omega arith

module _ (c : Contents) (node_updates edge_updates : List (List Update)) (h : AreContents c node_updates edge_updates) (once_nodes : IsDistinct same_name c.nodes) (once_layers : IsDistinct same_name c.layers) (once_kinds : IsDistinct same_name c.kinds)
    (once_node_keys : IsDistinct same_name (map (λ (p : List ℕ × ValueType). p.0) c.node_keys)) (once_edge_keys : IsDistinct same_name (map (λ (p : List ℕ × ValueType). p.0) c.edge_keys)) (x : Event)
    (events : length c.accepted < most_events) (nodes : length c.nodes + 2 ≤ most_nodes) (layers : length c.layers < most_layers) (node_keys : length c.node_keys + length (props_of x) ≤ most_keys) (edge_keys : length c.edge_keys + length (props_of x) ≤ most_keys)
    (types : length c.kinds ≤ most_types) where
  for_node : (name : List ℕ) (props : List (List ℕ × Value)) → x.what ≡ Node name props → passed_limit (c.accepted ++ x ∷ []) c.types ≡ None
  for_node name props is =
      let t : Totals = record { events = length c.accepted + 1; nodes = length (insert_key same_name c.nodes name); layers = length c.layers; node_keys = length (with_keys c.node_keys props); edge_keys = length c.edge_keys; types = length c.kinds } in
      let few : length (props_of x) ≡ length props = ap (λ w. length (what_props w)) is in
      let more_nodes = length-insert_key-le same_name c.nodes name in
      let more_keys = length-with_keys-le c.node_keys props in
      sym (first_limit t (c.accepted ++ x ∷ []) c.types (totals-update c node_updates edge_updates h once_nodes once_layers once_kinds once_node_keys once_edge_keys x name props is t refl refl refl refl refl refl))
      ∙ none_above t (omega arith) (omega arith) (omega arith) (omega arith) (omega arith) types

  for_edge : (edge : EdgeName) (props : List (List ℕ × Value)) → subject x.what ≡ Edge edge → props_of x ≡ props → passed_limit (c.accepted ++ x ∷ []) c.types ≡ None
  for_edge edge props own set =
      let t : Totals = record { events = length c.accepted + 1; nodes = length (insert_key same_name (insert_key same_name c.nodes edge.src) edge.dst); layers = length (insert_key same_name c.layers edge.layer); node_keys = length c.node_keys; edge_keys = length (with_keys c.edge_keys props); types = length c.kinds } in
      let few : length (props_of x) ≡ length props = ap length set in
      let src = length-insert_key-le same_name c.nodes edge.src in
      let dst = length-insert_key-le same_name (insert_key same_name c.nodes edge.src) edge.dst in
      let layer = length-insert_key-le same_name c.layers edge.layer in
      let more_keys = length-with_keys-le c.edge_keys props in
      sym (first_limit t (c.accepted ++ x ∷ []) c.types (totals-edge c node_updates edge_updates h once_nodes once_layers once_kinds once_node_keys once_edge_keys x edge props own set t refl refl refl refl refl refl))
      ∙ none_above t (omega arith) (omega arith) (omega arith) (omega arith) (omega arith) types

  -- with an event more no limit is passed
  pub no_limit : passed_limit (c.accepted ++ x ∷ []) c.types ≡ None
  no_limit = go x.what refl
    where
      go : (w : What) → x.what ≡ w → passed_limit (c.accepted ++ x ∷ []) c.types ≡ None
      go (Node name props) is = for_node name props is
      go (Add edge props) is = for_edge edge props (ap subject is) (ap what_props is)
      go (Delete edge) is = for_edge edge [] (ap subject is) (ap what_props is)
