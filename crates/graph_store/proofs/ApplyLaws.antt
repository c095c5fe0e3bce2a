-- A store that judges an event and then takes it.
use Rattle.std.proofs.Common.{◌≡◌, ℕ, ◌+◌, ◌≤◌, List, [], ◌∷◌, ◌++◌, Bool, true, false, not, cond, Option, Some, None, length, map, refl, sym, ap, arith, subst}
use Rattle.std.specs.Prelude.{is_some, MatchOption, IfNone}
use Rattle.std.specs.List.{IsDistinct}
use Rattle.indexmap.specs.IndexSet.{insert_key}
use Rattle.graph_model.specs.declared.properties.Value.{Value}
use Rattle.graph_model.specs.declared.properties.ValueType.{ValueType}
use Rattle.graph_model.specs.declared.events.EdgeName.{EdgeName}
use Rattle.graph_model.specs.declared.events.Event.{Event}
use Rattle.graph_model.specs.declared.events.Model.{Model}
use Rattle.graph_model.specs.declared.events.What.{What}
use Rattle.graph_model.specs.declared.events.What.TheVariants.{Node, Add, Delete}
use Rattle.graph_model.specs.Names.{same_name}
use Rattle.graph_model.specs.Refusal.{Deletion, KeyType, Limit}
use Rattle.graph_model.specs.declared.events.Entity.TheVariants.{Edge}
use Rattle.graph_model.specs.Entity.{subject, what_props, entity_of, props_of}
use Rattle.graph_model.specs.World.{allows}
use Rattle.graph_model.specs.Accepting.{Quantity, Events, Nodes, Layers, NodeKeys, EdgeKeys, count_of, limit_of, mistyped, passed_limit, event_refusal}
use Rattle.time_history.specs.declared.updates.Update.{Update}
use Rattle.graph_store.specs.declared.judging.Totals.{Totals}
use Rattle.graph_store.specs.Refusals.{total_of}
use Rattle.graph_store.specs.Keys.{with_keys}
use Rattle.graph_store.specs.WithUpdate.{with_ends}
use Rattle.graph_store.specs.Contents.{Contents, AreContents}
use Rattle.graph_store.specs.WithEvent.{with_what, with_edge_event, with_event, HasRoom}
use Rattle.graph_store.proofs.JudgeLaws.{totals-update, totals-edge}
use Rattle.world_laws.proofs.Limits.{within_passed}

-- an event that is not refused is allowed, keeps the types of its keys and passes no limit
pub record IsFine (model : Model) (accepted : List Event) (types : List (List ℕ × List ℕ)) (x : Event) : Type 0 where
  pub allowed : allows model x ≡ true
  pub typed : mistyped accepted x ≡ None
  pub within : passed_limit (accepted ++ x ∷ []) types ≡ None

pub not_refused : (model : Model) (accepted : List Event) (types : List (List ℕ × List ℕ)) (x : Event) → event_refusal model accepted types x ≡ None → IsFine model accepted types x
not_refused model accepted types x e = go (allows model x) (mistyped accepted x) (passed_limit (accepted ++ x ∷ []) types) refl refl refl e
  where
    go : (a : Bool) (m : Option (List ℕ × Value)) (l : Option Quantity) → allows model x ≡ a → mistyped accepted x ≡ m → passed_limit (accepted ++ x ∷ []) types ≡ l → cond (not a) (Some Deletion) (cond (is_some m) (Some KeyType) (cond (is_some l) (Some Limit) None)) ≡ None
        → IsFine model accepted types x
    go true None None a m l h = record { allowed = a; typed = m; within = l }
    go true None (Some k) a m l h = cc
    go true (Some p) l' a m l h = cc
    go false m' l' a m l h = cc

module _ (c : Contents) (node_updates edge_updates : List (List Update)) (h : AreContents c node_updates edge_updates) (once_nodes : IsDistinct same_name c.nodes) (once_layers : IsDistinct same_name c.layers) (once_kinds : IsDistinct same_name c.kinds)
    (once_node_keys : IsDistinct same_name (map (λ (p : List ℕ × ValueType). p.0) c.node_keys)) (once_edge_keys : IsDistinct same_name (map (λ (p : List ℕ × ValueType). p.0) c.edge_keys))
    (x : Event) (within : passed_limit (c.accepted ++ x ∷ []) c.types ≡ None) where
  few : (t : Totals) → ((k : Quantity) → total_of t k ≡ count_of k (c.accepted ++ x ∷ []) c.types) → (k : Quantity) → total_of t k ≤ limit_of k
  few t same k = subst (λ n. n ≤ limit_of k) (sym (same k)) (within_passed (c.accepted ++ x ∷ []) c.types within k)

  of_edge : (edge : EdgeName) (props : List (List ℕ × Value)) → entity_of x ≡ Edge edge → props_of x ≡ props → HasRoom c (with_edge_event c x edge props)
  of_edge edge props own set =
      let t : Totals = record { events = length c.accepted + 1; nodes = length (with_ends c.nodes edge); layers = length (insert_key same_name c.layers edge.layer); node_keys = length c.node_keys; edge_keys = length (with_keys c.edge_keys props); types = length c.kinds } in
      let all = few t (totals-edge c node_updates edge_updates h once_nodes once_layers once_kinds once_node_keys once_edge_keys x edge props own set t refl refl refl refl refl refl) in
      let events = all Events in
      record { events = omega arith; nodes = all Nodes; layers = all Layers; node_keys = all NodeKeys; edge_keys = all EdgeKeys }

  -- where no limit is passed, there is room for the event
  pub room : HasRoom c (with_event c x)
  room = go x.what refl
    where
      go : (w : What) → x.what ≡ w → HasRoom c (with_event c x)
      go (Node name props) is =
          let t : Totals = record { events = length c.accepted + 1; nodes = length (insert_key same_name c.nodes name); layers = length c.layers; node_keys = length (with_keys c.node_keys props); edge_keys = length c.edge_keys; types = length c.kinds } in
          let all = few t (totals-update c node_updates edge_updates h once_nodes once_layers once_kinds once_node_keys once_edge_keys x name props is t refl refl refl refl refl refl) in
          let events = all Events in
          subst (λ v. HasRoom c (with_what c x v)) (sym is) (record { events = omega arith; nodes = all Nodes; layers = all Layers; node_keys = all NodeKeys; edge_keys = all EdgeKeys })
      go (Add edge props) is = subst (λ v. HasRoom c (with_what c x v)) (sym is) (of_edge edge props (ap subject is) (ap what_props is))
      go (Delete edge) is = subst (λ v. HasRoom c (with_what c x v)) (sym is) (of_edge edge [] (ap subject is) (ap what_props is))

-- what a result of none says
pub if_none : {A P Q : Type 0} (R : A → Type 0) (o : Option A) → MatchOption o P R → (P → Q) → IfNone o Q
if_none R None h f = f h
if_none R (Some x) h f = tt
