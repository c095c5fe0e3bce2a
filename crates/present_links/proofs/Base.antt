-- The links of a store's base world in the event model, and its present nodes.
use Rattle.std.proofs.Common.{◌≡◌, ℕ, ◌<◌, Bool, true, false, not, ◌&&◌, ◌||◌, List, length, map, refl, sym, ◌∙◌, ap}
use Rattle.std.specs.Prelude.{◌==◌}
use Rattle.std.specs.List.{filter, filter_map, list_any}
use Rattle.std.proofs.lemmas.Bool.{true≢false}
use Rattle.graph_model.specs.declared.events.EdgeName.{EdgeName}
use Rattle.graph_model.specs.declared.events.Entity.{Entity}
use Rattle.graph_model.specs.declared.events.Entity.TheVariants.{Node, Edge}
use Rattle.graph_model.specs.declared.events.What.{What}
use Rattle.graph_model.specs.declared.events.What.TheVariants.{Node as Update, Add, Delete}
use Rattle.graph_model.specs.declared.events.Event.{Event}
use Rattle.graph_model.specs.declared.events.Model.{Model}
use Rattle.graph_model.specs.declared.events.Model.TheVariants.{Event as Instants, Persistent}
use Rattle.graph_model.specs.Names.{same_name}
use Rattle.graph_model.specs.Entity.{adds, deletes, edge_cmp, entities, is_about, is_addition, same_edge, same_entity, subject}
use Rattle.graph_model.specs.World.{World, IsLawful, allows, arrange, event_cmp, events_of}
use Rattle.graph_model.specs.Presence.{edge_of_entity, edge_present, edges, is_present_at, node_present}
use Rattle.world_laws.proofs.Filters.{each_weaker}
use Rattle.world_laws.proofs.Lawful.{each_passes}
use Rattle.world_laws.proofs.ListItems.{any_map}
use Rattle.world_laws.proofs.Order.{edge_exact, same_edge-exact, same_edge-refl}
use Rattle.world_laws.proofs.Members.{any_filter, any_filter_map, any_same, both_true, edges_has, option_passes}
use Rattle.world_laws.proofs.Nodes.{present_by_addition}
use Rattle.world_laws.proofs.RisingItems.{any_rising}
use Rattle.world_laws.proofs.RisingFixed.{any_in_order}
use Rattle.graph_store.specs.declared.pairs.Ends.{Ends}
use Rattle.graph_store.specs.declared.edges.EdgeParts.{EdgeParts}
use Rattle.graph_store.specs.Ends.{same_ends}
use Rattle.graph_store.specs.EdgeParts.{ends_of}
use Rattle.graph_store.specs.Contents.{Contents, base_of, edge_name, name_at}
use Rattle.graph_store.specs.Indexed.{IsIndexed}
use Rattle.world_laws.proofs.ListItems.{each_from}
use Rattle.graph_store.proofs.LinkLaws.{same_ends-equal, same_ends-own}
use Rattle.present_links.specs.Links.{HasLinks}
use Rattle.present_links.proofs.Neighbours.{same_number}
use Rattle.present_links.proofs.Numbers.{any_each, any_either, any_of_same}

-- an event of an edge that the event model allows is an addition
added : (model : Model) (edge : EdgeName) (x : Event) → model ≡ Instants → allows model x ≡ true → (is_about (Edge edge) x && is_addition x) ≡ is_about (Edge edge) x
added Persistent edge x m h = cc
added Instants edge x m h = by x.what h
  where
    by : (what : What) → not (deletes what) ≡ true → (same_entity (Edge edge) (subject what) && adds what) ≡ same_entity (Edge edge) (subject what)
    by (Update name props) k = refl
    by (Add other props) k = always (same_entity (Edge edge) (Edge other))
      where
        always : (t : Bool) → (t && true) ≡ t
        always true = refl
        always false = refl
    by (Delete other) k = absurd (true≢false (sym k))

module _ (c : Contents) (model : c.model ≡ Instants) (lawful : IsLawful (base_of c)) (indexed : IsIndexed c) where
  -- in the event model each known edge is present
  edge_known : (edge : EdgeName) → edge_present (base_of c) edge ≡ list_any (λ (p : EdgeParts). same_edge edge (edge_name c.nodes c.layers p)) c.edges
  edge_known edge =
      both_true (edge_present (base_of c) edge) (list_any is_addition (events_of (base_of c) (Edge edge))) (present_by_addition (base_of c) edge model).0 (present_by_addition (base_of c) edge model).1
      ∙ (any_filter (is_about (Edge edge)) is_addition (arrange c.accepted)
      ∙ (any_each (λ x. is_about (Edge edge) x && is_addition x) (is_about (Edge edge)) (arrange c.accepted)
      (each_weaker (λ x. allows c.model x ≡ true) (λ x. (is_about (Edge edge) x && is_addition x) ≡ is_about (Edge edge) x) (λ x k. added c.model edge x model k) (arrange c.accepted) (each_passes (allows c.model) (arrange c.accepted) lawful.allowed))
      ∙ (any_in_order event_cmp (is_about (Edge edge)) c.accepted
      ∙ (sym (indexed.known_edges edge)
      ∙ any_map (same_entity (Edge edge)) (λ (p : EdgeParts). Edge (edge_name c.nodes c.layers p)) c.edges))))

  -- so a test of the ends of present edges is a test of the pairs
  pairs_linked : (test : List ℕ → List ℕ → Bool) → list_any (λ (e : EdgeName). test e.src e.dst) (edges (base_of c)) ≡ list_any (λ (p : Ends). test (name_at c.nodes p.src) (name_at c.nodes p.dst)) c.pairs
  pairs_linked test =
      any_of_same same_edge same_edge-refl same_edge-exact (edges (base_of c)) (map (edge_name c.nodes c.layers) c.edges)
      (λ edge. edges_has (base_of c) edge ∙ (edge_known edge ∙ sym (any_map (same_edge edge) (edge_name c.nodes c.layers) c.edges))) (λ (e : EdgeName). test e.src e.dst)
      ∙ (any_map (λ (e : EdgeName). test e.src e.dst) (edge_name c.nodes c.layers) c.edges
      ∙ (sym (any_map (λ (p : Ends). test (name_at c.nodes p.src) (name_at c.nodes p.dst)) ends_of c.edges)
      ∙ any_of_same same_ends same_ends-own same_ends-equal (map ends_of c.edges) c.pairs (λ ends. any_map (same_ends ends) ends_of c.edges ∙ sym (indexed.known_pairs ends)) (λ (p : Ends). test (name_at c.nodes p.src) (name_at c.nodes p.dst))))

  -- the pairs of a store are the links of its base world
  pub pairs_are_links : HasLinks (base_of c) c.nodes c.pairs
  pairs_are_links = record {
    names = indexed.node_names;
    once = indexed.pairs;
    within = each_from (λ (p : Ends). (p.src < length c.nodes) × (p.dst < length c.nodes)) c.pairs (record { src = 0; dst = 0 }) indexed.pairs_within;
    linked = pairs_linked;
  }

-- a node is an end of a present edge where it is an end of an edge in their list
end_listed : (w : World) (node : List ℕ) → list_any (is_present_at w node) (entities w.events) ≡ list_any (λ (e : EdgeName). same_name e.src node || same_name e.dst node) (edges w)
unfolding option_passes
end_listed w node =
    any_same (is_present_at w node) (λ e. option_passes (λ m. edge_present w m && (same_name m.src node || same_name m.dst node)) (edge_of_entity e)) by (entities w.events)
    ∙ (sym (any_filter_map (λ m. edge_present w m && (same_name m.src node || same_name m.dst node)) edge_of_entity (entities w.events))
    ∙ (sym (any_filter (edge_present w) (λ m. same_name m.src node || same_name m.dst node) (filter_map edge_of_entity (entities w.events)))
    ∙ sym (any_rising edge_cmp (λ m. same_name m.src node || same_name m.dst node) (λ x y e. ap (λ (m : EdgeName). same_name m.src node || same_name m.dst node) (edge_exact x y e)) (filter (edge_present w) (filter_map edge_of_entity (entities w.events))))))
  where
    and_swapped : (a b : Bool) → (a && b) ≡ (b && a)
    and_swapped true true = refl
    and_swapped true false = refl
    and_swapped false true = refl
    and_swapped false false = refl

    by : (e : Entity) → is_present_at w node e ≡ option_passes (λ m. edge_present w m && (same_name m.src node || same_name m.dst node)) (edge_of_entity e)
    by (Node name) = refl
    by (Edge edge) = and_swapped (same_name edge.src node || same_name edge.dst node) (edge_present w edge)

-- a node is present where it has an event of its own, or a link begins or ends there
pub present_by_links : (w : World) (names : List (List ℕ)) (links : List Ends) → HasLinks w names links → (n : ℕ) → n < length names
    → node_present w (name_at names n) ≡ (list_any (is_about (Node (name_at names n))) w.events || (list_any (λ (p : Ends). p.src == n) links || list_any (λ (p : Ends). p.dst == n) links))
present_by_links w names links h n exists =
    ap (λ t. list_any (is_about (Node (name_at names n))) w.events || t)
    (end_listed w (name_at names n)
    ∙ (h.linked (λ s d. same_name s (name_at names n) || same_name d (name_at names n))
    ∙ (any_each (λ (p : Ends). same_name (name_at names p.src) (name_at names n) || same_name (name_at names p.dst) (name_at names n)) (λ (p : Ends). (p.src == n) || (p.dst == n)) links
    (each_weaker (λ (p : Ends). (p.src < length names) × (p.dst < length names)) (λ (p : Ends). (same_name (name_at names p.src) (name_at names n) || same_name (name_at names p.dst) (name_at names n)) ≡ ((p.src == n) || (p.dst == n)))
    (λ p k. λ i. sym (same_number names h.names p.src n k.0 exists) i || sym (same_number names h.names p.dst n k.1 exists) i) links h.within)
    ∙ any_either (λ (p : Ends). p.src == n) (λ (p : Ends). p.dst == n) links)))
