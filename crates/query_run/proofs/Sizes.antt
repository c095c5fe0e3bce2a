-- How many nodes, edges and events a store has, by what was read.
use Rattle.std.proofs.Common.{◌≡◌, ◌∙◌, ◌||◌, ℕ, Bool, true, false, List, [], ◌∷◌, length, map, refl, sym, ap, arith}
use Rattle.std.specs.Cmp.{IsEquivalence, eq_by_cmp_equiv}
use Rattle.std.specs.List.{IsDistinct, flat_map, list_any}
use Rattle.std.specs.Ordering.{is_eq}
use Rattle.std.specs.declared.cmp.Ordering.TheVariants.{Less}
use Rattle.std.proofs.lemmas.List.{length-map}
use Rattle.std.proofs.lemmas.Map.Keys.{IsDistinct-cons, IsDistinct-from_apart}
use Rattle.std.proofs.lemmas.Map.Made.{length-from_same_keys}
use Rattle.graph_model.specs.declared.events.EdgeName.{EdgeName}
use Rattle.graph_model.specs.declared.events.Entity.{Entity}
use Rattle.graph_model.specs.declared.events.Entity.TheVariants.{Node, Edge}
use Rattle.graph_model.specs.declared.events.Event.{Event}
use Rattle.graph_model.specs.Accepting.{node_names}
use Rattle.graph_model.specs.Entity.{edge_cmp, entity_of, is_about, same_edge, same_entity}
use Rattle.graph_model.specs.Reading.{Reading}
use Rattle.graph_model.specs.Rising.{Rises, rising}
use Rattle.world_laws.proofs.Filters.{each_weaker}
use Rattle.world_laws.proofs.Members.{any_flat_map}
use Rattle.world_laws.proofs.Order.{edge_exact, edge_total}
use Rattle.world_laws.proofs.RisingItems.{Rises-rising, any_rising}
use Rattle.graph_store.specs.declared.edges.EdgeParts.{EdgeParts}
use Rattle.graph_store.specs.Contents.{Contents, edge_entities, edge_name}
use Rattle.graph_store.specs.Indexed.{IsIndexed}
use Rattle.view_trait.specs.Meaning.{knows}
use Rattle.graph_store.proofs.JudgeLaws.{count_is, names_of}
use Rattle.view_answers.specs.Edges.{edge_names}
use Rattle.view_answers.proofs.EdgeList.{edge_names_differ}
use Rattle.query_answers.specs.Cost.{size_of}
use Rattle.query_run.specs.Cost.{edges_in, is_known_from, size_read}
use Rattle.file_reading.specs.StoreReading.{reading_of}
use Rattle.file_reading.specs.declared.reading.FileReading.{FileReading}

edge_equiv : IsEquivalence same_edge
edge_equiv = eq_by_cmp_equiv edge_total

-- edges that rise strictly are distinct
rises-distinct : (xs : List EdgeName) → Rises edge_cmp xs → IsDistinct same_edge xs
rises-distinct [] h = IsDistinct-from_apart same_edge [] (λ i j d lt in_range. absurd (omega arith))
rises-distinct (x ∷ xs) h = IsDistinct-cons same_edge x xs (each_weaker (λ y. edge_cmp x y ≡ Less) (λ y. same_edge x y ≡ false) (λ y e. ap is_eq e) xs h.0) (rises-distinct xs h.1)

-- an edge is among the names where it is among the entities
any-named : (nodes layers : List (List ℕ)) (edge : EdgeName) (parts : List EdgeParts) → list_any (same_edge edge) (map (edge_name nodes layers) parts) ≡ list_any (same_entity (Edge edge)) (edge_entities nodes layers parts)
any-named nodes layers edge [] = refl
any-named nodes layers edge (p ∷ parts) = ap (λ t. same_edge edge (edge_name nodes layers p) || t) (any-named nodes layers edge parts)

-- and where an event is about it
alone : (b : Bool) → b ≡ (b || false)
alone true = refl
alone false = refl

same-in : (edge : EdgeName) (x : Entity) → same_entity (Edge edge) x ≡ list_any (same_edge edge) (edges_in x)
same-in edge (Node name) = refl
same-in edge (Edge other) = alone (same_edge edge other)

any-about : (edge : EdgeName) (xs : List Event) → list_any (is_about (Edge edge)) xs ≡ list_any (same_edge edge) (flat_map (λ (x : Event). edges_in (entity_of x)) xs)
any-about edge xs = (λ i. list_any (λ (x : Event). same-in edge (entity_of x) i) xs) ∙ sym (any_flat_map (same_edge edge) (λ (x : Event). edges_in (entity_of x)) xs)

-- the edges of a store are as many as its events name
edges-counted : (c : Contents) → IsIndexed c → length c.edges ≡ length (rising edge_cmp (flat_map (λ (x : Event). edges_in (entity_of x)) c.accepted))
edges-counted c h =
    let others = flat_map (λ (x : Event). edges_in (entity_of x)) c.accepted in
    sym (length-map c.edges (edge_name c.nodes c.layers))
    ∙ length-from_same_keys edge_equiv (edge_names c) (rising edge_cmp others) (edge_names_differ c h) (rises-distinct (rising edge_cmp others) (Rises-rising edge_cmp edge_total others))
    (λ edge. any-named c.nodes c.layers edge c.edges
    ∙ (h.known_edges edge ∙ (any-about edge c.accepted ∙ sym (any_rising edge_cmp (same_edge edge) (λ x y e. ap (same_edge edge) (edge_exact x y e)) others))))

-- a store knows what its events and types name
names-known : (read : FileReading) → IsIndexed read.store → (x : Entity) → knows read.store x ≡ is_known_from (reading_of read) x
names-known read h (Node name) = h.known_nodes name ∙ names_of read.store.accepted read.store.types name
names-known read h (Edge edge) = h.known_edges edge

-- so the size of a store is that of what was read
pub size_of-reading_of : (read : FileReading) (r : Reading) → IsIndexed read.store → reading_of read ≡ r → size_of read.store ≡ size_read r
size_of-reading_of read r h is =
    let c = read.store in
    let nodes = count_is c.nodes (node_names c.accepted c.types) h.node_names (λ n. h.known_nodes n ∙ names_of c.accepted c.types n) in
    let edges = edges-counted c h in
    let same : size_of c ≡ size_read (reading_of read) = λ i. record { nodes = nodes i; edges = edges i; events = length c.accepted; is_known = λ x. names-known read h x i } in
    same ∙ ap size_read is
