-- Links: the pairs of numbered nodes between which the present edges of a world lead.
use Rattle.std.specs.Prelude.{ℕ, List, Bool, not, ◌&&◌, ◌||◌, ◌==◌, ◌≡◌, ◌<◌, ◌↔◌, IsTrue}
use Rattle.std.specs.Prelude.{length, map, nat_lt}
use Rattle.std.specs.List.{filter, list_any, IsDistinct, AllByRecursion}
use Rattle.std.specs.Ordering.{nat_cmp, ordering_then}
use Rattle.std.specs.declared.cmp.Ordering.{Ordering}
use Rattle.graph_model.specs.declared.events.EdgeName.{EdgeName}
use Rattle.graph_model.specs.Entity.{is_about}
use Rattle.graph_model.specs.Names.{same_name}
use Rattle.graph_model.specs.Rising.{rising}
use Rattle.graph_model.specs.World.{World}
use Rattle.graph_model.specs.Presence.{edge_present, edges, node_present}
use Rattle.graph_store.specs.declared.pairs.Ends.{Ends}
use Rattle.graph_store.specs.Ends.{same_ends}
use Rattle.graph_store.specs.EdgeIndex.{edges_between}
use Rattle.graph_store.specs.EdgeParts.{ends_of, parts_at}
use Rattle.graph_store.specs.Contents.{Contents, edge_name, name_at}
use Rattle.view_trait.specs.Meaning.{node_at}
use Rattle.present_links.specs.declared.link_list.Link.{Link}
use Rattle.present_links.specs.declared.node_rows.NamedNode.{NamedNode}

-- the links that begin at a node, and those that end there
abbrev pub links_from : List Ends → ℕ → List Ends
links_from links n = filter (λ (p : Ends). p.src == n) links

abbrev pub links_to : List Ends → ℕ → List Ends
links_to links n = filter (λ (p : Ends). p.dst == n) links

-- whether a link leads back; a loop is its own way back
abbrev pub leads_back : List Ends → Ends → Bool
leads_back links p = list_any (same_ends (record { src = p.dst; dst = p.src })) links

-- some links that end at a node, of which none leads back by one of all links
abbrev pub alone_among : List Ends → List Ends → ℕ → List Ends
alone_among all some n = filter (λ (p : Ends). not (leads_back all p)) (links_to some n)

-- the links that end at a node, and have no link back
abbrev pub links_to_alone : List Ends → ℕ → List Ends
links_to_alone links n = alone_among links links n

-- distinct links between distinct nodes: some present edge has ends that pass a test exactly
-- where some link has
pub record HasLinks (w : World) (nodes : List (List ℕ)) (links : List Ends) : Type 0 where
  pub names : IsDistinct same_name nodes
  pub once : IsDistinct same_ends links
  pub within : AllByRecursion (λ (p : Ends). (p.src < length nodes) × (p.dst < length nodes)) links
  pub linked : (test : List ℕ → List ℕ → Bool)
      → list_any (λ (e : EdgeName). test e.src e.dst) (edges w)
      ≡ list_any (λ (p : Ends). test (name_at nodes p.src) (name_at nodes p.dst)) links

-- whether some edge of a pair is shown, where a test of numbers says which edges are
abbrev pub has_shown : (ℕ → Bool) → Contents → Ends → Bool
has_shown shown c p = list_any shown (edges_between c.edges p)

-- a world shows the edges with these numbers: an edge is present exactly where it has one of them
abbrev pub ShowsEdges : Contents → World → (ℕ → Bool) → Type 0
ShowsEdges c w shown = (edge : EdgeName)
    → IsTrue (edge_present w edge)
    ↔ ((e : ℕ) × (e < length c.edges) × IsTrue (shown e) × (edge_name c.nodes c.layers (parts_at c.edges e) ≡ edge))

-- the pairs with an edge that is shown
abbrev pub shown_links : (ℕ → Bool) → Contents → List Ends
shown_links shown c = filter (has_shown shown c) c.pairs

-- whether a world shows the edge of a number
abbrev pub edge_shown : Contents → World → ℕ → Bool
edge_shown c w e = edge_present w (edge_name c.nodes c.layers (parts_at c.edges e))

-- whether it shows an edge of a pair
abbrev pub pair_shown : Contents → World → Ends → Bool
pair_shown c w p = has_shown (edge_shown c w) c p

-- the links of a world over a store: the pairs with an edge that it shows
abbrev pub links_of : Contents → World → List Ends
links_of c w = shown_links (edge_shown c w) c

-- pairs in the order of their sources and then of their destinations
abbrev pub ends_cmp : Ends → Ends → Ordering
ends_cmp p q = ordering_then (nat_cmp p.src q.src) (nat_cmp p.dst q.dst)

-- the links of a world over a store, rising by source and then by destination
abbrev pub rising_links : Contents → World → List Ends
rising_links c w = rising ends_cmp (links_of c w)

-- the ends of a link, and of links in their order
abbrev pub link_ends : Link → Ends
link_ends l = record { src = l.src; dst = l.dst }

abbrev pub ends_in : List Link → List Ends
ends_in links = map link_ends links

-- whether two links have the same ends
abbrev pub same_link : Link → Link → Bool
same_link a b = same_ends (link_ends a) (link_ends b)

-- whether a store has the edge of a number and a world shows it
abbrev pub has_edge : Contents → World → ℕ → Bool
has_edge c w e = nat_lt e (length c.edges) && edge_shown c w e

-- the ends of the edge of a number
abbrev pub edge_ends : Contents → ℕ → Ends
edge_ends c e = ends_of (parts_at c.edges e)

-- whether a store has the node of a number and the node has an event of its own in a world
abbrev pub has_own : Contents → World → ℕ → Bool
has_own c w n = nat_lt n (length c.nodes) && list_any (is_about (node_at c n)) w.events

-- whether a link begins or ends at a node
abbrev pub is_end : List Ends → ℕ → Bool
is_end links n =
    list_any (λ (p : Ends). p.src == n) links || list_any (λ (p : Ends). p.dst == n) links

-- whether a store has the node of a number and a world shows it
abbrev pub is_present_number : Contents → World → ℕ → Bool
is_present_number c w n = nat_lt n (length c.nodes) && node_present w (name_at c.nodes n)

-- a node that has this name among those of the contents
pub record IsNamed (c : Contents) (x : NamedNode) : Type 0 where
  pub within : x.node < length c.nodes
  pub name : name_at c.nodes x.node ≡ x.name.now

-- the names of the nodes to which links lead from a node, and of those from which they lead to it
abbrev pub names_linked_to : List (List ℕ) → List Ends → ℕ → List (List ℕ)
names_linked_to nodes links n = map (λ (p : Ends). name_at nodes p.dst) (links_from links n)

abbrev pub names_linked_from : List (List ℕ) → List Ends → ℕ → List (List ℕ)
names_linked_from nodes links n = map (λ (p : Ends). name_at nodes p.src) (links_to links n)
