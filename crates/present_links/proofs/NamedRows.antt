-- The nodes of links by their names, and their neighbours in the world.
use Rattle.std.proofs.Common.{◌≡◌, ◌≢◌, ℕ, ◌<◌, true, false, not, ◌&&◌, ◌||◌, List, length, refl, sym, ◌∙◌, ap, inl, inr}
use Rattle.std.specs.Prelude.{nat_lt, ◌==◌}
use Rattle.std.specs.List.{list_any}
use Rattle.std.proofs.lemmas.Bool.{and_parts, or_left, or_right, or_cases, ltb-true, eqb-true, eq-eqb, false_from_ne_true}
use Rattle.graph_model.specs.declared.queries.Direction.{Direction}
use Rattle.graph_model.specs.declared.queries.Direction.TheVariants.{Both, Inward, Outward}
use Rattle.graph_model.specs.Names.{same_name, name_equiv}
use Rattle.graph_model.specs.Neighbours.{edge_leads, leads}
use Rattle.graph_model.specs.Presence.{edges, node_present}
use Rattle.graph_model.specs.World.{World}
use Rattle.world_laws.proofs.Filters.{each_weaker}
use Rattle.world_laws.proofs.Order.{same_name-exact, same_name-refl}
use Rattle.world_laws.proofs.Present.{some_passes}
use Rattle.graph_store.specs.declared.pairs.Ends.{Ends}
use Rattle.graph_store.specs.Contents.{Contents, name_at}
use Rattle.view_trait.specs.Meaning.{IsShown}
use Rattle.view_trait.specs.Numbered.{is_listed}
use Rattle.present_links.specs.Links.{HasLinks, has_own, is_end, rising_links}
use Rattle.present_links.specs.Adjacent.{AdjacentNodes, AreAdjacent, is_link, is_linked, number_at, place_among, row_at}
use Rattle.present_links.proofs.AmongNumbers.{listed_at, place_at, place_listed}
use Rattle.present_links.proofs.Neighbours.{same_number}
use Rattle.present_links.proofs.Numbers.{any_each}
use Rattle.present_links.proofs.Present.{present_number}
use Rattle.present_links.proofs.Views.{view_links_rising}

-- a present edge leads from one node to another where a link does
pub edge_is_link : (w : World) (names : List (List ℕ)) (links : List Ends) → HasLinks w names links → (n m : ℕ) → n < length names → m < length names
    → list_any (edge_leads (name_at names n) (name_at names m)) (edges w) ≡ is_link links n m
edge_is_link w names links h n m below_n below_m =
    h.linked (λ s d. same_name (name_at names n) s && same_name (name_at names m) d)
    ∙ any_each (λ (p : Ends). same_name (name_at names n) (name_at names p.src) && same_name (name_at names m) (name_at names p.dst)) (λ (p : Ends). (p.src == n) && (p.dst == m)) links
    (each_weaker (λ (p : Ends). (p.src < length names) × (p.dst < length names)) (λ (p : Ends). (same_name (name_at names n) (name_at names p.src) && same_name (name_at names m) (name_at names p.dst)) ≡ ((p.src == n) && (p.dst == m)))
    (λ p k. λ i. at n p.src below_n k.0 i && at m p.dst below_m k.1 i) links h.within)
  where
    at : (i j : ℕ) → i < length names → j < length names → same_name (name_at names i) (name_at names j) ≡ (j == i)
    at i j below_i below_j = name_equiv.symm (name_at names i) (name_at names j) ∙ sym (same_number names h.names j i below_j below_i)

-- where a link begins or ends a present node of the store is
pub end_known : (c : Contents) (w : World) → IsShown c w → (n : ℕ) → is_end (rising_links c w) n ≡ true → (n < length c.nodes) × (node_present w (name_at c.nodes n) ≡ true)
end_known c w h n e =
    let both = and_parts (nat_lt n (length c.nodes)) (node_present w (name_at c.nodes n)) (sym (present_number c w h n) ∙ or_left (is_end (rising_links c w) n) (has_own c w n) e) in
    (ltb-true n (length c.nodes) both.0, both.1)

module _ (c : Contents) (w : World) (h : IsShown c w) (d : Direction) (a : AdjacentNodes) (adjacent : AreAdjacent (rising_links c w) d a) where
  -- the name of the node in a place
  abbrev pub name_in : ℕ → List ℕ
  name_in v = name_at c.nodes (number_at a.nodes v)

  -- it is that of a present node of the store
  pub place_known : (v : ℕ) → v < length a.nodes → (number_at a.nodes v < length c.nodes) × (node_present w (name_in v) ≡ true)
  place_known v lt = end_known c w h (number_at a.nodes v) (sym (adjacent.nodes (number_at a.nodes v)) ∙ listed_at a.nodes v lt)

  -- nodes in different places have different names
  pub names_apart : (v u : ℕ) → v < length a.nodes → u < length a.nodes → same_name (name_in v) (name_in u) ≡ true → (v == u) ≡ true
  names_apart v u below_v below_u e =
      let same : number_at a.nodes v ≡ number_at a.nodes u = eqb-true (number_at a.nodes v) (number_at a.nodes u) (same_number c.nodes h.indexed.node_names (number_at a.nodes v) (number_at a.nodes u) (place_known v below_v).0 (place_known u below_u).0 ∙ e) in
      eq-eqb v u (number_place v u below_v below_u same)
    where
      number_place : (i j : ℕ) → i < length a.nodes → j < length a.nodes → number_at a.nodes i ≡ number_at a.nodes j → i ≡ j
      number_place i j below_i below_j e = sym (place_at a.nodes i adjacent.rise below_i) ∙ (ap (place_of_number) e ∙ place_at a.nodes j adjacent.rise below_j)
        where
          place_of_number : ℕ → ℕ
          place_of_number n = place_among a.nodes n

  -- the numbers of places are linked where their nodes are neighbours
  numbers_linked : (n m : ℕ) → n < length c.nodes → m < length c.nodes → (way : Direction) → (n == m) ≡ false → is_linked (rising_links c w) way n m ≡ leads w way (name_at c.nodes n) (name_at c.nodes m)
  numbers_linked n m below_n below_m Outward ne = sym (edge_is_link w c.nodes (rising_links c w) (view_links_rising c w h) n m below_n below_m)
  numbers_linked n m below_n below_m Inward ne = sym (edge_is_link w c.nodes (rising_links c w) (view_links_rising c w h) m n below_m below_n)
  numbers_linked n m below_n below_m Both ne =
      ap (λ t. not t && (is_link (rising_links c w) n m || is_link (rising_links c w) m n)) ne
      ∙ (λ i. sym (edge_is_link w c.nodes (rising_links c w) (view_links_rising c w h) n m below_n below_m) i || sym (edge_is_link w c.nodes (rising_links c w) (view_links_rising c w h) m n below_m below_n) i)

  -- so a row lists another node where it is a neighbour
  pub row_leads : (v u : ℕ) → v < length a.nodes → u < length a.nodes → (v == u) ≡ false → is_listed (row_at a.rows v) u ≡ leads w d (name_in v) (name_in u)
  row_leads v u below_v below_u ne =
      let apart : (number_at a.nodes v == number_at a.nodes u) ≡ false = false_from_ne_true (number_at a.nodes v == number_at a.nodes u) (λ e. (
      let same = names_apart v u below_v below_u (ap (λ k. same_name (name_in v) (name_at c.nodes k)) (sym (eqb-true (number_at a.nodes v) (number_at a.nodes u) e)) ∙ same_name-refl (name_in v)) in
      let no = sym same ∙ ne in cc
      )) in
      adjacent.exactly v u below_v below_u ∙ numbers_linked (number_at a.nodes v) (number_at a.nodes u) (place_known v below_v).0 (place_known u below_u).0 d apart

  -- a neighbour of a node in a place is in a place itself
  led_end : (from to : List ℕ) → list_any (edge_leads from to) (edges w) ≡ true → ((n : ℕ) × (is_end (rising_links c w) n ≡ true) × (from ≡ name_at c.nodes n)) × ((m : ℕ) × (is_end (rising_links c w) m ≡ true) × (to ≡ name_at c.nodes m))
  led_end from to e =
      let links = view_links_rising c w h in
      let p = some_passes (λ (q : Ends). same_name from (name_at c.nodes q.src) && same_name to (name_at c.nodes q.dst)) (rising_links c w) (sym (links.linked (λ s t. same_name from s && same_name to t)) ∙ e) in
      let m = and_parts (same_name from (name_at c.nodes p.0.src)) (same_name to (name_at c.nodes p.0.dst)) p.1 in (
        (p.0.src, or_left (list_any (λ (q : Ends). q.src == p.0.src) (rising_links c w)) (list_any (λ (q : Ends). q.dst == p.0.src) (rising_links c w)) (p.2 (λ (q : Ends). q.src == p.0.src) (eq-eqb p.0.src p.0.src refl)), same_name-exact from (name_at c.nodes p.0.src) m.0),
        (p.0.dst, or_right (list_any (λ (q : Ends). q.src == p.0.dst) (rising_links c w)) (list_any (λ (q : Ends). q.dst == p.0.dst) (rising_links c w)) (p.2 (λ (q : Ends). q.dst == p.0.dst) (eq-eqb p.0.dst p.0.dst refl)), same_name-exact to (name_at c.nodes p.0.dst) m.1),
      )

  end_place : (b : List ℕ) → ((n : ℕ) × (is_end (rising_links c w) n ≡ true) × (b ≡ name_at c.nodes n)) → (u : ℕ) × (u < length a.nodes) × (b ≡ name_in u)
  end_place b e = let u = place_listed a.nodes e.0 (adjacent.nodes e.0 ∙ e.1) in (u.0, u.1, e.2 ∙ ap (name_at c.nodes) (sym u.2))

  pub place_reached : (from b : List ℕ) → leads w Both from b ≡ true → (u : ℕ) × (u < length a.nodes) × (b ≡ name_in u)
  place_reached from b e = elim (or_cases (list_any (edge_leads from b) (edges w)) (list_any (edge_leads b from) (edges w)) e) [
    | inl k ↦ end_place b (led_end from b k).1
    | inr k ↦ end_place b (led_end b from k).0
  ]

-- a law for callers: another node is a neighbour of a node where its place is in the row
pub rows_are_neighbours : (c : Contents) (w : World) → IsShown c w → (d : Direction) (a : AdjacentNodes) → AreAdjacent (rising_links c w) d a → (v u : ℕ) → v < length a.nodes → u < length a.nodes → v ≢ u
    → is_listed (row_at a.rows v) u ≡ leads w d (name_at c.nodes (number_at a.nodes v)) (name_at c.nodes (number_at a.nodes u))
rows_are_neighbours c w h d a adjacent v u below_v below_u ne = row_leads c w h d a adjacent v u below_v below_u (false_from_ne_true (v == u) (λ e. ne (eqb-true v u e)))
