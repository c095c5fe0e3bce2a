-- The nodes to which a node leads, by its neighbours and by lists of links.
use Rattle.std.proofs.Common.{◌≡◌, ◌≢◌, ℕ, ◌+◌, ◌<◌, true, false, not, ◌&&◌, ◌||◌, Option, None, Some, List, [], ◌∷◌, ◌++◌, length, map, take, get_or, refl, sym, ◌∙◌, ap, subst, inl, inr, arith}
use Rattle.std.specs.Prelude.{◌==◌, nat_lt, slice_get, IfNone, IfSome}
use Rattle.std.specs.Option.{is_some}
use Rattle.std.specs.List.{list_any, Contains}
use Rattle.std.proofs.lemmas.Bool.{and_parts, or_cases, or_left, or_right, eqb-true, false_from_ne_true, lt-ltb, true≢false}
use Rattle.std.proofs.lemmas.List.{get_or-map, length-map, map-append, take_more}
use Rattle.std.proofs.lemmas.List.Elements.{All-from_get_or, All-map}
use Rattle.std.proofs.lemmas.Option.{get_or_from_slice_get, slice_get_within}
use Rattle.graph_model.specs.declared.queries.Direction.{Direction}
use Rattle.graph_model.specs.declared.queries.Direction.TheVariants.{Both, Inward, Outward}
use Rattle.graph_model.specs.Entity.{is_about}
use Rattle.graph_model.specs.Neighbours.{edge_leads, leads}
use Rattle.graph_model.specs.Presence.{edges, node_present}
use Rattle.graph_model.specs.World.{World}
use Rattle.world_laws.proofs.ListItems.{each_at}
use Rattle.graph_store.specs.Contents.{Contents, name_at}
use Rattle.view_trait.specs.Meaning.{IsShown, node_at}
use Rattle.view_trait.specs.Numbered.{is_listed}
use Rattle.view_trait.specs.Present.{AreNeighbours}
use Rattle.present_links.specs.Adjacent.{AdjacentNodes, AreAdjacent, is_link, is_linked, number_at, row_at}
use Rattle.present_links.specs.Links.{has_own, rising_links}
use Rattle.present_links.proofs.AmongNumbers.{listed_at, place_listed}
use Rattle.present_links.proofs.NamedRows.{edge_is_link, end_known, place_known, place_reached, row_leads}
use Rattle.present_links.proofs.Present.{present_number}
use Rattle.present_links.proofs.Views.{view_links_rising}
use Rattle.node_visits.specs.declared.visited.Visit.{Visit}
use Rattle.node_visits.specs.Visits.{all_visited, visited_too}
use Rattle.walk_laws.specs.Steps.{Next}
use Rattle.walk_laws.proofs.Places.{same_number}
use Rattle.walk_laws.proofs.Steps.{has_next, is_next}
use Rattle.walk_algorithms.specs.Visits.{AreLed}
use Rattle.walk_algorithms.proofs.Walked.{shown_numbers}

-- one more number is visited
pub visited_more : (mark : ℕ) (numbers : List ℕ) (n : ℕ) (visits : List Visit) → all_visited mark (numbers ++ n ∷ []) visits ≡ visited_too (all_visited mark numbers visits) n mark
visited_more mark [] n visits = refl
visited_more mark (m ∷ numbers) n visits = visited_more mark numbers n (visited_too visits m mark)

-- a node leads to its neighbours
pub neighbours_led : (c : Contents) (w : World) → IsShown c w → (d : Direction) (n : ℕ) (numbers : List ℕ) → AreNeighbours c w d n numbers → AreLed c w d n numbers
neighbours_led c w shown d n numbers h = record {
  each = All-from_get_or (Next w c.nodes d n) numbers 0 (is_next w c.nodes d (shown_numbers c w shown) n numbers h.within h.exactly);
  others = λ m next ne. has_next w c.nodes d (shown_numbers c w shown) n numbers h.within h.exactly m next;
}

-- a present edge that leads in a direction leads one way or the other
any_way : (w : World) (d : Direction) (from to : List ℕ) → leads w d from to ≡ true → leads w Both from to ≡ true
any_way w Outward from to e = or_left (list_any (edge_leads from to) (edges w)) (list_any (edge_leads to from) (edges w)) e
any_way w Inward from to e = or_right (list_any (edge_leads from to) (edges w)) (list_any (edge_leads to from) (edges w)) e
any_way w Both from to e = e

way_back : (w : World) (from to : List ℕ) → leads w Both from to ≡ true → leads w Both to from ≡ true
way_back w from to e = elim (or_cases (list_any (edge_leads from to) (edges w)) (list_any (edge_leads to from) (edges w)) e) [
  | inl k ↦ or_right (list_any (edge_leads to from) (edges w)) (list_any (edge_leads from to) (edges w)) k
  | inr k ↦ or_left (list_any (edge_leads to from) (edges w)) (list_any (edge_leads from to) (edges w)) k
]

module _ (c : Contents) (w : World) (h : IsShown c w) (d : Direction) (a : AdjacentNodes) (adjacent : AreAdjacent (rising_links c w) d a) where
  linked_leads : (n m : ℕ) → n < length c.nodes → m < length c.nodes → (way : Direction) → is_linked (rising_links c w) way n m ≡ true → leads w way (name_at c.nodes n) (name_at c.nodes m) ≡ true
  linked_leads n m below_n below_m Outward e = edge_is_link w c.nodes (rising_links c w) (view_links_rising c w h) n m below_n below_m ∙ e
  linked_leads n m below_n below_m Inward e = edge_is_link w c.nodes (rising_links c w) (view_links_rising c w h) m n below_m below_n ∙ e
  linked_leads n m below_n below_m Both e =
      (λ i. edge_is_link w c.nodes (rising_links c w) (view_links_rising c w h) n m below_n below_m i || edge_is_link w c.nodes (rising_links c w) (view_links_rising c w h) m n below_m below_n i)
      ∙ (and_parts (not (n == m)) (is_link (rising_links c w) n m || is_link (rising_links c w) m n) e).1

  -- a node leads to those in its row
  row_next : (v : ℕ) → v < length a.nodes → (i : ℕ) → i < length (row_at a.rows v) → Next w c.nodes d (number_at a.nodes v) (number_at a.nodes (get_or (row_at a.rows v) i 0))
  row_next v below i lt =
      let u = get_or (row_at a.rows v) i 0 in
      let below_u : u < length a.nodes = each_at (λ k. k < length a.nodes) (row_at a.rows v) i 0 (adjacent.within v) lt in
      let known = (place_known c w h d a adjacent u below_u).0 in
      (known, linked_leads (number_at a.nodes v) (number_at a.nodes u) (place_known c w h d a adjacent v below).0 known d (sym (adjacent.exactly v u below below_u) ∙ listed_at (row_at a.rows v) i lt))

  -- a node that another leads to, or that leads to it, is in a place
  next_place : (n : ℕ) → n < length c.nodes → (from : List ℕ) → leads w Both from (name_at c.nodes n) ≡ true → (u : ℕ) × (u < length a.nodes) × (number_at a.nodes u ≡ n)
  next_place n below from e =
      let r = place_reached c w h d a adjacent from (name_at c.nodes n) e in
      (r.0, r.1, sym (same_number w c.nodes (shown_numbers c w h) n (number_at a.nodes r.0) below (place_known c w h d a adjacent r.0 r.1).0 r.2))

  in_row : (v m : ℕ) → v < length a.nodes → Next w c.nodes d (number_at a.nodes v) m → m ≢ number_at a.nodes v → Contains (map (number_at a.nodes) (row_at a.rows v)) m
  in_row v m below next ne =
      let row = row_at a.rows v in
      let u = next_place m next.0 (name_at c.nodes (number_at a.nodes v)) (any_way w d (name_at c.nodes (number_at a.nodes v)) (name_at c.nodes m) next.1) in
      let apart : (v == u.0) ≡ false = false_from_ne_true (v == u.0) (λ e. ne (sym u.2 ∙ ap (number_at a.nodes) (sym (eqb-true v u.0 e)))) in
      let on : is_listed row u.0 ≡ true = row_leads c w h d a adjacent v u.0 below u.1 apart ∙ (ap (λ k. leads w d (name_at c.nodes (number_at a.nodes v)) (name_at c.nodes k)) u.2 ∙ next.1) in
      let k = place_listed row u.0 on in
      let len = length-map row (number_at a.nodes) in
      (k.0, omega (arith, len, k.1), get_or-map (number_at a.nodes) row k.0 0 m k.1 ∙ (ap (number_at a.nodes) k.2 ∙ u.2))

  pub row_led : (v : ℕ) → v < length a.nodes → AreLed c w d (number_at a.nodes v) (map (number_at a.nodes) (row_at a.rows v))
  row_led v below = record {
    each = All-map (Next w c.nodes d (number_at a.nodes v)) (number_at a.nodes) (row_at a.rows v) (All-from_get_or (λ u. Next w c.nodes d (number_at a.nodes v) (number_at a.nodes u)) (row_at a.rows v) 0 (row_next v below));
    others = λ m next ne. in_row v m below next ne;
  }

  -- a node that is in no place leads to none
  pub none_led : (n : ℕ) → n < length c.nodes → is_listed a.nodes n ≡ false → AreLed c w d n []
  none_led n below off = record {
    each = λ k x lt. absurd (omega arith);
    others = λ m next ne.
        let u = next_place n below (name_at c.nodes m) (way_back w (name_at c.nodes n) (name_at c.nodes m) (any_way w d (name_at c.nodes n) (name_at c.nodes m) next.1)) in
        absurd (true≢false (sym (listed_at a.nodes u.0 u.1) ∙ (ap (is_listed a.nodes) u.2 ∙ off)));
  }

  -- a number in a place is one of the store
  pub placed_known : (v n : ℕ) → slice_get a.nodes v ≡ Some n → n < length c.nodes
  placed_known v n e = subst (λ m. m < length c.nodes) (get_or_from_slice_get a.nodes v n 0 e) (place_known c w h d a adjacent v (slice_get_within a.nodes v n e)).0

  -- a node is present where it is in a place, or has an event of its own
  pub present_listed : (n : ℕ) → is_listed a.nodes n ≡ true → true ≡ node_present w (name_at c.nodes n)
  present_listed n on = sym (end_known c w h n (sym (adjacent.nodes n) ∙ on)).1

  pub present_alone : (n : ℕ) → n < length c.nodes → is_listed a.nodes n ≡ false → list_any (is_about (node_at c n)) w.events ≡ node_present w (name_at c.nodes n)
  present_alone n below off =
      let lt : nat_lt n (length c.nodes) ≡ true = lt-ltb n (length c.nodes) below in
      sym (ap (λ t. t && list_any (is_about (node_at c n)) w.events) lt)
      ∙ (sym (ap (λ t. t || has_own c w n) (sym (adjacent.nodes n) ∙ off)) ∙ (present_number c w h n ∙ ap (λ t. t && node_present w (name_at c.nodes n)) lt))

-- a place that was found, and none
pub place_found : (nodes : List ℕ) (n : ℕ) (place : Option ℕ) → IfSome place (λ v. slice_get nodes v ≡ Some n) → is_some place ≡ true → is_listed nodes n ≡ true
place_found nodes n (Some v) e found = subst (λ m. is_listed nodes m ≡ true) (get_or_from_slice_get nodes v n 0 e) (listed_at nodes v (slice_get_within nodes v n e))
place_found nodes n None e found = absurd (true≢false (sym found))

pub no_place_found : (nodes : List ℕ) (n : ℕ) (place : Option ℕ) → IfNone place (is_listed nodes n ≡ false) → is_some place ≡ false → is_listed nodes n ≡ false
no_place_found nodes n (Some v) off found = absurd (true≢false found)
no_place_found nodes n None off found = off

-- one more of a row is visited
pub row_more : (nodes row : List ℕ) (mark i n : ℕ) (before now after : List Visit) → i < length row → slice_get nodes (get_or row i 0) ≡ Some n → now ≡ all_visited mark (map (number_at nodes) (take i row)) before → after ≡ visited_too now n mark
    → after ≡ all_visited mark (map (number_at nodes) (take (i + 1) row)) before
row_more nodes row mark i n before now after lt e was is =
    let number = number_at nodes in
    let more : map number (take (i + 1) row) ≡ map number (take i row) ++ number (get_or row i 0) ∷ [] = ap (map number) (take_more row i 0 lt) ∙ map-append number (take i row) (get_or row i 0 ∷ []) in
    is
    ∙ ((λ k. visited_too (was k) (sym (get_or_from_slice_get nodes (get_or row i 0) n 0 e) k) mark)
    ∙ (sym (visited_more mark (map number (take i row)) (number (get_or row i 0)) before) ∙ ap (λ ns. all_visited mark ns before) (sym more)))
