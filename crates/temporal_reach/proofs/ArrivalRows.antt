-- The rows of the nodes that are answered: they rise, and are exactly the facts.
use Rattle.std.proofs.Common.{◌≡◌, ℕ, ◌<◌, ℤ, Bool, true, false, ◌&&◌, List, [], ◌∷◌, Option, Some, None, length, map, inl, inr, refl, sym, ◌∙◌, ap, subst, eqb-true, eq-eqb}
use Rattle.std.specs.Prelude.{◌==◌, IsPermutation, IsSortedBy, is_some}
use Rattle.std.specs.List.{All, AllByRecursion, Contains, IsDistinct, filter}
use Rattle.std.specs.Ordering.{is_lt}
use Rattle.std.specs.declared.cmp.Ordering.TheVariants.{Less}
use Rattle.std.proofs.lemmas.Bool.{and_from, false_from_ne_true}
use Rattle.std.proofs.lemmas.List.Elements.{All-from_recursion, recursion_from_All}
use Rattle.std.proofs.lemmas.List.Sorted.{All-permutation, Contains-permutation}
use Rattle.graph_model.specs.declared.queries.Ask.TheVariants.{Arrival as ArrivalAsk}
use Rattle.graph_model.specs.Names.{name_cmp, name_total, same_name}
use Rattle.graph_model.specs.Rising.{Rises}
use Rattle.graph_model.specs.World.{World}
use Rattle.graph_model.specs.Keep.{is_named}
use Rattle.graph_model.specs.Presence.{node_present}
use Rattle.graph_model.specs.Answer.{Row, IsAnswer, IsArrivalRow, row_cmp}
use Rattle.world_laws.proofs.Answers.{any_contained, contained_any, contains_map, less_then, map_contains}
use Rattle.world_laws.proofs.Members.{any_filter}
use Rattle.world_laws.proofs.Filters.{each_weaker}
use Rattle.world_laws.proofs.ListItems.{each_map}
use Rattle.world_laws.proofs.Order.{same_name-exact}
use Rattle.world_laws.proofs.Rows.{each_contained}
use Rattle.world_laws.proofs.SortedKeys.{distinct_filter, sorted_keys_rise}
use Rattle.graph_store.specs.Contents.{Contents, name_at}
use Rattle.present_links.proofs.Numbers.{distinct_map}
use Rattle.temporal_reach.specs.declared.arrivals.Arrival.{Arrival}
use Rattle.temporal_reach.specs.declared.arrivals.NamedArrival.{NamedArrival}
use Rattle.temporal_reach.specs.declared.reach_table.Reached.{Reached}
use Rattle.temporal_reach.specs.declared.reach_table.Reached.TheVariants.{Start, Moment}
use Rattle.temporal_reach.specs.Reaching.{reached_at, nodes_in}
use Rattle.temporal_reach.specs.Arrivals.{IsNamedArrival, IsReachedBy, NamesEdge, answer_of, arrival_row, is_answered, reached_row, shown_reached}
use Rattle.temporal_reach.specs.Search.{IsSearch}
use Rattle.temporal_reach.proofs.TablePlaces.{reached_listed}
use Rattle.temporal_reach.proofs.Arriving.{AreNumbered, arrives, arrives_by, settled_at, unnamed}

-- a number that passes is among those that do
passes_listed : (p : ℕ → Bool) (ns : List ℕ) (k : ℕ) → Contains ns k → p k ≡ true → Contains (filter p ns) k
passes_listed p ns k there h =
    contained_any (λ m. m == k) k (λ y e. sym (eqb-true y k e)) (filter p ns)
    (any_filter p (λ m. m == k) ns ∙ any_contained (λ m. p m && (m == k)) ns k there (and_from (p k) (k == k) h (eq-eqb k k refl)))

-- ---- rows

module _ (c : Contents) (w : World) (names : List (List ℕ)) (start : ℤ) (table : List (ℕ × Reached)) (numbered : AreNumbered c w) (h : IsSearch c w names start table []) where
  -- what is answered of a node is a fact
  pub answer_fact : (n : ℕ) (r : Reached) → answer_of c w table n ≡ Some r → IsArrivalRow w start names (name_at c.nodes n) (reached_row (name_at c.nodes n) r)
  answer_fact n r e = by (node_present w (name_at c.nodes n)) (reached_at table n) refl refl e
    where
      by : (present : Bool) (known : Option Reached) → node_present w (name_at c.nodes n) ≡ present → reached_at table n ≡ known → shown_reached present known ≡ Some r → IsArrivalRow w start names (name_at c.nodes n) (reached_row (name_at c.nodes n) r)
      by present None p l d = cc
      by true (Some Start) p l d =
          let same : Start ≡ r = cc in
          subst (λ z. IsArrivalRow w start names (name_at c.nodes n) (reached_row (name_at c.nodes n) z)) same (inl (p, h.seeded n l, refl))
      by false (Some Start) p l d = cc
      by present (Some (Moment m b)) p l d =
          let same : Moment m b ≡ r = cc in
          let none : is_named names (name_at c.nodes n) ≡ false = false_from_ne_true (is_named names (name_at c.nodes n)) (unnamed c w names start table numbered h n m b l) in
          subst (λ z. IsArrivalRow w start names (name_at c.nodes n) (reached_row (name_at c.nodes n) z)) same (inr (none, (m, arrives c w names start table numbered h n m b l, refl)))

  -- and it names its edge
  pub answer_names_edge : (n : ℕ) (r : Reached) → answer_of c w table n ≡ Some r → IsReachedBy c w names start (name_at c.nodes n) r
  answer_names_edge n r e = by (node_present w (name_at c.nodes n)) (reached_at table n) refl e
    where
      by : (present : Bool) (known : Option Reached) → reached_at table n ≡ known → shown_reached present known ≡ Some r → IsReachedBy c w names start (name_at c.nodes n) r
      by present None l d = cc
      by true (Some Start) l d = let same : Start ≡ r = cc in subst (IsReachedBy c w names start (name_at c.nodes n)) same tt
      by false (Some Start) l d = cc
      by present (Some (Moment m b)) l d = let same : Moment m b ≡ r = cc in subst (IsReachedBy c w names start (name_at c.nodes n)) same (arrives_by c w names start table numbered h n m b l)

  -- each fact is answered
  pub fact_answer : (b : List ℕ) (row : Row) → IsArrivalRow w start names b row → (n : ℕ) × (n < length c.nodes) × ((r : Reached) × (answer_of c w table n ≡ Some r) × (reached_row (name_at c.nodes n) r ≡ row))
  fact_answer b row (inl f) =
      let s = numbered.node b f.0 in
      let present : node_present w (name_at c.nodes s.0) ≡ true = ap (node_present w) s.2 ∙ f.0 in
      let started = h.started s.0 s.1 (ap (is_named names) s.2 ∙ f.1) in
      (s.0, s.1, (Start, (λ i. shown_reached (present i) (started i)), ap (λ z. reached_row z Start) s.2 ∙ sym f.2))
  fact_answer b row (inr f) =
      let s = settled_at c w names start table numbered h b f.1.0 f.0 f.1.1 in
      (s.0, s.1, (Moment f.1.0 s.3.0, ap (shown_reached (node_present w (name_at c.nodes s.0))) s.3.1, ap (λ z. reached_row z (Moment f.1.0 s.3.0)) s.2 ∙ sym f.1.2))

-- what is answered is reached
answer_listed : (c : Contents) (w : World) (table : List (ℕ × Reached)) (n : ℕ) (r : Reached) → answer_of c w table n ≡ Some r → Contains (nodes_in table) n
answer_listed c w table n r e = by (reached_at table n) refl e
  where
    by : (known : Option Reached) → reached_at table n ≡ known → shown_reached (node_present w (name_at c.nodes n)) known ≡ Some r → Contains (nodes_in table) n
    by None l d = cc
    by (Some s) l d = reached_listed table n s l

row_less : (m n : List ℕ) (r s : Reached) → name_cmp m n ≡ Less → row_cmp (reached_row m r) (reached_row n s) ≡ Less
row_less m n Start Start h = less_then (name_cmp m n) h
row_less m n Start (Moment k b) h = less_then (name_cmp m n) h
row_less m n (Moment j a) Start h = less_then (name_cmp m n) h
row_less m n (Moment j a) (Moment k b) h = less_then (name_cmp m n) h

-- rows rise as the names of their nodes do
module _ (c : Contents) (w : World) (table : List (ℕ × Reached)) where
  abbrev Named : NamedArrival → Type 0
  Named x = IsNamedArrival c w table x

  heads_rise : (x : NamedArrival) (xs : List NamedArrival) → Named x → AllByRecursion Named xs → AllByRecursion (λ b. name_cmp x.name.now b ≡ Less) (map (λ (y : NamedArrival). y.name.now) xs) → AllByRecursion (λ r. row_cmp (arrival_row c x.arrival) r ≡ Less) (map (arrival_row c) (map (λ (y : NamedArrival). y.arrival) xs))
  heads_rise x [] nx ns h = tt
  heads_rise x (y ∷ xs) nx ns h = (
    row_less (name_at c.nodes x.arrival.node.0) (name_at c.nodes y.arrival.node.0) x.arrival.reached y.arrival.reached ((λ i. name_cmp (nx.name i) (ns.0.name i)) ∙ h.0),
    heads_rise x xs nx ns.1 h.1,
  )

  rows_rise : (xs : List NamedArrival) → AllByRecursion Named xs → Rises name_cmp (map (λ (y : NamedArrival). y.name.now) xs) → Rises row_cmp (map (arrival_row c) (map (λ (y : NamedArrival). y.arrival) xs))
  rows_rise [] ns h = tt
  rows_rise (x ∷ xs) ns h = (heads_rise x xs ns.0 ns.1 h.0, rows_rise xs ns.1 h.1)

  -- the names of arrivals are those of their numbers
  names_are : (xs : List NamedArrival) → AllByRecursion Named xs → map (name_at c.nodes) (map (λ (y : NamedArrival). y.arrival.node.0) xs) ≡ map (λ (y : NamedArrival). y.name.now) xs
  names_are [] ns = refl
  names_are (x ∷ xs) ns = let rest = names_are xs ns.1 in λ i. ns.0.name i ∷ rest i

  numbers_within : (xs : List NamedArrival) → AllByRecursion Named xs → AllByRecursion (λ n. n < length c.nodes) (map (λ (y : NamedArrival). y.arrival.node.0) xs)
  numbers_within [] ns = tt
  numbers_within (x ∷ xs) ns = (ns.0.within, numbers_within xs ns.1)

-- in another order they have names still, and nodes of the store
pub named_still : (c : Contents) (w : World) (table : List (ℕ × Reached)) (xs ys : List NamedArrival) → All (IsNamedArrival c w table) xs → IsPermutation xs ys → AllByRecursion (IsNamedArrival c w table) ys
named_still c w table xs ys named moved = recursion_from_All (IsNamedArrival c w table) ys (All-permutation (IsNamedArrival c w table) xs ys moved named)

pub rows_within : (c : Contents) (w : World) (table : List (ℕ × Reached)) (xs ys : List NamedArrival) → All (IsNamedArrival c w table) xs → IsPermutation xs ys → All (λ (a : Arrival). a.node.0 < length c.nodes) (map (λ (y : NamedArrival). y.arrival) ys)
rows_within c w table xs ys named moved =
    All-from_recursion (λ (a : Arrival). a.node.0 < length c.nodes) (map (λ (y : NamedArrival). y.arrival) ys)
    (each_map (λ (a : Arrival). a.node.0 < length c.nodes) (λ (y : NamedArrival). y.arrival) ys (each_weaker (IsNamedArrival c w table) (λ (y : NamedArrival). y.arrival.node.0 < length c.nodes) (λ y is. is.within) ys (named_still c w table xs ys named moved)))

module _ (c : Contents) (w : World) (names : List (List ℕ)) (start : ℤ) (table : List (ℕ × Reached)) (numbered : AreNumbered c w) (h : IsSearch c w names start table []) (xs ys : List NamedArrival) (once : IsDistinct (λ (i j : ℕ). i == j) (nodes_in table)) (nodes : map (λ (x : NamedArrival). x.arrival.node.0) xs ≡ filter (is_answered c w table) (nodes_in table)) (named : All (IsNamedArrival c w table) xs) (moved : IsPermutation xs ys) where
  abbrev key : NamedArrival → List ℕ
  key x = x.name.now

  names_once : IsDistinct same_name (map key xs)
  names_once =
      let each = recursion_from_All (IsNamedArrival c w table) xs named in
      subst (IsDistinct same_name) (names_are c w table xs each)
      (distinct_map (λ (i j : ℕ). i == j) same_name (name_at c.nodes) (λ n. n < length c.nodes)
      (λ i j below_i below_j e. eq-eqb i j (numbered.one i j below_i below_j (same_name-exact (name_at c.nodes i) (name_at c.nodes j) e)))
      (map (λ (x : NamedArrival). x.arrival.node.0) xs) (numbers_within c w table xs each)
      (subst (IsDistinct (λ (i j : ℕ). i == j)) (sym nodes) (distinct_filter (λ (i j : ℕ). i == j) (is_answered c w table) (nodes_in table) once)))

  -- a row is that of an arrival
  row_fact : (row : Row) → Contains (map (arrival_row c) (map (λ (y : NamedArrival). y.arrival) ys)) row → (b : List ℕ) × IsArrivalRow w start names b row
  row_fact row r =
      let a = contains_map (arrival_row c) (map (λ (y : NamedArrival). y.arrival) ys) row r in
      let x = contains_map (λ (y : NamedArrival). y.arrival) ys a.0 a.1 in
      let is = each_contained (IsNamedArrival c w table) ys x.0 (named_still c w table xs ys named moved) x.1 in
      let n = x.0.arrival.node.0 in
      let same : arrival_row c x.0.arrival ≡ row = ap (arrival_row c) (sym x.2) ∙ sym a.2 in
      (name_at c.nodes n, subst (IsArrivalRow w start names (name_at c.nodes n)) same (answer_fact c w names start table numbered h n x.0.arrival.reached is.answer))

  -- and each fact has its row
  fact_row : (b : List ℕ) (row : Row) → IsArrivalRow w start names b row → Contains (map (arrival_row c) (map (λ (y : NamedArrival). y.arrival) ys)) row
  fact_row b row f =
      let a = fact_answer c w names start table numbered h b row f in
      let on : Contains (map (λ (x : NamedArrival). x.arrival.node.0) xs) a.0 = subst (λ l. Contains l a.0) (sym nodes) (passes_listed (is_answered c w table) (nodes_in table) a.0 (answer_listed c w table a.0 a.2.0 a.2.1) (ap is_some a.2.1)) in
      let x = contains_map (λ (y : NamedArrival). y.arrival.node.0) xs a.0 on in
      let there : Contains ys x.0 = Contains-permutation xs ys x.0 moved x.1 in
      let is = each_contained (IsNamedArrival c w table) ys x.0 (named_still c w table xs ys named moved) there in
      let both : Some x.0.arrival.reached ≡ Some a.2.0 = sym is.answer ∙ (ap (answer_of c w table) (sym x.2) ∙ a.2.1) in
      let reached : x.0.arrival.reached ≡ a.2.0 = cc in
      let same : arrival_row c x.0.arrival ≡ row = (λ i. reached_row (name_at c.nodes (sym x.2 i)) (reached i)) ∙ a.2.2 in
      subst (Contains (map (arrival_row c) (map (λ (y : NamedArrival). y.arrival) ys))) same
      (map_contains (arrival_row c) (map (λ (y : NamedArrival). y.arrival) ys) x.0.arrival (map_contains (λ (y : NamedArrival). y.arrival) ys x.0 there))

  pub rows_answer : IsSortedBy (λ x y. is_lt (name_cmp (key x) (key y))) ys → IsAnswer w (ArrivalAsk start names) (map (arrival_row c) (map (λ (y : NamedArrival). y.arrival) ys))
  rows_answer sorted = record {
    rise = rows_rise c w table ys (named_still c w table xs ys named moved) (sorted_keys_rise key name_cmp name_total xs ys names_once moved sorted);
    exact = λ row. (row_fact row, λ f. fact_row f.0 row f.1);
  }

  -- each arrival names its edge
  pub rows_name_edges : All (NamesEdge c w names start) (map (λ (y : NamedArrival). y.arrival) ys)
  rows_name_edges =
      All-from_recursion (NamesEdge c w names start) (map (λ (y : NamedArrival). y.arrival) ys)
      (each_map (NamesEdge c w names start) (λ (y : NamedArrival). y.arrival) ys
      (each_weaker (IsNamedArrival c w table) (λ (y : NamedArrival). NamesEdge c w names start y.arrival) (λ y is. answer_names_edge c w names start table numbered h y.arrival.node.0 y.arrival.reached is.answer) ys (named_still c w table xs ys named moved)))
