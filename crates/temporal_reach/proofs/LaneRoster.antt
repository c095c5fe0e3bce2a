-- The nodes and edges without a selected row have no event for which a question asks.
use Rattle.std.proofs.Common.{◌≡◌, ◌<◌, ◌≤◌, ◌+◌, ℕ, ℤ, Bool, true, false, ◌&&◌, List, [], ◌∷◌, length, map, refl, sym, ◌∙◌, ap, arith, inl, inr}
use Rattle.std.specs.Prelude.{◌==◌, nat_lt}
use Rattle.std.specs.List.{All, AllByRecursion, filter, list_any}
use Rattle.std.specs.Ordering.{int_cmp}
use Rattle.std.proofs.lemmas.Bool.{cases_Bool, cond-true, cond-false, eqb-true, ltb-true}
use Rattle.std.proofs.lemmas.Bool.Decides.{nat_tests}
use Rattle.std.proofs.lemmas.Cmp.{int_cmp_total}
use Rattle.std.proofs.lemmas.List.{length-map}
use Rattle.std.proofs.lemmas.List.Elements.{All-from_recursion, recursion_from_All}
use Rattle.graph_model.specs.declared.events.Entity.{Entity}
use Rattle.graph_model.specs.declared.events.Event.{Event}
use Rattle.graph_model.specs.Interval.{is_inside}
use Rattle.graph_model.specs.Rising.{in_order}
use Rattle.graph_model.specs.World.{events_of}
use Rattle.world_laws.proofs.Filters.{each_kept, each_two, filter_both, filter_none, kept_pass}
use Rattle.world_laws.proofs.InOrder.{filter_in_order}
use Rattle.world_laws.proofs.ListItems.{any_map, each_map}
use Rattle.world_laws.proofs.Members.{any_filter}
use Rattle.world_laws.proofs.Named.{each_fails}
use Rattle.graph_store.specs.Contents.{Contents, base_of}
use Rattle.graph_store.specs.EdgeParts.{parts_at}
use Rattle.view_trait.specs.Meaning.{IsShown, edge_at, node_at}
use Rattle.view_trait.specs.Numbered.{has_bit, is_listed}
use Rattle.lane_scan.specs.declared.hits.Hit.{Hit}
use Rattle.lane_scan.specs.Rows.{is_selected, selected}
use Rattle.temporal_reach.specs.Mirrors.{IsRowOf, Mirrors, edge_numbers, edge_rows, history_times, node_numbers, node_rows, times_of}
use Rattle.temporal_reach.proofs.Mirrored.{time_of}
use Rattle.temporal_reach.proofs.LaneTimes.{edge_code, map-filter}

-- ---- rows of one sort

-- a row with a number that none of the selected rows has is not inside the window
not_inside : (i b q n : Bool) → ((i && b) && (q && n)) ≡ false → (q ≡ true → n ≡ true → b ≡ true) → ((q && n) && i) ≡ false
not_inside true b true true h f = ap (λ z. z && true) (sym (f refl refl)) ∙ h
not_inside false b true true h f = refl
not_inside i b true false h f = refl
not_inside i b false n h f = refl

module _ (lo hi : ℤ) (mask n : ℕ) (q : Hit → Bool) where
  abbrev inside : ℤ → Bool
  inside t = is_inside (record { lo = lo; hi = hi }) t

  -- where no selected row of a sort has a number, and the mask has the bits of the codes of that sort and number, no such row is inside
  none_inside : (rows : List Hit) → AllByRecursion (λ row. q row ≡ true → (row.number == n) ≡ true → has_bit mask row.code ≡ true) rows
      → is_listed (map (λ (row : Hit). row.number) (filter q (selected lo hi mask rows))) n ≡ false
      → filter inside (map (λ (row : Hit). row.time) (filter (λ row. row.number == n) (filter q rows))) ≡ []
  none_inside rows bits off =
      let own : Hit → Bool = λ row. q row && row.number == n in
      let none : list_any (λ row. is_selected lo hi mask row && own row) rows ≡ false =
      sym (any_filter (is_selected lo hi mask) own rows) ∙ (sym (any_filter q (λ row. row.number == n) (selected lo hi mask rows))
      ∙ (sym (any_map (λ m. m == n) (λ (row : Hit). row.number) (filter q (selected lo hi mask rows))) ∙ off)) in
      sym (map-filter (λ (row : Hit). row.time) inside (filter (λ row. row.number == n) (filter q rows)))
      ∙ ap (map (λ (row : Hit). row.time)) (ap (filter (λ (row : Hit). inside row.time)) (filter_both q (λ row. row.number == n) rows)
      ∙ (filter_both own (λ (row : Hit). inside row.time) rows
      ∙ filter_none (λ row. own row && inside row.time) rows
      (each_two (λ row. (is_selected lo hi mask row && own row) ≡ false) (λ row. q row ≡ true → (row.number == n) ≡ true → has_bit mask row.code ≡ true) (λ row. (own row && inside row.time) ≡ false)
      (λ row h f. not_inside (inside row.time) (has_bit mask row.code) (q row) (row.number == n) h f) rows (each_fails (λ row. is_selected lo hi mask row && own row) rows none) bits)))

nothing_mapped : {X Y : Type 0} (f : X → Y) (xs : List X) → map f xs ≡ [] → xs ≡ []
nothing_mapped f [] h = refl
nothing_mapped f (x ∷ xs) h = cc

-- an entity none of whose rows is inside has no event inside
quiet : (c : Contents) (lo hi : ℤ) (x : Entity) (ts : List ℤ) → in_order int_cmp ts ≡ history_times c x → filter (λ t. is_inside (record { lo = lo; hi = hi }) t) ts ≡ []
    → filter (λ (y : Event). is_inside (record { lo = lo; hi = hi }) y.time) (events_of (base_of c) x) ≡ []
quiet c lo hi x ts is none =
    let inside : ℤ → Bool = λ t. is_inside (record { lo = lo; hi = hi }) t in
    nothing_mapped time_of (filter (λ (y : Event). inside y.time) (events_of (base_of c) x))
    (map-filter time_of inside (events_of (base_of c) x)
    ∙ (ap (filter inside) (sym is) ∙ (filter_in_order int_cmp int_cmp_total inside ts ∙ ap (in_order int_cmp) none)))

-- ---- what callers cite

-- a node that no selected row updates has no event in the window
pub quiet_node : (c : Contents) (rows : List Hit) (lo hi : ℤ) (mask n : ℕ) → Mirrors rows c → has_bit mask 64 ≡ true → n < length c.nodes
    → is_listed (node_numbers (selected lo hi mask rows)) n ≡ false
    → filter (λ (y : Event). is_inside (record { lo = lo; hi = hi }) y.time) (events_of (base_of c) (node_at c n)) ≡ []
quiet_node c rows lo hi mask n m bit below off =
    quiet c lo hi (node_at c n) (times_of (node_rows rows) n) (m.nodes n below)
    (none_inside lo hi mask n (λ row. row.code == 64) rows (each_row rows) off)
  where
    each_row : (all : List Hit) → AllByRecursion (λ (row : Hit). (row.code == 64) ≡ true → (row.number == n) ≡ true → has_bit mask row.code ≡ true) all
    each_row [] = tt
    each_row (row ∷ all) = (λ q k. ap (has_bit mask) (eqb-true row.code 64 q) ∙ bit, each_row all)

-- an edge in a layer that is asked for, to which no selected row belongs, has none either
pub quiet_edge : (c : Contents) (rows : List Hit) (lo hi : ℤ) (mask e : ℕ) → Mirrors rows c → has_bit mask (parts_at c.edges e).layer ≡ true → e < length c.edges
    → is_listed (edge_numbers (selected lo hi mask rows)) e ≡ false
    → filter (λ (y : Event). is_inside (record { lo = lo; hi = hi }) y.time) (events_of (base_of c) (edge_at c e)) ≡ []
quiet_edge c rows lo hi mask e m bit below off =
    quiet c lo hi (edge_at c e) (times_of (edge_rows rows) e) (m.edges e below)
    (none_inside lo hi mask e (λ row. nat_lt row.code 64) rows (each_row rows (recursion_from_All (IsRowOf c) rows m.rows)) off)
  where
    of_row : (row : Hit) → IsRowOf c row → nat_lt row.code 64 ≡ true → (row.number == e) ≡ true → has_bit mask row.code ≡ true
    of_row row (inl h) q k = absurd (let low = ltb-true row.code 64 q in let is = h.0 in omega (arith, low, is))
    of_row row (inr h) q k = ap (has_bit mask) (h.1 ∙ ap (λ i. (parts_at c.edges i).layer) (eqb-true row.number e k)) ∙ bit

    each_row : (all : List Hit) → AllByRecursion (IsRowOf c) all → AllByRecursion (λ (row : Hit). nat_lt row.code 64 ≡ true → (row.number == e) ≡ true → has_bit mask row.code ≡ true) all
    each_row [] h = tt
    each_row (row ∷ all) h = (of_row row h.0, each_row all h.1)

-- the numbers of selected rows are those of nodes and of edges
pub node_numbers_within : (c : Contents) (rows : List Hit) (lo hi : ℤ) (mask : ℕ) → IsShown c (base_of c) → Mirrors rows c → All (λ n. n < length c.nodes) (node_numbers (selected lo hi mask rows))
node_numbers_within c rows lo hi mask shown m =
    let some = selected lo hi mask rows in
    All-from_recursion (λ n. n < length c.nodes) (node_numbers some)
    (each_map (λ n. n < length c.nodes) (λ (row : Hit). row.number) (node_rows some)
    (each_two (IsRowOf c) (λ (row : Hit). (row.code == 64) ≡ true) (λ (row : Hit). row.number < length c.nodes) of_row (node_rows some)
    (each_kept (IsRowOf c) (λ (row : Hit). row.code == 64) some (each_kept (IsRowOf c) (is_selected lo hi mask) rows (recursion_from_All (IsRowOf c) rows m.rows)))
    (kept_pass (λ (row : Hit). row.code == 64) some)))
  where
    of_row : (row : Hit) → IsRowOf c row → (row.code == 64) ≡ true → row.number < length c.nodes
    of_row row (inl h) q = h.1
    of_row row (inr h) q = absurd (let low = edge_code c shown row h.0 h.1 in let is = eqb-true row.code 64 q in omega (arith, low, is))

pub edge_numbers_within : (c : Contents) (rows : List Hit) (lo hi : ℤ) (mask : ℕ) → IsShown c (base_of c) → Mirrors rows c → All (λ e. e < length c.edges) (edge_numbers (selected lo hi mask rows))
edge_numbers_within c rows lo hi mask shown m =
    let some = selected lo hi mask rows in
    All-from_recursion (λ e. e < length c.edges) (edge_numbers some)
    (each_map (λ e. e < length c.edges) (λ (row : Hit). row.number) (edge_rows some)
    (each_two (IsRowOf c) (λ (row : Hit). nat_lt row.code 64 ≡ true) (λ (row : Hit). row.number < length c.edges) of_row (edge_rows some)
    (each_kept (IsRowOf c) (λ (row : Hit). nat_lt row.code 64) some (each_kept (IsRowOf c) (is_selected lo hi mask) rows (recursion_from_All (IsRowOf c) rows m.rows)))
    (kept_pass (λ (row : Hit). nat_lt row.code 64) some)))
  where
    of_row : (row : Hit) → IsRowOf c row → nat_lt row.code 64 ≡ true → row.number < length c.edges
    of_row row (inl h) q = absurd (let low = ltb-true row.code 64 q in let is = h.0 in omega (arith, low, is))
    of_row row (inr h) q = h.0

-- of two sorts without an item in common a list has no more items than it has in all
apart_lengths : {X : Type 0} (p q : X → Bool) → ((x : X) → p x ≡ true → q x ≡ false) → (xs : List X) → length (filter p xs) + length (filter q xs) ≤ length xs
apart_lengths p q f [] = omega arith
apart_lengths p q f (x ∷ xs) = elim (cases_Bool (p x)) [
  | inl e ↦
      let rest = apart_lengths p q f xs in
      let a = ap length (cond-true (p x) (x ∷ filter p xs) (filter p xs) e) in
      let b = ap length (cond-false (q x) (x ∷ filter q xs) (filter q xs) (f x e)) in
      omega (arith, rest, a, b)
  | inr e ↦
      let rest = apart_lengths p q f xs in
      let a = ap length (cond-false (p x) (x ∷ filter p xs) (filter p xs) e) in
      elim (cases_Bool (q x)) [
        | inl k ↦ let b = ap length (cond-true (q x) (x ∷ filter q xs) (filter q xs) k) in omega (arith, rest, a, b)
        | inr k ↦ let b = ap length (cond-false (q x) (x ∷ filter q xs) (filter q xs) k) in omega (arith, rest, a, b)
      ]
]

-- there are no more numbers of nodes and of edges than rows
pub numbers_within : (rows : List Hit) → length (node_numbers rows) + length (edge_numbers rows) ≤ length rows
numbers_within rows =
    let nodes = length-map (node_rows rows) (λ (row : Hit). row.number) in
    let edges = length-map (edge_rows rows) (λ (row : Hit). row.number) in
    let both = apart_lengths (λ (row : Hit). row.code == 64) (λ (row : Hit). nat_lt row.code 64) (λ row e. let is = eqb-true row.code 64 e in let t : nat_lt row.code 64 ≡ false = grind (arith, nat_tests, is) in t) rows in
    omega (arith, nodes, edges, both)
