-- The core numbers and the cores of the world that a view shows, by rows of neighbours.
use Rattle.std.proofs.Common.{◌≡◌, ℕ, ◌<◌, ◌≤◌, Bool, true, false, not, ◌&&◌, ◌||◌, List, [], ◌∷◌, ◌++◌, ◌+◌, length, map, take, get_or, cond, inl, inr, refl, sym, ◌∙◌, ap, subst, arith}
use Rattle.std.specs.Prelude.{◌==◌, ◌^◌, nat_le, slice_get, Some, Result, Ok, Err, IfOk}
use Rattle.std.specs.List.{All, AllByRecursion, filter, list_any}
use Rattle.std.specs.Ordering.{nat_cmp}
use Rattle.std.specs.declared.cmp.Ordering.{Ordering}
use Rattle.std.specs.declared.cmp.Ordering.TheVariants.{Less}
use Rattle.std.specs.Cmp.{unsigned_tied}
use Rattle.std.proofs.lemmas.Bool.{and_from, cases_Bool, cond_both, eq-eqb, eqb-true, false_from_ne_true, le-leb, leb-true, or_left, or_right, true≢false}
use Rattle.std.proofs.lemmas.List.{map-append}
use Rattle.std.proofs.lemmas.List.Elements.{All-from_recursion, filter_more, recursion_from_All}
use Rattle.std.proofs.lemmas.Option.{get_or_from_slice_get}
use Rattle.graph_model.specs.declared.queries.Ask.TheVariants.{Core as CoreOf, CoreNumbers}
use Rattle.graph_model.specs.declared.queries.Direction.TheVariants.{Both}
use Rattle.graph_model.specs.Answer.{NodeRow, NumberRow, IsAnswer}
use Rattle.graph_model.specs.Core.{IsCoreNumber, IsInCore}
use Rattle.graph_model.specs.Names.{name_cmp, same_name}
use Rattle.graph_model.specs.Neighbours.{leads, neighbours}
use Rattle.graph_model.specs.Presence.{node_present, nodes}
use Rattle.graph_model.specs.Rising.{Rises}
use Rattle.graph_model.specs.World.{World}
use Rattle.world_laws.proofs.Cores.{core_present}
use Rattle.world_laws.proofs.Counts.{length_filter_le}
use Rattle.world_laws.proofs.Existence.{OneFact}
use Rattle.world_laws.proofs.Filters.{each_kept, each_two, each_weaker, kept_pass}
use Rattle.world_laws.proofs.ListItems.{any_map, each_map}
use Rattle.world_laws.proofs.Members.{any_filter, nodes_has, nodes_rise}
use Rattle.world_laws.proofs.Order.{same_name-exact, same_name-refl}
use Rattle.graph_store.specs.declared.pairs.Ends.{Ends}
use Rattle.graph_store.specs.Contents.{Contents, name_at}
use Rattle.view_trait.specs.Meaning.{IsShown}
use Rattle.view_trait.specs.Numbered.{is_listed}
use Rattle.present_links.specs.Links.{leads_back, links_to, rising_links}
use Rattle.present_links.specs.Adjacent.{AdjacentNodes, AreAdjacent, number_at, row_at}
use Rattle.present_links.proofs.NamedRows.{end_known, names_apart, place_known, place_reached, row_leads}
use Rattle.present_links.proofs.Neighbours.{count_both}
use Rattle.present_links.proofs.Numbers.{any_each}
use Rattle.present_links.proofs.Order.{distinct_rises}
use Rattle.present_links.proofs.Views.{view_links_rising}
use Rattle.core_algorithm.specs.declared.core_rows.Core.{Core}
use Rattle.present_links.specs.NodeNames.{node_row_of}
use Rattle.core_algorithm.specs.Cores.{IsNumberIn, core_name, core_row_of}
use Rattle.core_algorithm.specs.Peeled.{IsGraph, IsGreatest}
use Rattle.core_algorithm.proofs.GraphRows.{few_below, graph_rows, not_own}
use Rattle.core_algorithm.proofs.NodeFacts.{facts_of_items}
use Rattle.core_algorithm.proofs.WorldCores.{AreRowsOf, core_weaker, number_alone, number_of_place}

-- ---- lists

none_kept : {X : Type 0} (p : X → Bool) (xs : List X) → list_any p xs ≡ false → filter p xs ≡ []
none_kept p [] h = refl
none_kept p (x ∷ xs) h = by (p x) refl h (none_kept p xs)
  where
    by : (t : Bool) → p x ≡ t → (t || list_any p xs) ≡ false → (list_any p xs ≡ false → filter p xs ≡ []) → cond t (x ∷ filter p xs) (filter p xs) ≡ []
    by true e k more = absurd (true≢false k)
    by false e k more = more k

neither : (s t : Bool) → (s || t) ≡ false → (s ≡ false) × (t ≡ false)
neither true t h = absurd (true≢false h)
neither false t h = (refl, h)

-- what is kept of items whose keys rise has keys that rise
module _ {X K : Type 0} (key : X → K) (cmp : K → K → Ordering) (p : X → Bool) where
  keys_each : (P : K → Type 0) (xs : List X) → AllByRecursion P (map key xs) → AllByRecursion P (map key (filter p xs))
  keys_each P [] h = tt
  keys_each P (x ∷ xs) h = cond_both (p x) (x ∷ filter p xs) (filter p xs) (λ ys. AllByRecursion P (map key ys)) (λ e. (h.0, keys_each P xs h.1)) (λ e. keys_each P xs h.1)

  keys_rise : (xs : List X) → Rises cmp (map key xs) → Rises cmp (map key (filter p xs))
  keys_rise [] h = tt
  keys_rise (x ∷ xs) h = cond_both (p x) (x ∷ filter p xs) (filter p xs) (λ ys. Rises cmp (map key ys)) (λ e. (keys_each (λ k. cmp (key x) k ≡ Less) xs h.0, keys_rise xs h.1)) (λ e. keys_rise xs h.1)

-- what holds of the images of items
each_unmap : {X Y : Type 0} (P : Y → Type 0) (f : X → Y) (xs : List X) → AllByRecursion P (map f xs) → AllByRecursion (λ x. P (f x)) xs
each_unmap P f [] h = tt
each_unmap P f (x ∷ xs) h = (h.0, each_unmap P f xs h.1)

-- two facts about one result
pub two_ok : {X E : Type 0} (P Q R : X → Type 0) (r : Result X E) → ((x : X) → P x → Q x → R x) → IfOk r P → IfOk r Q → IfOk r R
two_ok P Q R (Ok x) f p q = f x p q
two_ok P Q R (Err e) f p q = tt

-- all nodes of a world's list are present
all_present : (w : World) → AllByRecursion (λ b. node_present w b ≡ true) (nodes w)
all_present w = every (nodes w) (λ b on. sym (nodes_has w b) ∙ on)
  where
    every : (bs : List (List ℕ)) → ((b : List ℕ) → list_any (same_name b) bs ≡ true → node_present w b ≡ true) → AllByRecursion (λ b. node_present w b ≡ true) bs
    every [] k = tt
    every (b ∷ bs) k = (k b (or_left (same_name b b) (list_any (same_name b) bs) (same_name-refl b)), every bs (λ d on. k d (or_right (same_name d b) (list_any (same_name d) bs) on)))

-- one core number more that is looked at
module _ (k : ℕ) (cores : List Core) (i : ℕ) (core : Core) (below : i < length cores) (here : slice_get cores i ≡ Some core) (before after : List ℕ) (was : before ≡ map (λ (x : Core). x.node.0) (filter (λ (x : Core). nat_le k x.number) (take i cores))) where
  seen : map (λ (x : Core). x.node.0) (filter (λ (x : Core). nat_le k x.number) (take (i + 1) cores)) ≡ before ++ map (λ (x : Core). x.node.0) (cond (nat_le k core.number) (core ∷ []) [])
  seen =
      ap (map (λ (x : Core). x.node.0)) (filter_more (λ (x : Core). nat_le k x.number) cores i core below)
      ∙ (map-append (λ (x : Core). x.node.0) (filter (λ (x : Core). nat_le k x.number) (take i cores)) (cond (nat_le k (get_or cores i core).number) (get_or cores i core ∷ []) [])
      ∙ (λ j. sym was j ++ map (λ (x : Core). x.node.0) (cond (nat_le k (get_or_from_slice_get cores i core core here j).number) (get_or_from_slice_get cores i core core here j ∷ []) [])))

  pub one_kept : k ≤ core.number → after ≡ before ++ core.node.0 ∷ [] → after ≡ map (λ (x : Core). x.node.0) (filter (λ (x : Core). nat_le k x.number) (take (i + 1) cores))
  one_kept le is = is ∙ (ap (λ t. before ++ map (λ (x : Core). x.node.0) (cond t (core ∷ []) [])) (sym (le-leb k core.number le)) ∙ sym seen)

  pub one_left_out : core.number < k → after ≡ before → after ≡ map (λ (x : Core). x.node.0) (filter (λ (x : Core). nat_le k x.number) (take (i + 1) cores))
  one_left_out lt is =
      let off : nat_le k core.number ≡ false = false_from_ne_true (nat_le k core.number) (λ e. (let le = leb-true k core.number e in absurd (omega (arith, le, lt)))) in
      is ∙ (empty before ∙ (ap (λ t. before ++ map (λ (x : Core). x.node.0) (cond t (core ∷ []) [])) (sym off) ∙ sym seen))
    where
      empty : (xs : List ℕ) → xs ≡ xs ++ []
      empty [] = refl
      empty (x ∷ xs) = ap (λ ys. x ∷ ys) (empty xs)

-- ---- numbers

module _ (c : Contents) (w : World) (h : IsShown c w) (a : AdjacentNodes) (adjacent : AreAdjacent (rising_links c w) Both a) where
  -- the rows are those of a graph, and no more than the nodes of the store
  pub rows_are_graph : length c.nodes < 2 ^ 32 → IsGraph a.rows
  rows_are_graph few = graph_rows (rising_links c w) a adjacent (let less = few_below (length c.nodes) a.nodes adjacent.rise (every a.nodes (λ n on. known n on)) in omega (arith, few, less))
    where
      known : (n : ℕ) → is_listed a.nodes n ≡ true → n < length c.nodes
      known n on = (end_known c w h n (sym (adjacent.nodes n) ∙ on)).0

      every : (ns : List ℕ) → ((n : ℕ) → is_listed ns n ≡ true → n < length c.nodes) → AllByRecursion (λ n. n < length c.nodes) ns
      every [] k = tt
      every (n ∷ ns) k = (k n (or_left (n == n) (is_listed ns n) (eq-eqb n n refl)), every ns (λ m on. k m (or_right (n == m) (is_listed ns m) on)))

  -- and those of the world
  rows_of_world : AreRowsOf w (λ v. name_at c.nodes (number_at a.nodes v)) a.rows
  rows_of_world = record {
    present = λ v lt. (place_known c w h Both a adjacent v (omega (arith, lt, adjacent.count))).1;
    apart = λ v u below_v below_u e. names_apart c w h Both a adjacent v u (omega (arith, below_v, adjacent.count)) (omega (arith, below_u, adjacent.count)) e;
    within = λ v. subst (λ n. AllByRecursion (λ u. u < n) (row_at a.rows v)) (sym adjacent.count) (adjacent.within v);
    once = λ v. distinct_rises nat_cmp (λ (i j : ℕ). i == j) (λ i j. sym (unsigned_tied i j)) (row_at a.rows v) (adjacent.rows_rise v);
    linked = λ v u below_v below_u. elim (cases_Bool (v == u)) [
      | inl e ↦
          ap (is_listed (row_at a.rows v)) (sym (eqb-true v u e))
          ∙ (not_own (rising_links c w) a adjacent v
          ∙ sym (ap (λ t. not t && leads w Both (name_at c.nodes (number_at a.nodes v)) (name_at c.nodes (number_at a.nodes u))) e))
      | inr e ↦
          row_leads c w h Both a adjacent v u (omega (arith, below_v, adjacent.count)) (omega (arith, below_u, adjacent.count)) e
          ∙ sym (ap (λ t. not t && leads w Both (name_at c.nodes (number_at a.nodes v)) (name_at c.nodes (number_at a.nodes u))) e)
    ];
    reached = λ v b lt e. (
        let u = place_reached c w h Both a adjacent (name_at c.nodes (number_at a.nodes v)) b e in
        (u.0, omega (arith, u.1, adjacent.count), u.2)
        );
  }

  -- a node where no link begins or ends has no neighbour
  no_neighbours : (n : ℕ) → n < length c.nodes → is_listed a.nodes n ≡ false → length (neighbours w Both (name_at c.nodes n)) ≡ 0
  no_neighbours n lt off =
      let links = rising_links c w in
      let none = neither (list_any (λ (p : Ends). p.src == n) links) (list_any (λ (p : Ends). p.dst == n) links) (sym (adjacent.nodes n) ∙ off) in
      let from = ap length (none_kept (λ (p : Ends). p.src == n) links none.0) in
      let to = ap length (none_kept (λ (p : Ends). p.dst == n) links none.1) in
      let alone = length_filter_le (λ (p : Ends). not (leads_back links p)) (links_to links n) in
      let both = count_both w c.nodes links (view_links_rising c w h) n lt in
      omega (arith, both, from, to, alone)

  -- so the number of each present node is its core number
  pub number_named : (numbers : List ℕ) → ((v : ℕ) → v < length a.rows → IsGreatest a.rows v (get_or numbers v 0)) → (n k : ℕ) → n < length c.nodes → node_present w (name_at c.nodes n) ≡ true
      → IsNumberIn a numbers n k → IsCoreNumber w (name_at c.nodes n) k
  number_named numbers greatest n k lt here (inl p) =
      let below : p.0 < length a.rows = omega (arith, p.1, adjacent.count) in
      subst (λ m. IsCoreNumber w (name_at c.nodes m) k) p.2
      (subst (IsCoreNumber w (name_at c.nodes (number_at a.nodes p.0))) (sym p.3)
      (number_of_place w (λ v. name_at c.nodes (number_at a.nodes v)) a.rows rows_of_world p.0 (get_or numbers p.0 0) below (greatest p.0 below)))
  number_named numbers greatest n k lt here (inr p) =
      subst (IsCoreNumber w (name_at c.nodes n)) (sym p.1) (number_alone w (name_at c.nodes n) here (no_neighbours n lt p.0))

  -- those of all present nodes
  pub cores_named : (numbers : List ℕ) → ((v : ℕ) → v < length a.rows → IsGreatest a.rows v (get_or numbers v 0)) → (ns : List ℕ) → map (name_at c.nodes) ns ≡ nodes w → All (λ n. n < length c.nodes) ns
      → (cores : List Core) → map (λ (core : Core). core.node.0) cores ≡ ns → All (λ (core : Core). IsNumberIn a numbers core.node.0 core.number) cores
      → AllByRecursion (λ (core : Core). IsCoreNumber w (core_name c core) core.number) cores
  cores_named numbers greatest ns names known cores rows are =
      let of_core : Core → ℕ = λ core. core.node.0 in
      let within = each_unmap (λ n. n < length c.nodes) of_core cores (subst (AllByRecursion (λ n. n < length c.nodes)) (sym rows) (recursion_from_All (λ n. n < length c.nodes) ns known)) in
      let shown = each_unmap (λ n. node_present w (name_at c.nodes n) ≡ true) of_core cores
      (each_unmap (λ b. node_present w b ≡ true) (name_at c.nodes) (map of_core cores)
      (subst (AllByRecursion (λ b. node_present w b ≡ true)) (sym (ap (map (name_at c.nodes)) rows ∙ names)) (all_present w))) in
      each_two (λ (core : Core). (core.node.0 < length c.nodes) × (node_present w (name_at c.nodes core.node.0) ≡ true)) (λ (core : Core). IsNumberIn a numbers core.node.0 core.number) (λ (core : Core). IsCoreNumber w (core_name c core) core.number)
      (λ core k is. number_named numbers greatest core.node.0 core.number k.0 k.1 is) cores
      (each_two (λ (core : Core). core.node.0 < length c.nodes) (λ (core : Core). node_present w (name_at c.nodes core.node.0) ≡ true) (λ (core : Core). (core.node.0 < length c.nodes) × (node_present w (name_at c.nodes core.node.0) ≡ true)) (λ core l p. (l, p)) cores within shown)
      (recursion_from_All (λ (core : Core). IsNumberIn a numbers core.node.0 core.number) cores are)

-- nodes of the store, where their numbers are
pub known_rows : (n : ℕ) (cores : List Core) → All (λ m. m < n) (map (λ (core : Core). core.node.0) cores) → All (λ (core : Core). core.node.0 < n) cores
known_rows n cores known = All-from_recursion (λ (core : Core). core.node.0 < n) cores (each_unmap (λ m. m < n) (λ (core : Core). core.node.0) cores (recursion_from_All (λ m. m < n) (map (λ (core : Core). core.node.0) cores) known))

-- the nodes that are kept are nodes of the store
pub kept_known : (n k : ℕ) (cores : List Core) → All (λ (core : Core). core.node.0 < n) cores → All (λ m. m < n) (map (λ (core : Core). core.node.0) (filter (λ (core : Core). nat_le k core.number) cores))
kept_known n k cores known =
    All-from_recursion (λ m. m < n) (map (λ (core : Core). core.node.0) (filter (λ (core : Core). nat_le k core.number) cores))
    (each_map (λ m. m < n) (λ (core : Core). core.node.0) (filter (λ (core : Core). nat_le k core.number) cores)
    (each_kept (λ (core : Core). core.node.0 < n) (λ (core : Core). nat_le k core.number) cores (recursion_from_All (λ (core : Core). core.node.0 < n) cores known)))

-- ---- answers

module _ (c : Contents) (w : World) (cores : List Core) (named : map (core_name c) cores ≡ nodes w) (numbers : AllByRecursion (λ (core : Core). IsCoreNumber w (core_name c core) core.number) cores) where
  names_rise : Rises name_cmp (map (core_name c) cores)
  names_rise = subst (Rises name_cmp) (sym named) (nodes_rise w)

  among : (name : List ℕ) → node_present w name ≡ true → list_any (same_name name) (map (core_name c) cores) ≡ true
  among name here = ap (list_any (same_name name)) named ∙ (nodes_has w name ∙ here)

  -- their rows answer the question for all core numbers
  pub numbers_answer : IsAnswer w CoreNumbers (map (core_row_of c) cores)
  numbers_answer =
      facts_of_items (λ name row. (k : ℕ) × IsCoreNumber w name k × (row ≡ NumberRow name k)) (core_name c) (core_row_of c) w CoreNumbers (λ r. (λ f. f, λ f. f)) cores names_rise
      (each_weaker (λ (core : Core). IsCoreNumber w (core_name c core) core.number) (λ (core : Core). OneFact (λ name row. (k : ℕ) × IsCoreNumber w name k × (row ≡ NumberRow name k)) (core_name c core) (core_row_of c core))
      (λ core is. record {
        holds = (core.number, is, refl);
        only = λ other f. (
            let up = is.1 f.0 f.1.0 in
            let down = f.1.1 core.number is.0 in
            let same : f.0 ≡ core.number = omega (arith, up, down) in
            f.2 ∙ ap (NumberRow (core_name c core)) same
            );
        named = refl;
        first = refl;
      }) cores numbers)
      (λ name r f. among name (core_present w f.0 name f.1.0))

  module _ (k : ℕ) where
    -- whether a number is at least k
    enough : Core → Bool
    enough core = nat_le k core.number

    -- the nodes with such a number answer the question for the core
    pub core_answer : IsAnswer w (CoreOf k) (map (node_row_of c) (map (λ (core : Core). core.node.0) (filter (λ (core : Core). nat_le k core.number) cores)))
    unfolding enough
    core_answer = subst (IsAnswer w (CoreOf k)) (sym (rows_of (filter (λ (core : Core). nat_le k core.number) cores)))
        (facts_of_items (λ name row. IsInCore w k name × (row ≡ NodeRow name)) (core_name c) (λ core. NodeRow (core_name c core)) w (CoreOf k) (λ r. (λ f. (f.0, (f.1, f.2)), λ f. (f.0, f.1.0, f.1.1))) (filter enough cores)
        (keys_rise (core_name c) name_cmp enough cores names_rise)
        (each_two (λ (core : Core). nat_le k core.number ≡ true) (λ (core : Core). IsCoreNumber w (core_name c core) core.number) (λ (core : Core). OneFact (λ name row. IsInCore w k name × (row ≡ NodeRow name)) (core_name c core) (NodeRow (core_name c core)))
        (λ core e is. record {
          holds = (core_weaker w k core.number (core_name c core) (leb-true k core.number e) is.0, refl);
          only = λ other f. f.1;
          named = refl;
          first = refl;
        }) (filter enough cores) (kept_pass enough cores) (each_kept (λ (core : Core). IsCoreNumber w (core_name c core) core.number) enough cores numbers))
        (λ name r f. any_map (same_name name) (core_name c) (filter enough cores)
        ∙ (any_filter enough (λ core. same_name name (core_name c core)) cores
        ∙ (sym (any_each (λ core. same_name name (core_name c core)) (λ core. enough core && same_name name (core_name c core)) cores
        (each_weaker (λ (core : Core). IsCoreNumber w (core_name c core) core.number) (λ (core : Core). same_name name (core_name c core) ≡ (enough core && same_name name (core_name c core))) (λ core is. same name f.0 core is) cores numbers))
        ∙ (sym (any_map (same_name name) (core_name c) cores) ∙ among name (core_present w k name f.0))))))
      where
        rows_of : (ys : List Core) → map (node_row_of c) (map (λ (core : Core). core.node.0) ys) ≡ map (λ core. NodeRow (core_name c core)) ys
        rows_of [] = refl
        rows_of (y ∷ ys) = ap (λ rs. NodeRow (core_name c y) ∷ rs) (rows_of ys)

        none : (t : Bool) → false ≡ (t && false)
        none true = refl
        none false = refl

        same : (name : List ℕ) → IsInCore w k name → (core : Core) → IsCoreNumber w (core_name c core) core.number → same_name name (core_name c core) ≡ (nat_le k core.number && same_name name (core_name c core))
        same name has core is = elim (cases_Bool (same_name name (core_name c core))) [
          | inl e ↦
              let up : k ≤ core.number = is.1 k (subst (IsInCore w k) (same_name-exact name (core_name c core) e) has) in
              e ∙ sym (and_from (nat_le k core.number) (same_name name (core_name c core)) (le-leb k core.number up) e)
          | inr e ↦ e ∙ (none (nat_le k core.number) ∙ sym (ap (λ t. nat_le k core.number && t) e))
        ]
