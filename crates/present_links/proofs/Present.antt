-- The numbers of the present nodes: those where a link begins or ends, and those on a roster that have an event of their own.
use Rattle.std.proofs.Common.{◌≡◌, ℕ, suc, ◌+◌, ◌<◌, Bool, true, false, ◌&&◌, ◌||◌, List, [], ◌∷◌, ◌++◌, length, get_or, map, take, append_assoc, refl, sym, ◌∙◌, ap, subst, arith, inl, inr}
use Rattle.std.specs.Prelude.{nat_lt, ◌==◌, slice_get, Some}
use Rattle.std.specs.List.{All, AllByRecursion, IsDistinct, filter, list_any}
use Rattle.std.specs.List.Retain.{IsFiltered, DiffersFromLast}
use Rattle.std.specs.List.Sorted.{IsPermutation, IsSorted}
use Rattle.std.specs.Ordering.{is_eq, nat_cmp}
use Rattle.std.specs.declared.cmp.Ordering.TheVariants.{Equal}
use Rattle.std.specs.Cmp.{unsigned_tied}
use Rattle.std.proofs.lemmas.Bool.{cases_Bool, and_from, and_parts, eqb-true, eq-eqb, false_from_ne_true, lt-ltb, ltb-true, or_cases, true≢false}
use Rattle.std.proofs.lemmas.Cmp.{nat_cmp_total}
use Rattle.std.proofs.lemmas.List.{map-append, take_more}
use Rattle.std.proofs.lemmas.List.Elements.{filter_more}
use Rattle.std.proofs.lemmas.List.Folds.{list_any-append, list_any_more}
use Rattle.std.proofs.lemmas.Option.{get_or_from_slice_get}
use Rattle.graph_model.specs.Names.{same_name}
use Rattle.graph_model.specs.Entity.{is_about}
use Rattle.graph_model.specs.Rising.{Rises}
use Rattle.graph_model.specs.World.{World}
use Rattle.graph_model.specs.Presence.{node_present}
use Rattle.world_laws.proofs.Filters.{any_weaker, each_weaker}
use Rattle.world_laws.proofs.ListItems.{any_map, any_one}
use Rattle.world_laws.proofs.Members.{any_filter, both_true}
use Rattle.world_laws.proofs.Order.{same_name-exact}
use Rattle.world_laws.proofs.Present.{some_passes}
use Rattle.world_laws.proofs.RisingItems.{Rises-rising, any_rising}
use Rattle.graph_store.specs.declared.pairs.Ends.{Ends}
use Rattle.graph_store.specs.Contents.{Contents, name_at}
use Rattle.view_trait.specs.Coverage.{Covers, nodes_on}
use Rattle.view_trait.specs.Meaning.{IsShown, node_at}
use Rattle.view_trait.specs.Numbered.{is_listed}
use Rattle.view_trait.specs.declared.rosters.Roster.{Roster}
use Rattle.present_links.specs.declared.node_rows.NamedNode.{NamedNode}
use Rattle.present_links.specs.Links.{IsNamed, has_own, is_end, is_present_number, rising_links}
use Rattle.present_links.proofs.Base.{present_by_links}
use Rattle.present_links.proofs.Keyed.{any_counted}
use Rattle.present_links.proofs.Neighbours.{same_number}
use Rattle.present_links.proofs.Numbers.{distinct_map, some_place}
use Rattle.present_links.proofs.Order.{distinct_rises}
use Rattle.view_trait.proofs.Settled.{settled}
use Rattle.present_links.proofs.Views.{present_known, view_links_rising}

-- a number is among those on a roster with an event of their own where it has one
module _ (c : Contents) (w : World) (r : Roster) (covers : Covers c w r) (n : ℕ) where
  listed : Bool
  listed = is_listed (filter (has_own c w) (nodes_on c r)) n

  to_own : listed ≡ true → has_own c w n ≡ true
  unfolding listed
  to_own some =
      let m = some_passes (λ m. has_own c w m && (m == n)) (nodes_on c r) (sym (any_filter (has_own c w) (λ m. m == n) (nodes_on c r)) ∙ some) in
      let both = and_parts (has_own c w m.0) (m.0 == n) m.1 in
      subst (λ k. has_own c w k ≡ true) (eqb-true m.0 n both.1) both.0

  from_own : has_own c w n ≡ true → listed ≡ true
  unfolding listed
  from_own own =
      let both = and_parts (nat_lt n (length c.nodes)) (list_any (is_about (node_at c n)) w.events) own in
      elim (cases_Bool (is_listed (nodes_on c r) n)) [
        | inl on ↦
            any_filter (has_own c w) (λ m. m == n) (nodes_on c r)
            ∙ any_weaker (λ m. m == n) (λ m. has_own c w m && (m == n))
            (λ m k. and_from (has_own c w m) (m == n) (subst (λ j. has_own c w j ≡ true) (sym (eqb-true m n k)) own) k) (nodes_on c r) on
        | inr off ↦
            let none = covers.nodes n (ltb-true n (length c.nodes) both.0) off in
            absurd (true≢false (sym both.1 ∙ (any_counted (is_about (node_at c n)) w.events ∙ ap (λ xs. nat_lt 0 (length xs)) none)))
      ]

  pub listed_own : is_listed (filter (has_own c w) (nodes_on c r)) n ≡ has_own c w n
  unfolding listed
  listed_own = both_true (is_listed (filter (has_own c w) (nodes_on c r)) n) (has_own c w n) to_own from_own

-- a number is where a link begins or ends, or has an event of its own, where its node is present
module _ (c : Contents) (w : World) (h : IsShown c w) (n : ℕ) where
  links : List Ends
  links = rising_links c w

  -- no link is at a number that the store does not have
  ends_within : is_end links n ≡ true → n < length c.nodes
  unfolding links
  ends_within end = elim (or_cases (list_any (λ (p : Ends). p.src == n) (rising_links c w)) (list_any (λ (p : Ends). p.dst == n) (rising_links c w)) end) [
    | inl begins ↦ any_one (λ (p : Ends). p.src == n) (n < length c.nodes) (rising_links c w)
        (each_weaker (λ (p : Ends). (p.src < length c.nodes) × (p.dst < length c.nodes)) (λ (p : Ends). (p.src == n) ≡ true → n < length c.nodes) (λ p k e. subst (λ m. m < length c.nodes) (eqb-true p.src n e) k.0) (rising_links c w) (view_links_rising c w h).within) begins
    | inr ends ↦ any_one (λ (p : Ends). p.dst == n) (n < length c.nodes) (rising_links c w)
        (each_weaker (λ (p : Ends). (p.src < length c.nodes) × (p.dst < length c.nodes)) (λ (p : Ends). (p.dst == n) ≡ true → n < length c.nodes) (λ p k e. subst (λ m. m < length c.nodes) (eqb-true p.dst n e) k.1) (rising_links c w) (view_links_rising c w h).within) ends
  ]

  pub present_number : (is_end (rising_links c w) n || has_own c w n) ≡ is_present_number c w n
  unfolding links
  present_number = elim (cases_Bool (nat_lt n (length c.nodes))) [
    | inl below ↦
        let own : has_own c w n ≡ list_any (is_about (node_at c n)) w.events = ap (λ t. t && list_any (is_about (node_at c n)) w.events) below in
        let present : is_present_number c w n ≡ node_present w (name_at c.nodes n) = ap (λ t. t && node_present w (name_at c.nodes n)) below in
        ap (λ t. is_end (rising_links c w) n || t) own
        ∙ (swapped (is_end (rising_links c w) n) (list_any (is_about (node_at c n)) w.events)
        ∙ (sym (present_by_links w c.nodes (rising_links c w) (view_links_rising c w h) n (ltb-true n (length c.nodes) below)) ∙ sym present))
    | inr past ↦
        let own : has_own c w n ≡ false = ap (λ t. t && list_any (is_about (node_at c n)) w.events) past in
        let present : is_present_number c w n ≡ false = ap (λ t. t && node_present w (name_at c.nodes n)) past in
        let end : is_end (rising_links c w) n ≡ false = false_from_ne_true (is_end (rising_links c w) n) (λ e. true≢false (sym (lt-ltb n (length c.nodes) (ends_within e)) ∙ past)) in
        (λ i. end i || own i) ∙ sym present
  ]
    where
      swapped : (a b : Bool) → (a || b) ≡ (b || a)
      swapped true true = refl
      swapped true false = refl
      swapped false true = refl
      swapped false false = refl

-- so those of the links and those of the roster are the present nodes
pub present_listed : (c : Contents) (w : World) (h : IsShown c w) (r : Roster) → Covers c w r → (ends : List ℕ) (n : ℕ) → is_listed ends n ≡ is_end (rising_links c w) n
    → is_listed (ends ++ filter (has_own c w) (nodes_on c r)) n ≡ is_present_number c w n
present_listed c w h r covers ends n is =
    list_any-append (λ m. m == n) ends (filter (has_own c w) (nodes_on c r))
    ∙ ((λ i. is i || listed_own c w r covers n i) ∙ present_number c w h n)

-- ---- their names

module _ (c : Contents) (w : World) (h : IsShown c w) (numbers : List ℕ) (rise : Rises nat_cmp numbers) (is : (n : ℕ) → is_listed numbers n ≡ is_present_number c w n) where
  -- a listed number is that of a present node
  of_listed : (n : ℕ) → is_listed numbers n ≡ true → (n < length c.nodes) × (node_present w (name_at c.nodes n) ≡ true)
  of_listed n on =
      let both = and_parts (nat_lt n (length c.nodes)) (node_present w (name_at c.nodes n)) (sym (is n) ∙ on) in
      (ltb-true n (length c.nodes) both.0, both.1)

  pub numbers_within : AllByRecursion (λ n. n < length c.nodes) numbers
  numbers_within = each numbers (λ n on. (of_listed n on).0)
    where
      each : (ns : List ℕ) → ((n : ℕ) → is_listed ns n ≡ true → n < length c.nodes) → AllByRecursion (λ n. n < length c.nodes) ns
      each [] k = tt
      each (m ∷ ns) k = (
        k m (ap (λ t. t || is_listed ns m) (eq-eqb m m refl)),
        each ns (λ n on. k n (ap (λ t. (m == n) || t) on ∙ always (m == n))),
      )
        where
          always : (t : Bool) → (t || true) ≡ true
          always true = refl
          always false = refl

  -- their names are distinct
  pub names_once : IsDistinct same_name (map (name_at c.nodes) numbers)
  names_once =
      distinct_map (λ (i j : ℕ). i == j) same_name (name_at c.nodes) (λ n. n < length c.nodes)
      (λ i j below_i below_j e. same_number c.nodes h.indexed.node_names i j below_i below_j ∙ e)
      numbers numbers_within (distinct_rises nat_cmp (λ (i j : ℕ). i == j) (λ i j. sym (unsigned_tied i j)) numbers rise)

  -- and those of the present nodes
  pub names_present : (b : List ℕ) → list_any (same_name b) (map (name_at c.nodes) numbers) ≡ node_present w b
  names_present b = any_map (same_name b) (name_at c.nodes) numbers ∙ both_true (list_any (λ n. same_name b (name_at c.nodes n)) numbers) (node_present w b) there back
    where
      there : list_any (λ n. same_name b (name_at c.nodes n)) numbers ≡ true → node_present w b ≡ true
      there some =
          let n = some_passes (λ n. same_name b (name_at c.nodes n)) numbers some in
          let present = (of_listed n.0 (n.2 (λ m. m == n.0) (eq-eqb n.0 n.0 refl))).1 in
          subst (λ z. node_present w z ≡ true) (sym (same_name-exact b (name_at c.nodes n.0) n.1)) present

      back : node_present w b ≡ true → list_any (λ n. same_name b (name_at c.nodes n)) numbers ≡ true
      back present =
          let n = some_place (same_name b) c.nodes [] (present_known c w h b present) in
          let here : node_present w (name_at c.nodes n.0) ≡ true = subst (λ z. node_present w z ≡ true) (same_name-exact b (name_at c.nodes n.0) n.2) present in
          let on : is_listed numbers n.0 ≡ true = is n.0 ∙ and_from (nat_lt n.0 (length c.nodes)) (node_present w (name_at c.nodes n.0)) (lt-ltb n.0 (length c.nodes) n.1) here in
          any_weaker (λ m. m == n.0) (λ m. same_name b (name_at c.nodes m)) (λ m k. subst (λ j. same_name b (name_at c.nodes j) ≡ true) (sym (eqb-true m n.0 k)) n.2) numbers on

-- ---- lists that grow

-- the ends of one link more
pub ends_more : (links : List Ends) (i : ℕ) (p : Ends) → i < length links → slice_get links i ≡ Some p → (numbers more most : List ℕ) → ((n : ℕ) → is_listed numbers n ≡ is_end (take i links) n)
    → more ≡ numbers ++ p.src ∷ [] → most ≡ more ++ p.dst ∷ [] → (n : ℕ) → is_listed most n ≡ is_end (take (i + 1) links) n
ends_more links i p below here numbers more most is one two n =
    ap (λ l. is_listed l n) (two ∙ ap (λ l. l ++ p.dst ∷ []) one)
    ∙ (list_any-append (λ m. m == n) (numbers ++ p.src ∷ []) (p.dst ∷ [])
    ∙ (ap (λ t. t || ((p.dst == n) || false)) (list_any-append (λ m. m == n) numbers (p.src ∷ []))
    ∙ (ap (λ t. (t || ((p.src == n) || false)) || ((p.dst == n) || false)) (is n)
    ∙ (regrouped (list_any (λ (q : Ends). q.src == n) (take i links)) (list_any (λ (q : Ends). q.dst == n) (take i links)) (p.src == n) (p.dst == n)
    ∙ ((λ k. (list_any (λ (q : Ends). q.src == n) (take i links) || (sym at k).src == n) || (list_any (λ (q : Ends). q.dst == n) (take i links) || (sym at k).dst == n))
    ∙ (λ k. sym (list_any_more (λ (q : Ends). q.src == n) links i p below) k || sym (list_any_more (λ (q : Ends). q.dst == n) links i p below) k))))))
  where
    at : get_or links i p ≡ p
    at = get_or_from_slice_get links i p p here

    regrouped : (a b s d : Bool) → (((a || b) || (s || false)) || (d || false)) ≡ ((a || s) || (b || d))
    regrouped true b s d = refl
    regrouped false true true d = refl
    regrouped false true false d = refl
    regrouped false false true d = refl
    regrouped false false false true = refl
    regrouped false false false false = refl

-- those that pass among one number more
pub own_more : (p : ℕ → Bool) (ns : List ℕ) (i n : ℕ) → i < length ns → slice_get ns i ≡ Some n → (first before after : List ℕ) → before ≡ first ++ filter p (take i ns) → after ≡ before ++ filter p (n ∷ []) → after ≡ first ++ filter p (take (i + 1) ns)
own_more p ns i n below here first before after is more =
    more
    ∙ (ap (λ l. l ++ filter p (n ∷ [])) is
    ∙ (append_assoc first (filter p (take i ns)) (filter p (n ∷ []))
    ∙ ap (λ l. first ++ l) (ap (λ m. filter p (take i ns) ++ filter p (m ∷ [])) (sym (get_or_from_slice_get ns i n 0 here)) ∙ sym (filter_more p ns i 0 below))))

-- a named node more
pub nodes_more : (numbers : List ℕ) (i : ℕ) → i < length numbers → (xs ys : List NamedNode) (x : NamedNode) → ys ≡ xs ++ x ∷ [] → x.node ≡ get_or numbers i 0 → map (λ (y : NamedNode). y.node) xs ≡ take i numbers → map (λ (y : NamedNode). y.node) ys ≡ take (i + 1) numbers
nodes_more numbers i below xs ys x is same before =
    ap (map (λ (y : NamedNode). y.node)) is
    ∙ (map-append (λ (y : NamedNode). y.node) xs (x ∷ [])
    ∙ ((λ k. before k ++ same k ∷ []) ∙ sym (take_more numbers i 0 below)))

-- ---- nodes with their names

-- the names of named nodes are those of their numbers
pub named_names : (c : Contents) (xs : List NamedNode) → All (IsNamed c) xs → map (name_at c.nodes) (map (λ (x : NamedNode). x.node) xs) ≡ map (λ (x : NamedNode). x.name.now) xs
named_names c [] h = refl
named_names c (x ∷ xs) h = let here = h 0 x (omega arith) in let rest = named_names c xs (λ k d lt. h (suc k) d (omega (arith, lt))) in λ i. here.name i ∷ rest i

-- and the store has these
pub named_within : (c : Contents) (xs : List NamedNode) → All (IsNamed c) xs → AllByRecursion (λ n. n < length c.nodes) (map (λ (x : NamedNode). x.node) xs)
named_within c [] h = tt
named_within c (x ∷ xs) h = ((h 0 x (omega arith)).within, named_within c xs (λ k d lt. h (suc k) d (omega (arith, lt))))

-- numbers that are sorted, and then left once each
nat_exact : (x y : ℕ) → nat_cmp x y ≡ Equal → x ≡ y
nat_exact x y e = eqb-true x y (sym (unsigned_tied x y) ∙ ap is_eq e)

pub numbers_settled : (xs ys zs : List ℕ) → IsPermutation xs ys → IsSorted nat_cmp ys → IsFiltered (DiffersFromLast (λ (x y : ℕ). x == y)) [] ys zs → Rises nat_cmp zs × ((n : ℕ) → is_listed zs n ≡ is_listed xs n)
numbers_settled xs ys zs moved sorted left =
    let is = settled nat_cmp nat_cmp_total nat_exact (λ (x y : ℕ). x == y) (λ x y. sym (unsigned_tied x y)) xs ys zs moved sorted left in (
      subst (Rises nat_cmp) (sym is) (Rises-rising nat_cmp nat_cmp_total xs),
      λ n. ap (λ l. is_listed l n) is ∙ any_rising nat_cmp (λ m. m == n) (λ x y e. ap (λ z. z == n) (nat_exact x y e)) xs,
    )
