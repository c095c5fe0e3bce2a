-- The ways that links lead, by the places of the nodes where they begin and end.
use Rattle.std.proofs.Common.{◌≡◌, ◌≢◌, ℕ, ◌+◌, ◌<◌, ◌≤◌, Bool, true, false, not, ◌&&◌, ◌||◌, List, [], ◌∷◌, ◌++◌, length, map, get_or, cond, refl, sym, ◌∙◌, ap, subst, inl, inr, arith}
use Rattle.std.specs.Prelude.{nat_lt, ◌==◌, slice_range}
use Rattle.std.specs.List.{AllByRecursion, filter, flat_map, list_any, prefix_len}
use Rattle.std.specs.Ordering.{MatchOrdering, nat_cmp, ordering_then}
use Rattle.std.specs.declared.cmp.Ordering.{Ordering}
use Rattle.std.specs.declared.cmp.Ordering.TheVariants.{Less, Equal, Greater}
use Rattle.std.proofs.lemmas.Bool.{cases_lt, lt-ltb, ltb-true, eq-eqb, eqb-true, or_cases, or_left, or_right, and_parts, and_from, true≢false, false_from_ne_true}
use Rattle.std.proofs.lemmas.Cmp.{nat_cmp_total, tied_itself, ranked}
use Rattle.std.proofs.lemmas.List.{length-map, get_or_past}
use Rattle.graph_model.specs.declared.queries.Direction.{Direction}
use Rattle.graph_model.specs.declared.queries.Direction.TheVariants.{Both, Inward, Outward}
use Rattle.graph_model.specs.Rising.{Rises, rising}
use Rattle.world_laws.proofs.Filters.{each_append, each_kept, each_weaker}
use Rattle.world_laws.proofs.ListItems.{any_map, each_map}
use Rattle.world_laws.proofs.Members.{any_both, any_filter, any_flat_map, both_true}
use Rattle.world_laws.proofs.RisingItems.{any_rising}
use Rattle.graph_store.specs.declared.pairs.Ends.{Ends}
use Rattle.present_links.specs.declared.link_list.Link.{Link}
use Rattle.view_trait.specs.Numbered.{is_listed}
use Rattle.present_links.specs.Links.{ends_cmp, ends_in, is_end, link_ends}
use Rattle.present_links.specs.Adjacent.{AreAdjacent, AreOffsets, is_linked, number_at, parts_between, place_among, placed, row_at, ways_along, ways_before, ways_of}
use Rattle.present_links.proofs.AmongNumbers.{place_at, place_below, same_place, listed_at}
use Rattle.present_links.proofs.OffsetParts.{length-parts, part_at}
use Rattle.present_links.proofs.SortedPlaces.{Climbs, part_of_key, prefix-le-length, prefix_weaker}
use Rattle.present_links.proofs.Numbers.{any_each, any_either}
use Rattle.present_links.proofs.Order.{each_rising}

-- ---- ways that rise

-- of two that rise the second does not begin before the first
begins_later : (p q : Ends) → ends_cmp p q ≡ Less → p.src ≤ q.src
begins_later p q e = by (nat_cmp p.src q.src) (ranked p.src q.src (nat_cmp p.src q.src) refl) e
  where
    by : (o : Ordering) → MatchOrdering o (p.src < q.src) (p.src ≡ q.src) (q.src < p.src) → ordering_then o (nat_cmp p.dst q.dst) ≡ Less → p.src ≤ q.src
    by Less h k = omega (arith, h)
    by Equal h k = omega (arith, h)
    by Greater h k = cc

-- and where it begins there it ends later
ends_later : (p q : Ends) → ends_cmp p q ≡ Less → p.src ≡ q.src → nat_cmp p.dst q.dst ≡ Less
ends_later p q e same =
    sym (ap (λ o. ordering_then o (nat_cmp p.dst q.dst)) (ap (nat_cmp p.src) (sym same) ∙ tied_itself nat_cmp_total p.src)) ∙ e

pub ways_climb : (ways : List Ends) → Rises ends_cmp ways → Climbs (λ (p : Ends). p.src) ways
ways_climb [] h = omega arith
ways_climb (p ∷ ways) h = (each_weaker (λ q. ends_cmp p q ≡ Less) (λ (q : Ends). p.src ≤ q.src) (λ q e. begins_later p q e) ways h.0, ways_climb ways h.1)

-- those that begin in one place end in places that rise
pub ends_rise : (v : ℕ) (ways : List Ends) → Rises ends_cmp ways → Rises nat_cmp (map (λ (p : Ends). p.dst) (filter (λ (p : Ends). p.src == v) ways))
ends_rise v [] h = tt
ends_rise v (p ∷ ways) h = by (p.src == v) refl (ends_rise v ways h.1)
  where
    later : p.src ≡ v → (qs : List Ends) → AllByRecursion (λ q. ends_cmp p q ≡ Less) qs → AllByRecursion (λ y. nat_cmp p.dst y ≡ Less) (map (λ (q : Ends). q.dst) (filter (λ (q : Ends). q.src == v) qs))
    later same [] k = tt
    later same (q ∷ qs) k = this (q.src == v) refl (later same qs k.1)
      where
        this : (t : Bool) → (q.src == v) ≡ t → AllByRecursion (λ y. nat_cmp p.dst y ≡ Less) (map (λ (r : Ends). r.dst) (filter (λ (r : Ends). r.src == v) qs))
            → AllByRecursion (λ y. nat_cmp p.dst y ≡ Less) (map (λ (r : Ends). r.dst) (cond t (q ∷ filter (λ (r : Ends). r.src == v) qs) (filter (λ (r : Ends). r.src == v) qs)))
        this true e more = (ends_later p q k.0 (same ∙ sym (eqb-true q.src v e)), more)
        this false e more = more

    by : (t : Bool) → (p.src == v) ≡ t → Rises nat_cmp (map (λ (q : Ends). q.dst) (filter (λ (q : Ends). q.src == v) ways))
        → Rises nat_cmp (map (λ (q : Ends). q.dst) (cond t (p ∷ filter (λ (q : Ends). q.src == v) ways) (filter (λ (q : Ends). q.src == v) ways)))
    by true e more = (later (eqb-true p.src v e) ways h.0, more)
    by false e more = more

-- ---- one link

-- whether a link leads from one place to another in a direction
is_way : Direction → Ends → ℕ → ℕ → Bool
is_way Outward p v u = (p.src == v) && (p.dst == u)
is_way Inward p v u = (p.src == u) && (p.dst == v)
is_way Both p v u = not (v == u) && (((p.src == v) && (p.dst == u)) || ((p.src == u) && (p.dst == v)))

or_none : (t : Bool) → (t || false) ≡ t
or_none true = refl
or_none false = refl

and_swapped : (a b : Bool) → (a && b) ≡ (b && a)
and_swapped true true = refl
and_swapped true false = refl
and_swapped false true = refl
and_swapped false false = refl

apart : (v u : ℕ) → v ≢ u → not (v == u) ≡ true
apart v u ne = ap not (false_from_ne_true (v == u) (λ e. ne (eqb-true v u e)))

from_not : (t : Bool) → not t ≡ true → t ≡ false
from_not true h = cc
from_not false h = refl

along_both : (p : Ends) (v u : ℕ) (t : Bool) → (p.src == p.dst) ≡ t
    → list_any (λ (q : Ends). (q.src == v) && (q.dst == u)) (cond t [] (p ∷ record { src = p.dst; dst = p.src } ∷ []))
    ≡ (not (v == u) && (((p.src == v) && (p.dst == u)) || ((p.src == u) && (p.dst == v))))
along_both p v u true e =
    let own : p.src ≡ p.dst = eqb-true p.src p.dst e in
    sym (false_from_ne_true _ (λ h. (
    let both = and_parts (not (v == u)) (((p.src == v) && (p.dst == u)) || ((p.src == u) && (p.dst == v))) h in
    let ne = from_not (v == u) both.0 in
    elim (or_cases ((p.src == v) && (p.dst == u)) ((p.src == u) && (p.dst == v)) both.1) [
      | inl k ↦ let m = and_parts (p.src == v) (p.dst == u) k in true≢false (sym (eq-eqb v u (sym (eqb-true p.src v m.0) ∙ (own ∙ eqb-true p.dst u m.1))) ∙ ne)
      | inr k ↦ let m = and_parts (p.src == u) (p.dst == v) k in true≢false (sym (eq-eqb v u (sym (eqb-true p.dst v m.1) ∙ (sym own ∙ eqb-true p.src u m.0))) ∙ ne)
    ]
    )))
along_both p v u false e =
    both_true (((p.src == v) && (p.dst == u)) || (((p.dst == v) && (p.src == u)) || false)) (not (v == u) && (((p.src == v) && (p.dst == u)) || ((p.src == u) && (p.dst == v))))
    (λ h. elim (or_cases ((p.src == v) && (p.dst == u)) (((p.dst == v) && (p.src == u)) || false) h) [
      | inl k ↦
          let m = and_parts (p.src == v) (p.dst == u) k in
          and_from (not (v == u)) (((p.src == v) && (p.dst == u)) || ((p.src == u) && (p.dst == v)))
          (apart v u (λ same. true≢false (sym (eq-eqb p.src p.dst (eqb-true p.src v m.0 ∙ (same ∙ sym (eqb-true p.dst u m.1)))) ∙ e)))
          (or_left ((p.src == v) && (p.dst == u)) ((p.src == u) && (p.dst == v)) k)
      | inr k ↦
          let there : ((p.dst == v) && (p.src == u)) ≡ true = sym (or_none ((p.dst == v) && (p.src == u))) ∙ k in
          let m = and_parts (p.dst == v) (p.src == u) there in
          and_from (not (v == u)) (((p.src == v) && (p.dst == u)) || ((p.src == u) && (p.dst == v)))
          (apart v u (λ same. true≢false (sym (eq-eqb p.src p.dst (eqb-true p.src u m.1 ∙ (sym same ∙ sym (eqb-true p.dst v m.0)))) ∙ e)))
          (or_right ((p.src == v) && (p.dst == u)) ((p.src == u) && (p.dst == v)) (and_swapped (p.src == u) (p.dst == v) ∙ there))
    ])
    (λ h. let both = and_parts (not (v == u)) (((p.src == v) && (p.dst == u)) || ((p.src == u) && (p.dst == v))) h in elim (or_cases ((p.src == v) && (p.dst == u)) ((p.src == u) && (p.dst == v)) both.1) [
      | inl k ↦ or_left ((p.src == v) && (p.dst == u)) (((p.dst == v) && (p.src == u)) || false) k
      | inr k ↦ or_right ((p.src == v) && (p.dst == u)) (((p.dst == v) && (p.src == u)) || false) (or_none ((p.dst == v) && (p.src == u)) ∙ (and_swapped (p.dst == v) (p.src == u) ∙ k))
    ])

-- its ways are those from one place to another
along_is : (d : Direction) (p : Ends) (v u : ℕ) → list_any (λ (q : Ends). (q.src == v) && (q.dst == u)) (ways_along d p) ≡ is_way d p v u
unfolding is_way
along_is Outward p v u = or_none ((p.src == v) && (p.dst == u))
along_is Inward p v u = or_none ((p.dst == v) && (p.src == u)) ∙ and_swapped (p.dst == v) (p.src == u)
along_is Both p v u = along_both p v u (p.src == p.dst) refl

-- of all links they are those that are linked
linked_is : (d : Direction) (links : List Ends) (a b : ℕ) → list_any (λ p. is_way d p a b) links ≡ is_linked links d a b
unfolding is_way
linked_is Outward links a b = refl
linked_is Inward links a b = refl
linked_is Both links a b =
    any_both (not (a == b)) (λ (p : Ends). ((p.src == a) && (p.dst == b)) || ((p.src == b) && (p.dst == a))) links
    ∙ ap (λ t. not (a == b) && t) (any_either (λ (p : Ends). (p.src == a) && (p.dst == b)) (λ (p : Ends). (p.src == b) && (p.dst == a)) links)

-- ---- all links

module _ (links : List Ends) (d : Direction) (nodes : List ℕ) (rise : Rises nat_cmp nodes) (known : (n : ℕ) → is_listed nodes n ≡ is_end links n) where
  -- a link between listed nodes
  Listed : Ends → Type 0
  Listed p = (is_listed nodes p.src ≡ true) × (is_listed nodes p.dst ≡ true)

  all_listed : AllByRecursion Listed links
  unfolding Listed
  all_listed = every links (λ n e. known n ∙ or_left (list_any (λ (p : Ends). p.src == n) links) (list_any (λ (p : Ends). p.dst == n) links) e) (λ n e. known n ∙ or_right (list_any (λ (p : Ends). p.src == n) links) (list_any (λ (p : Ends). p.dst == n) links) e)
    where
      every : (ps : List Ends) → ((n : ℕ) → list_any (λ (p : Ends). p.src == n) ps ≡ true → is_listed nodes n ≡ true) → ((n : ℕ) → list_any (λ (p : Ends). p.dst == n) ps ≡ true → is_listed nodes n ≡ true) → AllByRecursion (λ (p : Ends). (is_listed nodes p.src ≡ true) × (is_listed nodes p.dst ≡ true)) ps
      every [] k l = tt
      every (p ∷ ps) k l = (
        (k p.src (or_left (p.src == p.src) (list_any (λ (q : Ends). q.src == p.src) ps) (eq-eqb p.src p.src refl)), l p.dst (or_left (p.dst == p.dst) (list_any (λ (q : Ends). q.dst == p.dst) ps) (eq-eqb p.dst p.dst refl))),
        every ps (λ n e. k n (or_right (p.src == n) (list_any (λ (q : Ends). q.src == n) ps) e)) (λ n e. l n (or_right (p.dst == n) (list_any (λ (q : Ends). q.dst == n) ps) e)),
      )

  -- ways end in places of nodes
  ways_below : AllByRecursion (λ (p : Ends). p.dst < length nodes) (ways_of nodes d links)
  unfolding Listed
  ways_below = every links all_listed
    where
      one : (way : Direction) (p : Ends) → p.src < length nodes → p.dst < length nodes → AllByRecursion (λ (q : Ends). q.dst < length nodes) (ways_along way p)
      one Outward p s t = (t, tt)
      one Inward p s t = (s, tt)
      one Both p s t = by (p.src == p.dst)
        where
          by : (b : Bool) → AllByRecursion (λ (q : Ends). q.dst < length nodes) (cond b [] (p ∷ record { src = p.dst; dst = p.src } ∷ []))
          by true = tt
          by false = (t, (s, tt))

      every : (ps : List Ends) → AllByRecursion (λ (p : Ends). (is_listed nodes p.src ≡ true) × (is_listed nodes p.dst ≡ true)) ps → AllByRecursion (λ (p : Ends). p.dst < length nodes) (flat_map (λ p. ways_along d (placed nodes p)) ps)
      every [] h = tt
      every (p ∷ ps) h = each_append (λ (q : Ends). q.dst < length nodes) (ways_along d (placed nodes p)) (flat_map (λ q. ways_along d (placed nodes q)) ps) (one d (placed nodes p) (place_below nodes p.src rise h.0.0) (place_below nodes p.dst rise h.0.1)) (every ps h.1)

  -- two places are the same where their numbers are
  same_spot : (v u : ℕ) → v < length nodes → u < length nodes → (v == u) ≡ (number_at nodes v == number_at nodes u)
  same_spot v u below_v below_u = ap (λ k. k == u) (sym (place_at nodes v rise below_v)) ∙ same_place nodes (number_at nodes v) u rise (listed_at nodes v below_v) below_u

  -- a link leads between two places where it leads between their numbers
  way_between : (v u : ℕ) → v < length nodes → u < length nodes → (p : Ends) → Listed p → is_way d (placed nodes p) v u ≡ is_way d p (number_at nodes v) (number_at nodes u)
  unfolding Listed is_way
  way_between v u below_v below_u p on = by d
    where
      at : (n k : ℕ) → is_listed nodes n ≡ true → k < length nodes → (place_among nodes n == k) ≡ (n == number_at nodes k)
      at n k h lt = same_place nodes n k rise h lt

      by : (way : Direction) → is_way way (placed nodes p) v u ≡ is_way way p (number_at nodes v) (number_at nodes u)
      by Outward = λ i. at p.src v on.0 below_v i && at p.dst u on.1 below_u i
      by Inward = λ i. at p.src u on.0 below_u i && at p.dst v on.1 below_v i
      by Both = λ i. not (same_spot v u below_v below_u i) && ((at p.src v on.0 below_v i && at p.dst u on.1 below_u i) || (at p.src u on.0 below_u i && at p.dst v on.1 below_v i))

  -- so a way leads from one place to another where their numbers are linked
  way_linked : (v u : ℕ) → v < length nodes → u < length nodes → list_any (λ (p : Ends). (p.src == v) && (p.dst == u)) (ways_of nodes d links) ≡ is_linked links d (number_at nodes v) (number_at nodes u)
  way_linked v u below_v below_u =
      any_flat_map (λ (p : Ends). (p.src == v) && (p.dst == u)) (λ p. ways_along d (placed nodes p)) links
      ∙ (any_each (λ p. list_any (λ (q : Ends). (q.src == v) && (q.dst == u)) (ways_along d (placed nodes p))) (λ p. is_way d p (number_at nodes v) (number_at nodes u)) links
      (each_weaker Listed (λ p. list_any (λ (q : Ends). (q.src == v) && (q.dst == u)) (ways_along d (placed nodes p)) ≡ is_way d p (number_at nodes v) (number_at nodes u))
      (λ p on. along_is d (placed nodes p) v u ∙ way_between v u below_v below_u p on) links all_listed)
      ∙ linked_is d links (number_at nodes v) (number_at nodes u))

  -- ---- side by side

  module _ (ways : List Ends) (up : Rises ends_cmp ways) (is : ways ≡ rising ends_cmp (ways_of nodes d links)) (exact : (p q : Ends) → ends_cmp p q ≡ Equal → p ≡ q)
      (starts : List ℕ) (count : length starts ≡ length nodes + 1) (at : (v : ℕ) → v ≤ length nodes → get_or starts v 0 ≡ ways_before ways v) (others : List ℕ) (ends : others ≡ map (λ (p : Ends). p.dst) ways) where
    -- the offsets are in order
    pub offsets : AreOffsets nodes starts others
    offsets = record {
      rise = rise;
      count = count;
      upward = λ v lt. (
          let from = at v (omega (arith, lt)) in
          let to = at (v + 1) (omega (arith, lt)) in
          let le = prefix_weaker (λ (p : Ends). nat_lt p.src v) (λ (p : Ends). nat_lt p.src (v + 1)) (λ p e. lt-ltb p.src (v + 1) (let below = ltb-true p.src v e in omega (arith, below))) ways in
          omega (arith, from, to, le)
          );
      inside = λ v lt. (
          let from = at v (omega (arith, lt, count)) in
          let long = ap length ends ∙ length-map ways (λ (p : Ends). p.dst) in
          omega (arith, from, long, prefix-le-length (λ (p : Ends). nat_lt p.src v) ways)
          );
    }

    rows : List (List ℕ)
    rows = parts_between others starts

    -- a row has the ends of the ways that begin in its place
    row_is : (v : ℕ) → v < length nodes → row_at rows v ≡ map (λ (p : Ends). p.dst) (filter (λ (p : Ends). p.src == v) ways)
    unfolding rows
    row_is v lt =
        part_at others starts (length nodes) v count lt
        ∙ ((λ i. slice_range (ends i) (at v (omega (arith, lt)) i) (at (v + 1) (omega (arith, lt)) i))
        ∙ part_of_key (λ (p : Ends). p.src) (λ (p : Ends). p.dst) v ways (ways_climb ways up))

    row_past : (v : ℕ) → length nodes ≤ v → row_at rows v ≡ []
    unfolding rows
    row_past v ge = get_or_past (parts_between others starts) v [] (let long = length-parts others starts (length nodes) count in omega (arith, long, ge))

    -- they are the neighbours of the nodes
    pub side_by_side : AreAdjacent links d (record { nodes = nodes; rows = parts_between others starts })
    unfolding rows
    side_by_side = record {
      rise = rise;
      nodes = known;
      count = length-parts others starts (length nodes) count;
      rows_rise = λ v. elim (cases_lt v (length nodes)) [
        | inl lt ↦ subst (Rises nat_cmp) (sym (row_is v lt)) (ends_rise v ways up)
        | inr ge ↦ subst (Rises nat_cmp) (sym (row_past v ge)) tt
      ];
      within = λ v. elim (cases_lt v (length nodes)) [
        | inl lt ↦ subst (AllByRecursion (λ u. u < length nodes)) (sym (row_is v lt))
            (each_map (λ u. u < length nodes) (λ (p : Ends). p.dst) (filter (λ (p : Ends). p.src == v) ways)
            (each_kept (λ (p : Ends). p.dst < length nodes) (λ (p : Ends). p.src == v) ways
            (subst (AllByRecursion (λ (p : Ends). p.dst < length nodes)) (sym is) (each_rising ends_cmp (λ (p : Ends). p.dst < length nodes) (ways_of nodes d links) ways_below))))
        | inr ge ↦ subst (AllByRecursion (λ u. u < length nodes)) (sym (row_past v ge)) tt
      ];
      exactly = λ v u below_v below_u.
          ap (λ us. is_listed us u) (row_is v below_v)
          ∙ (any_map (λ m. m == u) (λ (p : Ends). p.dst) (filter (λ (p : Ends). p.src == v) ways)
          ∙ (any_filter (λ (p : Ends). p.src == v) (λ (p : Ends). p.dst == u) ways
          ∙ (ap (list_any (λ (p : Ends). (p.src == v) && (p.dst == u))) is
          ∙ (any_rising ends_cmp (λ (p : Ends). (p.src == v) && (p.dst == u)) (λ p q e. ap (λ (z : Ends). (z.src == v) && (z.dst == u)) (exact p q e)) (ways_of nodes d links)
          ∙ way_linked v u below_v below_u))));
    }

-- ---- links as a function has them

-- they begin in places that do not fall
pub links_climb : (ways : List Link) → Rises ends_cmp (ends_in ways) → Climbs (λ (l : Link). l.src) ways
links_climb [] h = omega arith
links_climb (l ∷ ways) h = (starts ways h.0, links_climb ways h.1)
  where
    starts : (ls : List Link) → AllByRecursion (λ q. ends_cmp (link_ends l) q ≡ Less) (ends_in ls) → AllByRecursion (λ (m : Link). l.src ≤ m.src) ls
    starts [] k = tt
    starts (m ∷ ls) k = (begins_later (link_ends l) (link_ends m) k.0, starts ls k.1)

-- as many of them begin before a place as of their ends
pub before_links : (ways : List Link) (v : ℕ) → prefix_len (λ (l : Link). nat_lt l.src v) ways ≡ ways_before (ends_in ways) v
before_links [] v = refl
before_links (l ∷ ways) v = ap (λ k. cond (nat_lt l.src v) (1 + k) 0) (before_links ways v)

-- they end where their ends say
pub dst_of_links : (ways : List Link) → map (λ (l : Link). l.dst) ways ≡ map (λ (p : Ends). p.dst) (ends_in ways)
dst_of_links [] = refl
dst_of_links (l ∷ ways) = ap (λ ds. l.dst ∷ ds) (dst_of_links ways)
