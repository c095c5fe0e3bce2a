-- Cores of a world by rows of neighbours.
use Rattle.std.proofs.Common.{◌≡◌, ℕ, zero, suc, ◌+◌, ◌<◌, ◌≤◌, Bool, true, false, not, ◌&&◌, ◌||◌, List, [], ◌∷◌, length, map, cond, refl, sym, ◌∙◌, ap, subst, inl, inr, arith}
use Rattle.std.specs.Prelude.{nat_le, nat_lt, ◌==◌}
use Rattle.std.specs.List.{AllByRecursion, IsDistinct, filter, list_any}
use Rattle.std.proofs.lemmas.Bool.{cases_lt, lt-ltb, ltb-true, leb-true, le-leb, eq-eqb, eqb-true, or_cases, or_left, or_right, and_parts, and_from, true≢false, false_from_ne_true}
use Rattle.std.proofs.lemmas.List.{length-map}
use Rattle.std.proofs.lemmas.Map.Made.{length-from_same_keys}
use Rattle.graph_model.specs.declared.queries.Direction.TheVariants.{Both}
use Rattle.graph_model.specs.Names.{name_cmp, same_name, name_equiv}
use Rattle.graph_model.specs.World.{World}
use Rattle.graph_model.specs.Presence.{node_present}
use Rattle.graph_model.specs.Neighbours.{leads, neighbours}
use Rattle.graph_model.specs.Keep.{is_named}
use Rattle.graph_model.specs.Core.{degree_in, is_core_set, IsInCore, IsCoreNumber}
use Rattle.world_laws.proofs.Cores.{core_bound, core_own}
use Rattle.world_laws.proofs.DistinctRising.{distinct_rising}
use Rattle.world_laws.proofs.Filters.{each_kept, each_weaker, kept_pass, each_two}
use Rattle.world_laws.proofs.Lawful.{each_passes, all_pass}
use Rattle.world_laws.proofs.ListItems.{any_map, each_map}
use Rattle.world_laws.proofs.Members.{any_filter, both_true}
use Rattle.world_laws.proofs.Nodes.{neighbours_has, neighbours_rise}
use Rattle.world_laws.proofs.Order.{same_name-exact, same_name-refl}
use Rattle.world_laws.proofs.Present.{some_passes}
use Rattle.world_laws.proofs.SortedKeys.{distinct_filter}
use Rattle.view_trait.specs.Numbered.{is_listed}
use Rattle.present_links.specs.Adjacent.{row_at}
use Rattle.core_algorithm.specs.Peeled.{how_many, IsKSet, IsInSet, IsGreatest}
use Rattle.present_links.proofs.Numbers.{distinct_map}

-- rows of the neighbours of present nodes, other than themselves, where a function names the nodes
pub record AreRowsOf (w : World) (name : ℕ → List ℕ) (rows : List (List ℕ)) : Type 0 where
  pub present : (v : ℕ) → v < length rows → node_present w (name v) ≡ true
  pub apart : (v u : ℕ) → v < length rows → u < length rows → same_name (name v) (name u) ≡ true → (v == u) ≡ true
  pub within : (v : ℕ) → AllByRecursion (λ u. u < length rows) (row_at rows v)
  pub once : (v : ℕ) → IsDistinct (λ (i j : ℕ). i == j) (row_at rows v)
  pub linked : (v u : ℕ) → v < length rows → u < length rows → is_listed (row_at rows v) u ≡ (not (v == u) && leads w Both (name v) (name u))
  pub reached : (v : ℕ) (b : List ℕ) → v < length rows → leads w Both (name v) b ≡ true → (u : ℕ) × (u < length rows) × (b ≡ name u)

-- ---- counts

-- how many pass is how many are kept
pub many_kept : (test : ℕ → Bool) (xs : List ℕ) → length (filter test xs) ≡ how_many test xs
many_kept test [] = refl
many_kept test (x ∷ xs) = by (test x) (many_kept test xs)
  where
    by : (t : Bool) → length (filter test xs) ≡ how_many test xs → length (cond t (x ∷ filter test xs) (filter test xs)) ≡ cond t 1 0 + how_many test xs
    by true h = omega (arith, h)
    by false h = omega (arith, h)

-- tests that agree on a list count as many
pub many_each : (p q : ℕ → Bool) (xs : List ℕ) → AllByRecursion (λ x. p x ≡ q x) xs → how_many p xs ≡ how_many q xs
many_each p q [] h = refl
many_each p q (x ∷ xs) h = λ i. cond (h.0 i) 1 0 + many_each p q xs h.1 i

module _ (w : World) (name : ℕ → List ℕ) (rows : List (List ℕ)) (h : AreRowsOf w name rows) where
  -- whether names have the name of a place
  has : List (List ℕ) → ℕ → Bool
  has names u = is_named names (name u)

  module _ (names : List (List ℕ)) (v : ℕ) (below : v < length rows) where
    -- a neighbour that counts
    counts : List ℕ → Bool
    counts other = is_named names other && not (same_name other (name v))

    kept : List (List ℕ)
    kept = filter counts (neighbours w Both (name v))

    others : List (List ℕ)
    others = map name (filter (has names) (row_at rows v))

    row_within : AllByRecursion (λ u. u < length rows) (filter (has names) (row_at rows v))
    row_within = each_kept (λ u. u < length rows) (has names) (row_at rows v) (h.within v)

    others_once : IsDistinct same_name others
    unfolding others
    others_once = distinct_map (λ (i j : ℕ). i == j) same_name name (λ u. u < length rows) (λ i j bi bj e. h.apart i j bi bj e) (filter (has names) (row_at rows v)) row_within (distinct_filter (λ (i j : ℕ). i == j) (has names) (row_at rows v) (h.once v))

    kept_once : IsDistinct same_name kept
    unfolding kept
    kept_once = distinct_filter same_name counts (neighbours w Both (name v)) (distinct_rising name_cmp (neighbours w Both (name v)) (neighbours_rise w Both (name v)))

    to_others : (b : List ℕ) → list_any (same_name b) kept ≡ true → list_any (same_name b) others ≡ true
    unfolding kept others counts has
    to_others b e =
        let x = some_passes (λ z. counts z && same_name b z) (neighbours w Both (name v)) (sym (any_filter counts (same_name b) (neighbours w Both (name v))) ∙ e) in
        let m = and_parts (counts x.0) (same_name b x.0) x.1 in
        let is : b ≡ x.0 = same_name-exact b x.0 m.1 in
        let here : counts b ≡ true = subst (λ z. counts z ≡ true) (sym is) m.0 in
        let c = and_parts (is_named names b) (not (same_name b (name v))) here in
        let led : leads w Both (name v) b ≡ true = sym (neighbours_has w Both (name v) b) ∙ x.2 (same_name b) m.1 in
        let u = h.reached v b below led in
        let not_own : not (v == u.0) ≡ true = ap not (false_from_ne_true (v == u.0) (λ k. (
        let same : b ≡ name v = u.2 ∙ ap name (sym (eqb-true v u.0 k)) in
        true≢false (sym (subst (λ z. same_name z (name v) ≡ true) (sym same) (same_name-refl (name v))) ∙ no (same_name b (name v)) c.1)
        ))) in
        let on : is_listed (row_at rows v) u.0 ≡ true = h.linked v u.0 below u.1 ∙ and_from (not (v == u.0)) (leads w Both (name v) (name u.0)) not_own (subst (λ z. leads w Both (name v) z ≡ true) u.2 led) in
        let found = some_passes (λ k. k == u.0) (row_at rows v) on in
        let place : found.0 ≡ u.0 = eqb-true found.0 u.0 found.1 in
        any_map (same_name b) name (filter (has names) (row_at rows v))
        ∙ (any_filter (has names) (λ k. same_name b (name k)) (row_at rows v)
        ∙ found.2 (λ k. has names k && same_name b (name k))
        (and_from (has names found.0) (same_name b (name found.0))
        (subst (λ z. is_named names z ≡ true) (u.2 ∙ ap name (sym place)) c.0)
        (subst (λ z. same_name b z ≡ true) (u.2 ∙ ap name (sym place)) (same_name-refl b))))
      where
        no : (t : Bool) → not t ≡ true → t ≡ false
        no true k = cc
        no false k = refl

    to_kept : (b : List ℕ) → list_any (same_name b) others ≡ true → list_any (same_name b) kept ≡ true
    unfolding kept others counts has
    to_kept b e =
        let k = some_passes (λ u. has names u && same_name b (name u)) (row_at rows v) (sym (any_filter (has names) (λ u. same_name b (name u)) (row_at rows v)) ∙ (sym (any_map (same_name b) name (filter (has names) (row_at rows v))) ∙ e)) in
        let m = and_parts (has names k.0) (same_name b (name k.0)) k.1 in
        let is : b ≡ name k.0 = same_name-exact b (name k.0) m.1 in
        let on : is_listed (row_at rows v) k.0 ≡ true = k.2 (λ j. j == k.0) (eq-eqb k.0 k.0 refl) in
        let lt : k.0 < length rows = listed_within (row_at rows v) k.0 (h.within v) on in
        let l = and_parts (not (v == k.0)) (leads w Both (name v) (name k.0)) (sym (h.linked v k.0 below lt) ∙ on) in
        let there = some_passes (same_name (name k.0)) (neighbours w Both (name v)) (neighbours_has w Both (name v) (name k.0) ∙ l.1) in
        let same : name k.0 ≡ there.0 = same_name-exact (name k.0) there.0 there.1 in
        let not_own : same_name (name k.0) (name v) ≡ false = false_from_ne_true (same_name (name k.0) (name v)) (λ s. (
        true≢false (sym (eq-eqb v k.0 (sym (eqb-true k.0 v (h.apart k.0 v lt below s)))) ∙ no (v == k.0) l.0)
        )) in
        any_filter counts (same_name b) (neighbours w Both (name v))
        ∙ there.2 (λ z. counts z && same_name b z)
        (subst (λ z. (counts z && same_name b z) ≡ true) same
        (and_from (counts (name k.0)) (same_name b (name k.0)) (and_from (is_named names (name k.0)) (not (same_name (name k.0) (name v))) m.0 (ap not not_own)) m.1))
      where
        no : (t : Bool) → not t ≡ true → t ≡ false
        no true k = cc
        no false k = refl

        listed_within : (xs : List ℕ) (u : ℕ) → AllByRecursion (λ x. x < length rows) xs → is_listed xs u ≡ true → u < length rows
        listed_within [] u each on = absurd (true≢false (sym on))
        listed_within (x ∷ xs) u each on = elim (or_cases (x == u) (is_listed xs u) on) [
          | inl s ↦ subst (λ k. k < length rows) (eqb-true x u s) each.0
          | inr s ↦ listed_within xs u each.1 s
        ]

    -- as many neighbours of a node are among names as places of its row have one of them
    pub degree_is : degree_in w names (name v) ≡ how_many (λ u. is_named names (name u)) (row_at rows v)
    unfolding kept others counts has
    degree_is =
        length-from_same_keys name_equiv kept others kept_once others_once (λ b. both_true (list_any (same_name b) kept) (list_any (same_name b) others) (to_others b) (to_kept b))
        ∙ (length-map (filter (has names) (row_at rows v)) name ∙ many_kept (has names) (row_at rows v))

  -- ---- sets of places and of names

  -- all places below one
  below_all : ℕ → List ℕ
  below_all zero = []
  below_all (suc n) = n ∷ below_all n

  below_has : (n u : ℕ) → u < n → is_listed (below_all n) u ≡ true
  unfolding below_all
  below_has zero u lt = absurd (omega (arith, lt))
  below_has (suc n) u lt = elim (cases_lt u n) [
    | inl less ↦ or_right (n == u) (is_listed (below_all n) u) (below_has n u less)
    | inr ge ↦ or_left (n == u) (is_listed (below_all n) u) (eq-eqb n u (omega (arith, lt, ge)))
  ]

  below_each : (n : ℕ) → AllByRecursion (λ u. u < n) (below_all n)
  unfolding below_all
  below_each zero = tt
  below_each (suc n) = (omega arith, each_weaker (λ u. u < n) (λ u. u < suc n) (λ u lt. omega (arith, lt)) (below_all n) (below_each n))

  module _ (k : ℕ) (set : ℕ → Bool) (is_set : IsKSet rows k set) where
    -- the names of the places of a set
    named : List (List ℕ)
    named = map name (filter set (below_all (length rows)))

    named_is : (u : ℕ) → u < length rows → is_named named (name u) ≡ set u
    unfolding named
    named_is u lt =
        any_map (same_name (name u)) name (filter set (below_all (length rows)))
        ∙ (any_filter set (λ m. same_name (name u) (name m)) (below_all (length rows))
        ∙ both_true (list_any (λ m. set m && same_name (name u) (name m)) (below_all (length rows))) (set u)
        (λ e. (
        let m = some_passes (λ m. set m && same_name (name u) (name m)) (below_all (length rows)) e in
        let p = and_parts (set m.0) (same_name (name u) (name m.0)) m.1 in
        subst (λ j. set j ≡ true) (sym (eqb-true u m.0 (h.apart u m.0 lt (is_set m.0 p.0).0 p.1))) p.0
        ))
        (λ e. (
        let m = some_passes (λ m. m == u) (below_all (length rows)) (below_has (length rows) u lt) in
        let same : m.0 ≡ u = eqb-true m.0 u m.1 in
        m.2 (λ j. set j && same_name (name u) (name j)) (subst (λ j. (set j && same_name (name u) (name j)) ≡ true) (sym same) (and_from (set u) (same_name (name u) (name u)) e (same_name-refl (name u))))
        )))

    core_named : is_core_set w k named ≡ true
    unfolding named
    core_named =
        all_pass (λ node. node_present w node && nat_le k (degree_in w named node)) (map name (filter set (below_all (length rows))))
        (each_map (λ node. (node_present w node && nat_le k (degree_in w named node)) ≡ true) name (filter set (below_all (length rows)))
        (each_two (λ u. set u ≡ true) (λ u. u < length rows) (λ u. (node_present w (name u) && nat_le k (degree_in w named (name u))) ≡ true)
        (λ u s lt. and_from (node_present w (name u)) (nat_le k (degree_in w named (name u))) (h.present u lt)
        (le-leb k (degree_in w named (name u)) (subst (λ d. k ≤ d) (sym (enough u lt)) (is_set u s).1)))
        (filter set (below_all (length rows))) (kept_pass set (below_all (length rows)))
        (each_kept (λ u. u < length rows) set (below_all (length rows)) (below_each (length rows)))))
      where
        enough : (u : ℕ) → u < length rows → degree_in w named (name u) ≡ how_many set (row_at rows u)
        enough u lt = degree_is named u lt ∙ many_each (λ j. is_named named (name j)) set (row_at rows u) (each_weaker (λ j. j < length rows) (λ j. is_named named (name j) ≡ set j) (λ j l. named_is j l) (row_at rows u) (h.within u))

    from_set : (v : ℕ) → v < length rows → set v ≡ true → IsInCore w k (name v)
    from_set v lt s = (named, core_named, named_is v lt ∙ s)

  -- a node is in a core where its place is in a set
  in_core : (k v : ℕ) → v < length rows → IsInSet rows k v → IsInCore w k (name v)
  in_core k v lt s = from_set k s.0 s.1 v lt s.2

  in_set : (k v : ℕ) → v < length rows → IsInCore w k (name v) → IsInSet rows k v
  in_set k v lt c = (
    λ u. nat_lt u (length rows) && is_named c.0 (name u),
    λ u s. (
        let m = and_parts (nat_lt u (length rows)) (is_named c.0 (name u)) s in
        let below = ltb-true u (length rows) m.0 in
        let own = (core_own w k (name u) (c.0, c.1, m.1)).1 in
        let same = degree_is c.0 u below ∙ many_each (λ j. is_named c.0 (name j)) (λ j. nat_lt j (length rows) && is_named c.0 (name j)) (row_at rows u)
        (each_weaker (λ j. j < length rows) (λ j. is_named c.0 (name j) ≡ (nat_lt j (length rows) && is_named c.0 (name j))) (λ j l. ap (λ t. t && is_named c.0 (name j)) (sym (lt-ltb j (length rows) l))) (row_at rows u) (h.within u)) in
        (below, subst (λ d. k ≤ d) same own)
        ),
    and_from (nat_lt v (length rows)) (is_named c.0 (name v)) (lt-ltb v (length rows) lt) c.2,
  )

  -- so their numbers are the same
  pub number_of_place : (v k : ℕ) → v < length rows → IsGreatest rows v k → IsCoreNumber w (name v) k
  number_of_place v k lt g = (in_core k v lt g.0, λ j c. g.1 j (in_set j v lt c))

-- a present node without neighbours has the number 0
pub number_alone : (w : World) (node : List ℕ) → node_present w node ≡ true → length (neighbours w Both node) ≡ 0 → IsCoreNumber w node 0
number_alone w node here none = (
  (node ∷ [], and_from (node_present w node && nat_le 0 (degree_in w (node ∷ []) node)) true (and_from (node_present w node) (nat_le 0 (degree_in w (node ∷ []) node)) here (le-leb 0 (degree_in w (node ∷ []) node) (omega arith))) refl, ap (λ t. t || false) (same_name-refl node)),
  λ j c. (let few = core_bound w j node c in omega (arith, few, none)),
)

-- a node of a core is in each core of less
pub core_weaker : (w : World) (j k : ℕ) (node : List ℕ) → j ≤ k → IsInCore w k node → IsInCore w j node
core_weaker w j k node le c = (
  c.0,
  all_pass (λ a. node_present w a && nat_le j (degree_in w c.0 a)) c.0
      (each_weaker (λ a. (node_present w a && nat_le k (degree_in w c.0 a)) ≡ true) (λ a. (node_present w a && nat_le j (degree_in w c.0 a)) ≡ true)
      (λ a e. (
      let m = and_parts (node_present w a) (nat_le k (degree_in w c.0 a)) e in
      and_from (node_present w a) (nat_le j (degree_in w c.0 a)) m.0 (le-leb j (degree_in w c.0 a) (let some = leb-true k (degree_in w c.0 a) m.1 in omega (arith, some, le)))
      )) c.0 (each_passes (λ a. node_present w a && nat_le k (degree_in w c.0 a)) c.0 c.1)),
  c.2,
)
