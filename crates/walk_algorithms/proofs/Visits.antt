-- Visits with names, and their rows.
use Rattle.std.proofs.Common.{◌≡◌, ℕ, suc, ◌+◌, ◌<◌, Bool, true, false, List, [], ◌∷◌, ◌++◌, Some, cond, length, map, take, get_or, refl, sym, ◌∙◌, ap, subst, arith, eqb}
use Rattle.std.specs.Prelude.{slice_get, IsPermutation, IsSortedBy}
use Rattle.std.specs.List.{All, IsDistinct}
use Rattle.std.specs.Ordering.{is_lt}
use Rattle.std.proofs.lemmas.List.{get_or-map, length-map, map-append, take_more}
use Rattle.std.proofs.lemmas.List.Elements.{All-filter, All-from_get_or, All-get_or, All-map, filter-append}
use Rattle.std.proofs.lemmas.Option.{get_or_from_slice_get}
use Rattle.std.proofs.lemmas.Simd.{map-map}
use Rattle.graph_model.specs.Names.{name_cmp, name_total, same_name}
use Rattle.graph_model.specs.Rising.{Rises}
use Rattle.graph_store.specs.Contents.{Contents}
use Rattle.present_links.proofs.Neighbours.{same_number}
use Rattle.present_links.proofs.Numbers.{distinct_map}
use Rattle.world_laws.proofs.ListItems.{each_from}
use Rattle.world_laws.proofs.SortedKeys.{distinct_keys, sorted_keys_rise}
use Rattle.node_visits.specs.declared.visited.Visit.{Visit}
use Rattle.node_visits.specs.Visits.{AreVisits, nodes_of, visit_at}
use Rattle.node_visits.proofs.Visiting.{blank}
use Rattle.walk_laws.specs.Components.{is_other, others, reached_row}
use Rattle.walk_laws.specs.Distances.{number_row}
use Rattle.walk_laws.specs.Numbers.{NamesRise, name_of, names_of}
use Rattle.walk_algorithms.specs.declared.by_name.NamedVisit.{NamedVisit}
use Rattle.walk_algorithms.specs.declared.hop_rows.Hop.{Hop}
use Rattle.walk_algorithms.specs.Visits.{IsNamed, hop_of, visit_of}
use Rattle.present_links.specs.NodeNames.{node_row_of}
use Rattle.walk_algorithms.specs.WalkRows.{hop_row_of}

pub is_at : (visits : List Visit) (i : ℕ) (v : Visit) → slice_get visits i ≡ Some v → visit_at visits i ≡ v
is_at visits i v e = get_or_from_slice_get visits i v blank e

-- the node of a visit has a number
place_below : (limit : ℕ) (visits : List Visit) → AreVisits limit visits → (i : ℕ) → i < length visits → (visit_at visits i).node < limit
place_below limit visits h i lt =
    let len = length-map visits (λ (v : Visit). v.node) in
    subst (λ z. z < limit) (get_or-map (λ (v : Visit). v.node) visits i blank 0 lt) (All-get_or (λ n. n < limit) (nodes_of visits) i 0 (omega (arith, len, lt)) h.within)

pub node_below : (limit : ℕ) (visits : List Visit) (i : ℕ) (v : Visit) → AreVisits limit visits → i < length visits → slice_get visits i ≡ Some v → v.node < limit
node_below limit visits i v h lt e = subst (λ (u : Visit). u.node < limit) (is_at visits i v e) (place_below limit visits h i lt)

-- one more visit has its name
pub visits_push : (xs ys : List NamedVisit) (x : NamedVisit) (visits : List Visit) (i : ℕ) (v : Visit) → ys ≡ xs ++ x ∷ [] → x.visit ≡ v → slice_get visits i ≡ Some v → i < length visits → map visit_of xs ≡ take i visits → map visit_of ys ≡ take (i + 1) visits
visits_push xs ys x visits i v more is e lt before =
    ap (map visit_of) more
    ∙ (map-append visit_of xs (x ∷ [])
    ∙ ((λ k. before k ++ (is ∙ sym (is_at visits i v e)) k ∷ [])
    ∙ sym (take_more visits i blank lt)))

-- the names that visits have are those of their nodes
pub named_names : (c : Contents) (xs : List NamedVisit) → All (IsNamed c) xs → names_of c.nodes (map visit_of xs) ≡ map (λ x. x.name.now) xs
named_names c [] h = refl
named_names c (x ∷ xs) h = λ i. (h 0 x (omega arith)).name i ∷ named_names c xs (λ k d lt. h (suc k) d (omega arith)) i

-- different nodes have different names
pub names_apart : (c : Contents) → IsDistinct same_name c.nodes → (visits : List Visit) → AreVisits (length c.nodes) visits → IsDistinct same_name (names_of c.nodes visits)
names_apart c once visits h =
    distinct_map (λ (u v : Visit). eqb u.node v.node) same_name (λ (v : Visit). name_of c.nodes v.node) (λ (v : Visit). v.node < length c.nodes)
    (λ u v below_u below_v e. same_number c.nodes once u.node v.node below_u below_v ∙ e) visits
    (each_from (λ (v : Visit). v.node < length c.nodes) visits blank (place_below (length c.nodes) visits h)) (distinct_keys (λ (v : Visit). v.node) eqb visits h.once)

-- sorted by name, they rise
pub sorted_rise : (c : Contents) → IsDistinct same_name c.nodes → (visits : List Visit) → AreVisits (length c.nodes) visits → (xs ys : List NamedVisit) → map visit_of xs ≡ visits → All (IsNamed c) xs → All (IsNamed c) ys → IsPermutation xs ys
    → IsSortedBy (λ x y. is_lt (name_cmp x.name.now y.name.now)) ys → NamesRise c.nodes (map visit_of ys)
sorted_rise c once visits different xs ys is named still moved sorted =
    subst (Rises name_cmp) (sym (named_names c ys still))
    (sorted_keys_rise (λ x. x.name.now) name_cmp name_total xs ys (subst (IsDistinct same_name) (sym (ap (names_of c.nodes) is) ∙ named_names c xs named) (names_apart c once visits different)) moved sorted)

-- ---- rows

-- the rows of nodes with their distances, and of nodes alone
pub hop_rows : (c : Contents) (xs : List NamedVisit) → map (hop_row_of c) (map hop_of xs) ≡ map (number_row c.nodes) (map visit_of xs)
hop_rows c xs = map-map (hop_row_of c) hop_of xs ∙ sym (map-map (number_row c.nodes) visit_of xs)

pub hops_known : (c : Contents) (xs : List NamedVisit) → All (IsNamed c) xs → All (λ (h : Hop). h.node.0 < length c.nodes) (map hop_of xs)
hops_known c xs named = All-map (λ (h : Hop). h.node.0 < length c.nodes) hop_of xs (λ k d lt. (named k d lt).within)

pub node_rows : (c : Contents) (visits : List Visit) → map (node_row_of c) (nodes_of visits) ≡ map (reached_row c.nodes) visits
node_rows c visits = map-map (node_row_of c) (λ (v : Visit). v.node) visits

pub others_known : (limit start : ℕ) (visits : List Visit) → AreVisits limit visits → All (λ n. n < limit) (nodes_of (others start visits))
others_known limit start visits h =
    All-map (λ n. n < limit) (λ (v : Visit). v.node) (others start visits)
    (All-filter (is_other start) (λ (v : Visit). v.node < limit) visits (All-from_get_or (λ (v : Visit). v.node < limit) visits blank (place_below limit visits h)))

-- one more node, unless it is the start
pub others_push : (start : ℕ) (nodes more : List ℕ) (named : List NamedVisit) (i : ℕ) (x : NamedVisit) → more ≡ nodes ++ cond (is_other start (get_or named i x).visit) ((get_or named i x).visit.node ∷ []) [] → i < length named
    → nodes ≡ nodes_of (others start (map visit_of (take i named))) → more ≡ nodes_of (others start (map visit_of (take (i + 1) named)))
others_push start nodes more named i x is lt before =
    let v = (get_or named i x).visit in
    let vs = map visit_of (take i named) in
    let later : map visit_of (take (i + 1) named) ≡ vs ++ v ∷ [] = ap (map visit_of) (take_more named i x lt) ∙ map-append visit_of (take i named) (get_or named i x ∷ []) in
    is
    ∙ ((λ k. before k ++ one (is_other start v) v k)
    ∙ (sym (map-append (λ (u : Visit). u.node) (others start vs) (others start (v ∷ [])))
    ∙ ap nodes_of (sym (ap (others start) later ∙ filter-append (is_other start) vs (v ∷ [])))))
  where
    one : (t : Bool) (v : Visit) → cond t (v.node ∷ []) [] ≡ nodes_of (cond t (v ∷ []) [])
    one true v = refl
    one false v = refl
