-- The places of present nodes, joined by the links of a view.
use Rattle.std.proofs.Common.{◌≡◌, ℕ, ◌+◌, ◌<◌, ◌≤◌, true, ◌&&◌, List, [], Some, length, map, set, get_or, refl, sym, ◌∙◌, ap, subst, inl, inr, arith, eqb, eq-eqb, get_or-set_same, get_or-set_other}
use Rattle.std.specs.Prelude.{◌==◌, slice_get}
use Rattle.std.specs.List.{All, IsDistinct, range_with_len}
use Rattle.std.proofs.lemmas.Bool.{and_parts, and_from, cases_lt, eqb-true, or_cases, or_left, true≢false, false_from_ne_true}
use Rattle.std.proofs.Math.ListN.{length-set}
use Rattle.std.proofs.lemmas.List.{get_or-map, get_or_default, length-map}
use Rattle.std.proofs.lemmas.List.Elements.{All-contains, All-get_or}
use Rattle.std.proofs.lemmas.List.Folds.{list_any_at}
use Rattle.std.proofs.lemmas.List.FromFn.{fill_by_all, get_or-map-range_with_len, length-map-range_with_len}
use Rattle.std.proofs.lemmas.Map.Keys.{IsDistinct-from_apart, apart_from_distinct}
use Rattle.std.proofs.lemmas.Map.Steps.{length-le_from_distinct_below}
use Rattle.std.proofs.lemmas.Map.Views.{Contains-from_any}
use Rattle.std.proofs.lemmas.Option.{get_or_from_slice_get}
use Rattle.std.proofs.lemmas.Simd.{map-map}
use Rattle.graph_model.specs.declared.queries.Direction.TheVariants.{Outward, Inward, Both}
use Rattle.graph_model.specs.Answer.{LabelRow, Row}
use Rattle.graph_model.specs.Names.{name_cmp, same_name}
use Rattle.graph_model.specs.Neighbours.{leads}
use Rattle.graph_model.specs.Presence.{node_present, nodes}
use Rattle.graph_model.specs.World.{World}
use Rattle.world_laws.proofs.DistinctRising.{distinct_rising}
use Rattle.world_laws.proofs.ListItems.{each_at}
use Rattle.world_laws.proofs.Members.{nodes_has, nodes_rise}
use Rattle.world_laws.proofs.Order.{same_name-exact, same_name-refl}
use Rattle.world_laws.proofs.Reach.{leads_present}
use Rattle.graph_store.specs.declared.pairs.Ends.{Ends}
use Rattle.graph_store.specs.Ends.{ends_at}
use Rattle.graph_store.specs.Contents.{Contents, name_at}
use Rattle.present_links.specs.Links.{HasLinks}
use Rattle.disjoint_sets.specs.Sets.{joined}
use Rattle.walk_laws.specs.Labels.{AreLeastPlaces, AreReached, label_row, label_rows}
use Rattle.walk_laws.specs.Numbers.{name_of}
use Rattle.walk_laws.proofs.Joined.{now_joined, reached_more, reached_none, still_joined}
use Rattle.walk_laws.proofs.Places.{one_place, some_place}
use Rattle.walk_algorithms.specs.declared.labels.Part.{Part}
use Rattle.walk_algorithms.specs.Parts.{ArePlaces, part_at, parts_by}
use Rattle.walk_algorithms.specs.WalkRows.{part_row_of}

-- ---- places

-- the nodes before one have their places, and then it too
pub record HavePlaces (numbers : List ℕ) (count limit : ℕ) (places : List ℕ) : Type 0 where
  pub long : length places ≡ limit
  pub place : (j : ℕ) → j < count → get_or places (get_or numbers j 0) 0 ≡ j

pub place_more : (numbers : List ℕ) (limit i : ℕ) (places : List ℕ) → IsDistinct (λ (m n : ℕ). m == n) numbers → All (λ n. n < limit) numbers → i < length numbers → HavePlaces numbers i limit places
    → HavePlaces numbers (i + 1) limit (set places (get_or numbers i 0) i)
place_more numbers limit i places once known lt h = record {
  long = length-set places (get_or numbers i 0) i ∙ h.long;
  place = λ j below. elim (cases_lt j i) [
    | inl less ↦
        get_or-set_other places (get_or numbers i 0) (get_or numbers j 0) i 0
        (λ e. let same : j ≡ i = one_place eqb (λ x. eq-eqb x x refl) numbers j i 0 once (omega arith) lt e in absurd (omega arith))
        ∙ h.place j less
    | inr ge ↦
        let e : j ≡ i = omega arith in
        let here : get_or numbers i 0 < length places = (let long = h.long in let in_range = All-get_or (λ n. n < limit) numbers i 0 lt known in omega arith) in
        ap (λ k. get_or (set places (get_or numbers i 0) i) (get_or numbers k 0) 0) e ∙ (get_or-set_same places (get_or numbers i 0) i 0 here ∙ sym e)
  ];
}

-- distinct numbers below a limit are no more than that
pub few_numbers : (limit : ℕ) (numbers : List ℕ) → IsDistinct (λ (m n : ℕ). m == n) numbers → All (λ n. n < limit) numbers → length numbers ≤ limit
few_numbers limit numbers once known = length-le_from_distinct_below numbers limit once (λ q e. All-contains (λ n. n < limit) numbers q known (Contains-from_any eqb-true q numbers e))

-- ---- the present nodes

-- the places of the two ends of each of the first so many links have the same least place
pub record AreJoined (w : World) (numbers : List ℕ) (links : List Ends) (count : ℕ) (least : List ℕ) : Type 0 where
  pub reached : AreReached w (nodes w) least
  pub alike : (k a b : ℕ) → k < count → a < length numbers → b < length numbers → get_or numbers a 0 ≡ (ends_at links k).src → get_or numbers b 0 ≡ (ends_at links k).dst → get_or least a 0 ≡ get_or least b 0

-- a link between two numbers is the next to be joined: both have places, and what is joined then
pub record JoinsNext (w : World) (numbers : List ℕ) (links : List Ends) (places : List ℕ) (k : ℕ) (least : List ℕ) (src dst : ℕ) : Type 0 where
  pub src_known : src < length places
  pub dst_known : dst < length places
  pub src_placed : get_or places src 0 < length least
  pub dst_placed : get_or places dst 0 < length least
  pub then : AreJoined w numbers links (k + 1) (joined (get_or least (get_or places src 0) 0) (get_or least (get_or places dst 0) 0) least)

module _ (c : Contents) (w : World) (numbers : List ℕ) (named : map (name_at c.nodes) numbers ≡ nodes w) where
  pub long : length (nodes w) ≡ length numbers
  long = sym (ap length named) ∙ length-map numbers (name_at c.nodes)

  pub name_is : (i : ℕ) → i < length numbers → name_of (nodes w) i ≡ name_at c.nodes (get_or numbers i 0)
  name_is i lt = ap (λ ns. get_or ns i []) (sym named) ∙ get_or-map (name_at c.nodes) numbers i 0 [] lt

  -- they differ, since their names rise
  pub numbers_once : IsDistinct (λ (m n : ℕ). m == n) numbers
  numbers_once = IsDistinct-from_apart (λ (m n : ℕ). m == n) numbers (λ i j d less lt.
      let once = distinct_rising name_cmp (nodes w) (nodes_rise w) in
      let size = long in
      let apart = apart_from_distinct same_name (nodes w) i j [] once less (omega arith) in
      false_from_ne_true (get_or numbers i d == get_or numbers j d) (λ e.
      true≢false (sym (same_name-refl (name_of (nodes w) i)) ∙ (ap (same_name (name_of (nodes w) i)) (name_is i (omega arith) ∙ (ap (name_at c.nodes) (default i d (omega arith) ∙ (eqb-true (get_or numbers i d) (get_or numbers j d) e ∙ sym (default j d lt))) ∙ sym (name_is j lt))) ∙ apart))))
    where
      default : (i d : ℕ) → i < length numbers → get_or numbers i 0 ≡ get_or numbers i d
      default i d lt = get_or_default numbers i 0 d lt

  module _ (once : IsDistinct same_name c.nodes) (links : List Ends) (h : HasLinks w c.nodes links) (known : All (λ n. n < length c.nodes) numbers) where
    known_at : (i : ℕ) → i < length numbers → get_or numbers i 0 < length c.nodes
    known_at i lt = All-get_or (λ n. n < length c.nodes) numbers i 0 lt known

    -- a name has one number
    same_number : (i j : ℕ) → i < length c.nodes → j < length c.nodes → name_at c.nodes i ≡ name_at c.nodes j → i ≡ j
    same_number i j lt_i lt_j e = one_place same_name same_name-refl c.nodes i j [] once lt_i lt_j e

    -- a present node has a place
    place_of : (n : ℕ) → n < length c.nodes → node_present w (name_at c.nodes n) ≡ true → (a : ℕ) × (a < length numbers) × (get_or numbers a 0 ≡ n)
    place_of n lt present =
        let r = some_place (same_name (name_at c.nodes n)) (nodes w) [] (nodes_has w (name_at c.nodes n) ∙ present) in
        let size = long in
        let below : r.place < length numbers = (let k = r.below in omega arith) in
        (r.place, below, same_number (get_or numbers r.place 0) n (known_at r.place below) lt (sym (name_is r.place below) ∙ sym (same_name-exact (name_at c.nodes n) (name_of (nodes w) r.place) r.passes)))

    -- a link at a place leads from its source to its destination
    link_leads : (k : ℕ) → k < length links → leads w Outward (name_at c.nodes (ends_at links k).src) (name_at c.nodes (ends_at links k).dst) ≡ true
    link_leads k lt =
        let src = name_at c.nodes (ends_at links k).src in
        let dst = name_at c.nodes (ends_at links k).dst in
        h.linked (λ s d. same_name src s && same_name dst d)
        ∙ list_any_at (λ (p : Ends). same_name src (name_at c.nodes p.src) && same_name dst (name_at c.nodes p.dst)) links k (record { src = 0; dst = 0 }) lt
        (and_from (same_name src src) (same_name dst dst) (same_name-refl src) (same_name-refl dst))

    ends_within : (k : ℕ) → k < length links → ((ends_at links k).src < length c.nodes) × ((ends_at links k).dst < length c.nodes)
    ends_within k lt = each_at (λ (p : Ends). (p.src < length c.nodes) × (p.dst < length c.nodes)) links k (record { src = 0; dst = 0 }) h.within lt

    -- both its ends have places
    pub src_place : (k : ℕ) → k < length links → (a : ℕ) × (a < length numbers) × (get_or numbers a 0 ≡ (ends_at links k).src)
    src_place k lt = place_of (ends_at links k).src (ends_within k lt).0 (leads_present w Inward (name_at c.nodes (ends_at links k).dst) (name_at c.nodes (ends_at links k).src) (link_leads k lt))

    pub dst_place : (k : ℕ) → k < length links → (a : ℕ) × (a < length numbers) × (get_or numbers a 0 ≡ (ends_at links k).dst)
    dst_place k lt = place_of (ends_at links k).dst (ends_within k lt).1 (leads_present w Outward (name_at c.nodes (ends_at links k).src) (name_at c.nodes (ends_at links k).dst) (link_leads k lt))

    pub joined_none : AreJoined w numbers links 0 (range_with_len 0 (length numbers))
    joined_none = record {
      reached = subst (λ n. AreReached w (nodes w) (range_with_len 0 n)) long (reached_none w (nodes w) (λ i lt. sym (nodes_has w (name_of (nodes w) i)) ∙ list_any_at (same_name (name_of (nodes w) i)) (nodes w) i [] lt (same_name-refl (name_of (nodes w) i))));
      alike = λ k a b lt. absurd (omega arith);
    }

    module _ (places : List ℕ) (are : ArePlaces numbers (length c.nodes) places) where
      place_is : (n a : ℕ) → a < length numbers → get_or numbers a 0 ≡ n → get_or places n 0 ≡ a
      place_is n a lt e = ap (λ m. get_or places m 0) (sym e) ∙ are.place a lt

      -- one more link is joined
      pub joined_more : (k : ℕ) (least : List ℕ) → k < length links → AreJoined w numbers links k least → AreJoined w numbers links (k + 1) (joined (get_or least (get_or places (ends_at links k).src 0) 0) (get_or least (get_or places (ends_at links k).dst 0) 0) least)
      joined_more k least lt before =
          let src = src_place k lt in
          let dst = dst_place k lt in
          let a = src.0 in
          let b = dst.0 in
          let size = long in
          let below_a : a < length (nodes w) = (let u = src.1 in omega arith) in
          let below_b : b < length (nodes w) = (let u = dst.1 in omega arith) in
          let from : name_at c.nodes (ends_at links k).src ≡ name_of (nodes w) a = sym (name_is a src.1 ∙ ap (name_at c.nodes) src.2) in
          let to : name_at c.nodes (ends_at links k).dst ≡ name_of (nodes w) b = sym (name_is b dst.1 ∙ ap (name_at c.nodes) dst.2) in
          let led : leads w Outward (name_of (nodes w) a) (name_of (nodes w) b) ≡ true = subst (λ z. leads w Outward (name_of (nodes w) a) z ≡ true) to (subst (λ z. leads w Outward z (name_at c.nodes (ends_at links k).dst) ≡ true) from (link_leads k lt)) in
          let either : leads w Both (name_of (nodes w) a) (name_of (nodes w) b) ≡ true = or_left (leads w Outward (name_of (nodes w) a) (name_of (nodes w) b)) (leads w Inward (name_of (nodes w) a) (name_of (nodes w) b)) led in
          let now : AreJoined w numbers links (k + 1) (joined (get_or least a 0) (get_or least b 0) least) = record {
            reached = reached_more w (nodes w) least before.reached a b below_a below_b either;
            alike = λ j p q below lt_p lt_q e f. elim (cases_lt j k) [
              | inl less ↦ still_joined w (nodes w) least before.reached a b below_a below_b either p q (omega arith) (omega arith) (before.alike j p q less lt_p lt_q e f)
              | inr ge ↦
                  let same : k ≡ j = omega arith in
                  let is_a : a ≡ p = sym (place_is (ends_at links k).src a src.1 src.2) ∙ (ap (λ m. get_or places (ends_at links m).src 0) same ∙ place_is (ends_at links j).src p lt_p e) in
                  let is_b : b ≡ q = sym (place_is (ends_at links k).dst b dst.1 dst.2) ∙ (ap (λ m. get_or places (ends_at links m).dst 0) same ∙ place_is (ends_at links j).dst q lt_q f) in
                  let more = joined (get_or least a 0) (get_or least b 0) least in
                  ap (λ m. get_or more m 0) (sym is_a) ∙ (now_joined w (nodes w) least before.reached a b below_a below_b either ∙ ap (λ m. get_or more m 0) is_b)
            ];
          } in
          subst (λ x. AreJoined w numbers links (k + 1) (joined (get_or least x 0) (get_or least (get_or places (ends_at links k).dst 0) 0) least)) (sym (place_is (ends_at links k).src a src.1 src.2))
          (subst (λ y. AreJoined w numbers links (k + 1) (joined (get_or least a 0) (get_or least y 0) least)) (sym (place_is (ends_at links k).dst b dst.1 dst.2)) now)

      pub joins_next : (k : ℕ) (least : List ℕ) → k < length links → AreJoined w numbers links k least → (src dst : ℕ) → slice_get links k ≡ Some (record { src = src; dst = dst }) → JoinsNext w numbers links places k least src dst
      joins_next k least lt before src dst e =
          let is : ends_at links k ≡ record { src = src; dst = dst } = get_or_from_slice_get links k (record { src = src; dst = dst }) (record { src = 0; dst = 0 }) e in
          subst (λ (p : Ends). JoinsNext w numbers links places k least p.src p.dst) is (record {
            src_known = (let u = (ends_within k lt).0 in let v = are.long in omega arith);
            dst_known = (let u = (ends_within k lt).1 in let v = are.long in omega arith);
            src_placed = placed k least before (ends_at links k).src (src_place k lt);
            dst_placed = placed k least before (ends_at links k).dst (dst_place k lt);
            then = joined_more k least lt before;
          })
        where
          placed : (k : ℕ) (least : List ℕ) → AreJoined w numbers links k least → (n : ℕ) → ((a : ℕ) × (a < length numbers) × (get_or numbers a 0 ≡ n)) → get_or places n 0 < length least
          placed k least before n r = let at = place_is n r.0 r.1 r.2 in let each = before.reached.each in let size = long in let lt = r.1 in omega arith

    -- neighbours have the same least place, once all links are joined
    along : (count : ℕ) (least : List ℕ) → length links ≤ count → AreJoined w numbers links count least → (i j : ℕ) → i < length (nodes w) → j < length (nodes w) → leads w Outward (name_of (nodes w) i) (name_of (nodes w) j) ≡ true → get_or least i 0 ≡ get_or least j 0
    along count least past before i j lt_i lt_j led =
        let from = name_of (nodes w) i in
        let to = name_of (nodes w) j in
        let r = some_place (λ (p : Ends). same_name from (name_at c.nodes p.src) && same_name to (name_at c.nodes p.dst)) links (record { src = 0; dst = 0 }) (sym (h.linked (λ s d. same_name from s && same_name to d)) ∙ led) in
        let within = ends_within r.place r.below in
        let both = and_parts (same_name from (name_at c.nodes (ends_at links r.place).src)) (same_name to (name_at c.nodes (ends_at links r.place).dst)) r.passes in
        let size = long in
        let below_i : i < length numbers = omega arith in
        let below_j : j < length numbers = omega arith in
        let is_src = same_number (get_or numbers i 0) (ends_at links r.place).src (known_at i below_i) within.0 (sym (name_is i below_i) ∙ same_name-exact from (name_at c.nodes (ends_at links r.place).src) both.0) in
        let is_dst = same_number (get_or numbers j 0) (ends_at links r.place).dst (known_at j below_j) within.1 (sym (name_is j below_j) ∙ same_name-exact to (name_at c.nodes (ends_at links r.place).dst) both.1) in
        before.alike r.place i j (let k = r.below in omega arith) below_i below_j is_src is_dst

    pub all_joined : (count : ℕ) (least : List ℕ) → length links ≤ count → AreJoined w numbers links count least → AreLeastPlaces w least
    all_joined count least past before = record {
      reached = before.reached;
      same = λ i j lt_i lt_j led. elim (or_cases (leads w Outward (name_of (nodes w) i) (name_of (nodes w) j)) (leads w Inward (name_of (nodes w) i) (name_of (nodes w) j)) led) [
        | inl there ↦ along count least past before i j lt_i lt_j there
        | inr back ↦ sym (along count least past before j i lt_j lt_i back)
      ];
    }

  -- ---- rows

  module _ (least : List ℕ) (h : AreReached w (nodes w) least) where
    pub lower_at : (i : ℕ) → i < length numbers → get_or least i 0 ≤ i
    lower_at i lt = let size = long in h.lower i (omega arith)

    pub part_rows : map (part_row_of c) (parts_by numbers least) ≡ label_rows (nodes w) least
    part_rows =
        let n = length numbers in
        let row : ℕ → Row = λ i. part_row_of c (part_at numbers least i) in
        let size = long in
        map-map (part_row_of c) (part_at numbers least) (range_with_len 0 n)
        ∙ fill_by_all (label_row (nodes w) least) (map row (range_with_len 0 n)) (length (nodes w)) (LabelRow [] []) (length-map-range_with_len row 0 n ∙ sym size) (λ k lt.
        let below : k < n = omega arith in
        let low = lower_at k below in
        get_or-map-range_with_len row 0 n k k (LabelRow [] []) below (omega arith)
        ∙ (λ i. LabelRow (sym (name_is k below) i) (sym (name_is (get_or least k 0) (omega arith)) i)))

    pub parts_known : All (λ n. n < length c.nodes) numbers → All (λ (p : Part). (p.node.0 < length c.nodes) × (p.label.0 < length c.nodes)) (parts_by numbers least)
    parts_known known k d lt =
        let n = length numbers in
        let size = length-map-range_with_len (part_at numbers least) 0 n in
        let below : k < n = omega arith in
        let low = lower_at k below in
        subst (λ (p : Part). (p.node.0 < length c.nodes) × (p.label.0 < length c.nodes)) (sym (get_or-map-range_with_len (part_at numbers least) 0 n k k d below (omega arith)))
        (All-get_or (λ m. m < length c.nodes) numbers k 0 below known, All-get_or (λ m. m < length c.nodes) numbers (get_or least k 0) 0 (omega arith) known)
