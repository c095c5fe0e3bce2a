-- The rows of a timeline by the entities that they name, and the times at which a question selects them.
use Rattle.std.proofs.Common.{◌≡◌, ◌⊎◌, ◌<◌, ℕ, ℤ, Bool, true, false, ◌&&◌, List, [], ◌∷◌, cond, length, map, refl, sym, ◌∙◌, ap, subst, arith, inl, inr}
use Rattle.std.specs.Prelude.{◌==◌, nat_lt, IsPermutation}
use Rattle.std.specs.List.{AllByRecursion, filter}
use Rattle.std.specs.declared.cmp.Ordering.{Ordering}
use Rattle.std.specs.Ordering.{int_cmp, is_gt}
use Rattle.std.proofs.lemmas.Bool.{cond-true, cond-false, cond_both, eq-eqb, eqb-true}
use Rattle.std.proofs.lemmas.Bool.Decides.{nat_tests}
use Rattle.std.proofs.lemmas.Cmp.{int_cmp_total}
use Rattle.std.proofs.lemmas.Int.{ints, clamps}
use Rattle.std.proofs.lemmas.List.Elements.{filter_agree, recursion_from_All}
use Rattle.std.proofs.lemmas.List.Sorted.{IsPermutation-refl, IsPermutation-cons, IsPermutation-middle, IsPermutation-trans}
use Rattle.graph_model.specs.declared.events.Entity.{Entity}
use Rattle.graph_model.specs.declared.events.Entity.TheVariants.{Node, Edge}
use Rattle.graph_model.specs.declared.events.Event.{Event}
use Rattle.graph_model.specs.declared.events.Model.{Model}
use Rattle.graph_model.specs.declared.events.Model.TheVariants.{Event as Instants}
use Rattle.graph_model.specs.Entity.{is_about, same_entity}
use Rattle.graph_model.specs.Interval.{Interval, cut, is_inside}
use Rattle.graph_model.specs.Keep.{in_layers}
use Rattle.graph_model.specs.Names.{same_name}
use Rattle.graph_model.specs.Rising.{in_order, put_in_order}
use Rattle.graph_model.specs.Window.{clip_list, is_within, window}
use Rattle.graph_model.specs.World.{events_of}
use Rattle.world_laws.proofs.Filters.{each_kept, each_two, each_weaker, filter_both, filter_comm, filter_none, filter_same, kept_pass}
use Rattle.world_laws.proofs.InOrder.{filter_in_order}
use Rattle.world_laws.proofs.Lawful.{each_passes}
use Rattle.world_laws.proofs.Listed.{each_any}
use Rattle.world_laws.proofs.Members.{both_true}
use Rattle.world_laws.proofs.Order.{same_entity-exact, same_entity-refl, same_name-exact}
use Rattle.world_laws.proofs.Times.{inside_hi, inside_lo, inside_test}
use Rattle.world_laws.proofs.Windows.{events_of-window}
use Rattle.graph_store.specs.Contents.{Contents, base_of, name_at}
use Rattle.graph_store.specs.EdgeParts.{parts_at}
use Rattle.view_trait.specs.Meaning.{IsShown, edge_at, knows, node_at}
use Rattle.view_trait.specs.Numbered.{has_bit, layer_world, layers_numbered}
use Rattle.view_trait.proofs.Kept.{layer_keeps}
use Rattle.view_trait.proofs.OnRoster.{edges_apart, nodes_apart}
use Rattle.view_trait.proofs.Pairs.{any_place, edge_number}
use Rattle.view_trait.proofs.Shown.{events_of-keep}
use Rattle.lane_scan.specs.declared.hits.Hit.{Hit}
use Rattle.lane_scan.specs.Rows.{is_selected, selected}
use Rattle.temporal_reach.specs.Mirrors.{IsRowOf, Mirrors, history_times}
use Rattle.temporal_reach.proofs.Mirrored.{time_of}

-- ---- lists

-- the images that pass a test are those of the items whose images do
pub map-filter : {X Y : Type 0} (f : X → Y) (p : Y → Bool) (xs : List X) → map f (filter (λ x. p (f x)) xs) ≡ filter p (map f xs)
map-filter f p [] = refl
map-filter f p (x ∷ xs) =
    (elim (p (f x)) as (λ t. map f (cond t (x ∷ filter (λ z. p (f z)) xs) (filter (λ z. p (f z)) xs)) ≡ cond t (f x ∷ map f (filter (λ z. p (f z)) xs)) (map f (filter (λ z. p (f z)) xs))) [ true ↦ refl | false ↦ refl ])
    ∙ ap (λ l. cond (p (f x)) (f x ∷ l) l) (map-filter f p xs)

-- a test joined to one that is known
and_true : (a : Bool) → a ≡ (a && true)
and_true true = refl
and_true false = refl

pub and_false : (a : Bool) → (a && false) ≡ false
and_false true = refl
and_false false = refl

-- a test that is the same for all of a list is made once
map-filter_all : {X Y : Type 0} (f : X → Y) (p : Y → Bool) (b : Bool) (xs : List X) → map f (cond b (filter (λ x. p (f x)) xs) []) ≡ filter (λ y. p y && b) (map f xs)
map-filter_all f p true xs = map-filter f p xs ∙ filter_agree p (λ y. p y && true) (λ y. and_true (p y)) (map f xs)
map-filter_all f p false xs = sym (filter_none (λ y. p y && false) (map f xs) (each_any (λ y. (p y && false) ≡ false) (λ y. and_false (p y)) (map f xs)))

-- items in order are the items in another order
module _ {X : Type 0} (cmp : X → X → Ordering) where
  put-permutation : (x : X) (ys : List X) → IsPermutation (x ∷ ys) (put_in_order cmp x ys)
  put-permutation x [] = IsPermutation-refl (x ∷ [])
  put-permutation x (y ∷ ys) =
      cond_both (is_gt (cmp x y)) (y ∷ put_in_order cmp x ys) (x ∷ y ∷ ys) (IsPermutation (x ∷ y ∷ ys))
      (λ e. IsPermutation-trans (x ∷ y ∷ ys) (y ∷ x ∷ ys) (y ∷ put_in_order cmp x ys) (IsPermutation-middle (x ∷ []) y ys) (IsPermutation-cons y (x ∷ ys) (put_in_order cmp x ys) (put-permutation x ys)))
      (λ e. IsPermutation-refl (x ∷ y ∷ ys))

  pub in_order-permutation : (xs : List X) → IsPermutation xs (in_order cmp xs)
  in_order-permutation [] = IsPermutation-refl []
  in_order-permutation (x ∷ xs) =
      IsPermutation-trans (x ∷ xs) (x ∷ in_order cmp xs) (put_in_order cmp x (in_order cmp xs))
      (IsPermutation-cons x xs (in_order cmp xs) (in_order-permutation xs)) (put-permutation x (in_order cmp xs))

-- ---- the entity that a row names

abbrev pub row_entity : Contents → Hit → Entity
row_entity c row = cond (row.code == 64) (node_at c row.number) (edge_at c row.number)

-- a node or an edge of a store
abbrev pub IsOf : Contents → Entity → Type 0
IsOf c x = ((n : ℕ) × (n < length c.nodes) × (node_at c n ≡ x)) ⊎ ((e : ℕ) × (e < length c.edges) × (edge_at c e ≡ x))

pub of_known : (c : Contents) (x : Entity) → knows c x ≡ true → IsOf c x
of_known c (Node name) h = let r = any_place (same_name name) c.nodes [] h in inl (r.0, r.1, ap Node (sym (same_name-exact name (name_at c.nodes r.0) r.2)))
of_known c (Edge edge) h = let r = edge_number c edge h in inr (r.0, r.1, ap Edge r.2)

-- a time is inside a part of an interval in which it is where it is inside the bounds of the part
pub inside_cut : (i : Interval) (lo hi t : ℤ) → is_inside i t ≡ true → is_inside (cut i lo hi) t ≡ is_inside (record { lo = lo; hi = hi }) t
inside_cut i lo hi t h =
    let above = inside_lo i t h in
    let below = inside_hi i t h in
    both_true (is_inside (cut i lo hi) t) (is_inside (record { lo = lo; hi = hi }) t)
    (λ k. let a = inside_lo (cut i lo hi) t k in let b = inside_hi (cut i lo hi) t k in inside_test (record { lo = lo; hi = hi }) t (omega (arith, ints, clamps, a, b, above, below)) (omega (arith, ints, clamps, a, b, above, below)))
    (λ k. let a = inside_lo (record { lo = lo; hi = hi }) t k in let b = inside_hi (record { lo = lo; hi = hi }) t k in inside_test (cut i lo hi) t (omega (arith, ints, clamps, a, b, above, below)) (omega (arith, ints, clamps, a, b, above, below)))

module _ (c : Contents) (shown : IsShown c (base_of c)) where
  pub layer_fits : (e : ℕ) → e < length c.edges → (parts_at c.edges e).layer < 64
  layer_fits e below = let within = (shown.indexed.within e below).2 in let few = shown.few_layers in omega (arith, within, few)

  -- a row of an edge has a code below 64
  pub edge_code : (row : Hit) → row.number < length c.edges → row.code ≡ (parts_at c.edges row.number).layer → row.code < 64
  edge_code row below is = let fits = layer_fits row.number below in omega (arith, is, fits)

  not_node : (n : ℕ) → n < 64 → (n == 64) ≡ false
  not_node n below = grind (arith, nat_tests, below)

  is_low : (n : ℕ) → n < 64 → nat_lt n 64 ≡ true
  is_low n below = grind (arith, nat_tests, below)

  not_low : (n : ℕ) → n ≡ 64 → nat_lt n 64 ≡ false
  not_low n is = grind (arith, nat_tests, is)

  of_node : (row : Hit) → row.code ≡ 64 → row_entity c row ≡ node_at c row.number
  of_node row is = cond-true (row.code == 64) (node_at c row.number) (edge_at c row.number) (eq-eqb row.code 64 is)

  of_edge : (row : Hit) → row.code < 64 → row_entity c row ≡ edge_at c row.number
  of_edge row below = cond-false (row.code == 64) (node_at c row.number) (edge_at c row.number) (not_node row.code below)

  pub row_known : (row : Hit) → IsRowOf c row → IsOf c (row_entity c row)
  row_known row (inl h) = inl (row.number, h.1, sym (of_node row h.0))
  row_known row (inr h) = inr (row.number, h.0, sym (of_edge row (edge_code row h.0 h.1)))

  -- a number is an entity's where it is the entity's number
  same_numbered : (f : ℕ → Entity) (n m : ℕ) → (f n ≡ f m → n ≡ m) → same_entity (f n) (f m) ≡ (m == n)
  same_numbered f n m apart =
      both_true (same_entity (f n) (f m)) (m == n)
      (λ s. eq-eqb m n (sym (apart (same_entity-exact (f n) (f m) s))))
      (λ s. subst (λ k. same_entity (f n) (f k) ≡ true) (sym (eqb-true m n s)) (same_entity-refl (f n)))

  -- the rows of a node have its number and the code 64, and those of an edge its number and a code below
  node_test : (n : ℕ) → n < length c.nodes → (row : Hit) → IsRowOf c row → same_entity (node_at c n) (row_entity c row) ≡ (row.code == 64 && row.number == n)
  node_test n below row (inl h) =
      ap (same_entity (node_at c n)) (of_node row h.0)
      ∙ (same_numbered (node_at c) n row.number (nodes_apart c shown.indexed n row.number below h.1)
      ∙ sym (ap (λ t. t && row.number == n) (eq-eqb row.code 64 h.0)))
  node_test n below row (inr h) =
      let code = edge_code row h.0 h.1 in
      ap (same_entity (node_at c n)) (of_edge row code) ∙ sym (ap (λ t. t && row.number == n) (not_node row.code code))

  edge_test : (e : ℕ) → e < length c.edges → (row : Hit) → IsRowOf c row → same_entity (edge_at c e) (row_entity c row) ≡ (nat_lt row.code 64 && row.number == e)
  edge_test e below row (inl h) = ap (same_entity (edge_at c e)) (of_node row h.0) ∙ sym (ap (λ t. t && row.number == e) (not_low row.code h.0))
  edge_test e below row (inr h) =
      let code = edge_code row h.0 h.1 in
      ap (same_entity (edge_at c e)) (of_edge row code)
      ∙ (same_numbered (edge_at c) e row.number (edges_apart c shown.indexed e row.number below h.0)
      ∙ sym (ap (λ t. t && row.number == e) (is_low row.code code)))

  -- ---- the times of an entity's rows

  abbrev pub entity_times : List Hit → Entity → List ℤ
  entity_times rows x = map (λ (row : Hit). row.time) (filter (λ (row : Hit). same_entity x (row_entity c row)) rows)

  entity_rows : (rows : List Hit) (x : Entity) (p q : Hit → Bool) → AllByRecursion (IsRowOf c) rows → ((row : Hit) → IsRowOf c row → same_entity x (row_entity c row) ≡ (p row && q row)) → map (λ (row : Hit). row.time) (filter q (filter p rows)) ≡ entity_times rows x
  entity_rows rows x p q h test =
      ap (map (λ (row : Hit). row.time)) (filter_both p q rows ∙ sym (filter_same (λ (row : Hit). same_entity x (row_entity c row)) (λ row. p row && q row) rows (each_weaker (IsRowOf c) (λ (row : Hit). same_entity x (row_entity c row) ≡ (p row && q row)) test rows h)))

  -- the times of the rows that name an entity, arranged to rise, are those of its history
  pub mirrored : (rows : List Hit) → Mirrors rows c → (x : Entity) → IsOf c x → in_order int_cmp (entity_times rows x) ≡ history_times c x
  mirrored rows m x (inl k) = subst (λ y. in_order int_cmp (entity_times rows y) ≡ history_times c y) k.2
      (ap (in_order int_cmp) (sym (entity_rows rows (node_at c k.0) (λ row. row.code == 64) (λ row. row.number == k.0) (recursion_from_All (IsRowOf c) rows m.rows) (node_test k.0 k.1))) ∙ m.nodes k.0 k.1)
  mirrored rows m x (inr k) = subst (λ y. in_order int_cmp (entity_times rows y) ≡ history_times c y) k.2
      (ap (in_order int_cmp) (sym (entity_rows rows (edge_at c k.0) (λ row. nat_lt row.code 64) (λ row. row.number == k.0) (recursion_from_All (IsRowOf c) rows m.rows) (edge_test k.0 k.1))) ∙ m.edges k.0 k.1)

  module _ (lo hi : ℤ) (mask : ℕ) where
    -- whether a question asks for an entity at a time
    abbrev pub asks : Entity → ℤ → Bool
    asks x t = is_inside (record { lo = lo; hi = hi }) t && in_layers (layers_numbered c mask) x

    -- the bit of a row's code says whether its entity is kept
    bit_of : has_bit mask 64 ≡ true → (row : Hit) → IsRowOf c row → has_bit mask row.code ≡ in_layers (layers_numbered c mask) (row_entity c row)
    bit_of nodes row (inl h) = ap (has_bit mask) h.0 ∙ (nodes ∙ sym (ap (in_layers (layers_numbered c mask)) (of_node row h.0)))
    bit_of nodes row (inr h) =
        ap (has_bit mask) h.1
        ∙ (sym (layer_keeps c mask row.number shown.indexed h.0) ∙ sym (ap (in_layers (layers_numbered c mask)) (of_edge row (edge_code row h.0 h.1))))

    -- the selected rows of an entity have those of its times for which the question asks
    pub selected_times : has_bit mask 64 ≡ true → (rows : List Hit) → AllByRecursion (IsRowOf c) rows → (x : Entity) → entity_times (selected lo hi mask rows) x ≡ filter (asks x) (entity_times rows x)
    selected_times nodes rows h x =
        let own : Hit → Bool = λ row. same_entity x (row_entity c row) in
        let some = filter own rows in
        ap (map (λ (row : Hit). row.time)) (filter_comm (is_selected lo hi mask) own rows
        ∙ filter_same (is_selected lo hi mask) (λ row. asks x row.time) some
        (each_two (λ row. own row ≡ true) (IsRowOf c) (λ row. is_selected lo hi mask row ≡ asks x row.time)
        (λ row s k. ap (λ t. is_inside (record { lo = lo; hi = hi }) row.time && t) (bit_of nodes row k ∙ ap (in_layers (layers_numbered c mask)) (sym (same_entity-exact x (row_entity c row) s))))
        some (kept_pass own rows) (each_kept (IsRowOf c) own rows h)))
        ∙ map-filter (λ (row : Hit). row.time) (asks x) some

    -- and so have its events in the world of a window and layers
    pub world_times : c.model ≡ Instants → (x : Entity) → map time_of (events_of (layer_world c mask (window (base_of c) lo hi)) x) ≡ filter (asks x) (history_times c x)
    world_times model x =
        let i = cut c.bounds lo hi in
        let own = events_of (base_of c) x in
        let kept = in_layers (layers_numbered c mask) x in
        let inside : AllByRecursion (λ (y : Event). is_inside c.bounds y.time ≡ true) own = each_kept (λ (y : Event). is_inside c.bounds y.time ≡ true) (is_about x) (base_of c).events (each_passes (λ (y : Event). is_inside c.bounds y.time) (base_of c).events shown.lawful.inside) in
        let seen : events_of (window (base_of c) lo hi) x ≡ filter (λ (y : Event). is_inside (record { lo = lo; hi = hi }) y.time) own =
        events_of-window (base_of c) lo hi x shown.lawful
        ∙ (ap (λ (m : Model). clip_list m i own) model
        ∙ filter_same (is_within i) (λ (y : Event). is_inside (record { lo = lo; hi = hi }) y.time) own (each_weaker (λ (y : Event). is_inside c.bounds y.time ≡ true) (λ (y : Event). is_within i y ≡ is_inside (record { lo = lo; hi = hi }) y.time) (λ y k. inside_cut c.bounds lo hi y.time k) own inside)) in
        ap (map time_of) (events_of-keep (in_layers (layers_numbered c mask)) (window (base_of c) lo hi) x ∙ ap (λ zs. cond kept zs []) seen)
        ∙ map-filter_all time_of (is_inside (record { lo = lo; hi = hi })) kept own

    -- so the selected rows of an entity have the times of its events there
    pub same_times : c.model ≡ Instants → has_bit mask 64 ≡ true → (rows : List Hit) → Mirrors rows c → (x : Entity) → IsOf c x
        → IsPermutation (entity_times (selected lo hi mask rows) x) (map time_of (events_of (layer_world c mask (window (base_of c) lo hi)) x))
    same_times model nodes rows m x k =
        let some = filter (asks x) (entity_times rows x) in
        let there : in_order int_cmp some ≡ map time_of (events_of (layer_world c mask (window (base_of c) lo hi)) x) =
        sym (filter_in_order int_cmp int_cmp_total (asks x) (entity_times rows x)) ∙ (ap (filter (asks x)) (mirrored rows m x k) ∙ sym (world_times model x)) in
        subst (λ ts. IsPermutation ts (map time_of (events_of (layer_world c mask (window (base_of c) lo hi)) x))) (sym (selected_times nodes rows (recursion_from_All (IsRowOf c) rows m.rows) x))
        (subst (IsPermutation some) there (in_order-permutation int_cmp some))
