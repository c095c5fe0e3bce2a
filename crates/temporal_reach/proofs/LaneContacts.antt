-- The selected rows of edges are the contacts of a world of a window and layers.
use Rattle.std.proofs.Common.{◌≡◌, ◌<◌, ℕ, ℤ, Bool, true, false, not, ◌&&◌, ◌||◌, List, [], ◌∷◌, get_or, length, map, refl, sym, ◌∙◌, ap, subst, arith, inl, inr}
use Rattle.std.specs.Prelude.{◌==◌, nat_lt}
use Rattle.std.specs.List.{AllByRecursion, Contains, filter, list_any}
use Rattle.std.specs.Ordering.{int_cmp, int_eq}
use Rattle.std.proofs.lemmas.Bool.{and_from, and_parts, eq-eqb, eqb-true, lt-ltb, ltb-true}
use Rattle.std.proofs.lemmas.Int.{ints}
use Rattle.std.proofs.lemmas.List.Elements.{All-contains, All-from_recursion, Contains-get_or, recursion_from_All}
use Rattle.graph_model.specs.declared.events.EdgeName.{EdgeName}
use Rattle.graph_model.specs.declared.events.Entity.TheVariants.{Edge}
use Rattle.graph_model.specs.declared.events.Event.{Event}
use Rattle.graph_model.specs.declared.events.Model.TheVariants.{Event as Instants}
use Rattle.graph_model.specs.declared.events.What.{What}
use Rattle.graph_model.specs.declared.events.What.TheVariants.{Node as Update, Add, Delete}
use Rattle.graph_model.specs.Entity.{adds, deletes, is_about, is_addition, same_entity, subject}
use Rattle.graph_model.specs.Interval.{is_inside}
use Rattle.graph_model.specs.Presence.{IsContact, alive_at, lives_at}
use Rattle.graph_model.specs.Window.{window}
use Rattle.graph_model.specs.World.{World, allows, events_of}
use Rattle.world_laws.proofs.Answers.{any_contained}
use Rattle.world_laws.proofs.Filters.{each_kept, each_two, each_weaker, kept_pass}
use Rattle.world_laws.proofs.Lawful.{each_passes}
use Rattle.world_laws.proofs.ListItems.{any_map}
use Rattle.world_laws.proofs.Members.{any_filter}
use Rattle.world_laws.proofs.RisingFixed.{any_in_order}
use Rattle.graph_store.specs.Contents.{Contents, base_of}
use Rattle.graph_store.specs.EdgeParts.{parts_at}
use Rattle.view_trait.specs.Meaning.{IsShown, edge_at, edge_named}
use Rattle.view_trait.specs.Numbered.{has_bit, layer_world, layers_numbered}
use Rattle.view_trait.proofs.Kept.{layer_keeps}
use Rattle.view_trait.proofs.Pairs.{any_place}
use Rattle.view_trait.proofs.Shown.{IsShown-keep, IsShown-window}
use Rattle.graph_model.specs.Keep.{in_layers}
use Rattle.lane_scan.specs.declared.hits.Hit.{Hit}
use Rattle.lane_scan.specs.Rows.{is_selected, selected}
use Rattle.temporal_reach.specs.Mirrors.{IsRowOf, Mirrors, edge_rows, history_times, times_of}
use Rattle.temporal_reach.proofs.Mirrored.{time_of}
use Rattle.temporal_reach.proofs.LaneTimes.{and_false, asks, world_times}

-- an event of an edge that is no deletion is an addition
adds_edge : (edge : EdgeName) (what : What) → same_entity (Edge edge) (subject what) ≡ true → not (deletes what) ≡ true → adds what ≡ true
adds_edge edge (Update name props) h k = absurd (let no : false ≡ true = h in cc)
adds_edge edge (Add other props) h k = refl
adds_edge edge (Delete other) h k = absurd (let no : false ≡ true = k in cc)

-- tests that agree at each item of a list pass some alike
any_agree : {X : Type 0} (p q : X → Bool) (xs : List X) → AllByRecursion (λ x. p x ≡ q x) xs → list_any p xs ≡ list_any q xs
any_agree p q [] h = refl
any_agree p q (x ∷ xs) h = ap (λ t. t || list_any p xs) h.0 ∙ ap (λ t. q x || t) (any_agree p q xs h.1)

-- the parts of a test of a row of an edge, in another order
reordered : (l n i b h q : Bool) → (l ≡ true → n ≡ true → b ≡ h) → (l && (n && ((i && b) && q))) ≡ ((i && h) && ((l && n) && q))
reordered true true i b h q f = ap (λ z. (i && z) && q) (f refl refl)
reordered true false i b h q f = sym (and_false (i && h))
reordered false n i b h q f = sym (and_false (i && h))

same_time : (s t : ℤ) → int_eq s t ≡ true → s ≡ t
same_time s t h = grind (arith, ints, h)

own_time : (t : ℤ) → int_eq t t ≡ true
own_time t = grind (arith, ints)

module _ (c : Contents) (rows : List Hit) (lo hi : ℤ) (mask : ℕ) (model : c.model ≡ Instants) (shown : IsShown c (base_of c)) (m : Mirrors rows c) where
  abbrev lanes : World
  lanes = layer_world c mask (window (base_of c) lo hi)

  -- whether a row is of an edge at a time
  abbrev is_hit : ℕ → ℤ → Hit → Bool
  is_hit e t row = (nat_lt row.code 64 && row.number == e) && int_eq row.time t

  -- an edge is alive in the event model at the times of its events
  alive_by_times : (e : ℕ) (t : ℤ) → alive_at lanes (edge_named c e) t ≡ list_any (λ s. int_eq s t) (map time_of (events_of lanes (edge_at c e)))
  alive_by_times e t =
      let own = events_of lanes (edge_at c e) in
      let allowed : AllByRecursion (λ (x : Event). allows lanes.model x ≡ true) own = each_kept (λ (x : Event). allows lanes.model x ≡ true) (is_about (edge_at c e)) lanes.events
      (each_passes (allows lanes.model) lanes.events (IsShown-keep (in_layers (layers_numbered c mask)) c (window (base_of c) lo hi) (IsShown-window c (base_of c) lo hi shown)).lawful.allowed) in
      ap (λ k. lives_at k lanes.bounds own t) model
      ∙ (any_agree (λ (x : Event). is_addition x && int_eq x.time t) (λ (x : Event). int_eq x.time t) own
      (each_two (λ (x : Event). is_about (edge_at c e) x ≡ true) (λ (x : Event). allows lanes.model x ≡ true) (λ (x : Event). (is_addition x && int_eq x.time t) ≡ int_eq x.time t)
      (λ x a k. ap (λ b. b && int_eq x.time t) (adds_edge (edge_named c e) x.what a (sym (ap (λ j. allows j x) model) ∙ k)))
      own (kept_pass (is_about (edge_at c e)) lanes.events) allowed)
      ∙ sym (any_map (λ s. int_eq s t) time_of own))

  -- a row of an edge is selected where its time is inside and its layer has its bit
  row_bits : (e : ℕ) (t : ℤ) → e < length c.edges → (row : Hit) → IsRowOf c row
      → (nat_lt row.code 64 && (row.number == e && (asks c shown lo hi mask (edge_at c e) row.time && int_eq row.time t))) ≡ (is_selected lo hi mask row && is_hit e t row)
  row_bits e t below row h = reordered (nat_lt row.code 64) (row.number == e) (is_inside (record { lo = lo; hi = hi }) row.time) (in_layers (layers_numbered c mask) (edge_at c e)) (has_bit mask row.code) (int_eq row.time t) (bit h)
    where
      bit : IsRowOf c row → nat_lt row.code 64 ≡ true → (row.number == e) ≡ true → in_layers (layers_numbered c mask) (edge_at c e) ≡ has_bit mask row.code
      bit (inl k) l n = absurd (let low = ltb-true row.code 64 l in let is = k.0 in omega (arith, low, is))
      bit (inr k) l n = layer_keeps c mask e shown.indexed below ∙ ap (has_bit mask) (sym (k.1 ∙ ap (λ i. (parts_at c.edges i).layer) (eqb-true row.number e n)))

  -- so an edge is alive at the times of its selected rows
  alive_by_rows : (e : ℕ) (t : ℤ) → e < length c.edges → alive_at lanes (edge_named c e) t ≡ list_any (is_hit e t) (selected lo hi mask rows)
  alive_by_rows e t below =
      let x = edge_at c e in
      let at : ℤ → Bool = λ s. int_eq s t in
      let both : ℤ → Bool = λ s. asks c shown lo hi mask x s && int_eq s t in
      alive_by_times e t
      ∙ (ap (list_any at) (world_times c shown lo hi mask model x)
      ∙ (any_filter (asks c shown lo hi mask x) at (history_times c x)
      ∙ (ap (list_any both) (sym (m.edges e below))
      ∙ (any_in_order int_cmp both (times_of (edge_rows rows) e)
      ∙ (any_map both (λ (row : Hit). row.time) (filter (λ (row : Hit). row.number == e) (edge_rows rows))
      ∙ (any_filter (λ (row : Hit). row.number == e) (λ (row : Hit). both row.time) (edge_rows rows)
      ∙ (any_filter (λ (row : Hit). nat_lt row.code 64) (λ (row : Hit). row.number == e && both row.time) rows
      ∙ (any_agree (λ (row : Hit). nat_lt row.code 64 && (row.number == e && both row.time)) (λ (row : Hit). is_selected lo hi mask row && is_hit e t row) rows
      (each_weaker (IsRowOf c) (λ (row : Hit). (nat_lt row.code 64 && (row.number == e && both row.time)) ≡ (is_selected lo hi mask row && is_hit e t row)) (row_bits e t below) rows (recursion_from_All (IsRowOf c) rows m.rows))
      ∙ sym (any_filter (is_selected lo hi mask) (is_hit e t) rows)))))))))

  row_of : (row : Hit) → Contains (selected lo hi mask rows) row → IsRowOf c row
  row_of row h = All-contains (IsRowOf c) (selected lo hi mask rows) row (All-from_recursion (IsRowOf c) (selected lo hi mask rows) (each_kept (IsRowOf c) (is_selected lo hi mask) rows (recursion_from_All (IsRowOf c) rows m.rows))) h

  edge_of : (row : Hit) → IsRowOf c row → row.code < 64 → row.number < length c.edges
  edge_of row (inl h) low = absurd (let is = h.0 in omega (arith, low, is))
  edge_of row (inr h) low = h.0

  -- a selected row of an edge is a contact of it
  pub hit_is_contact : (row : Hit) → Contains (selected lo hi mask rows) row → row.code < 64
      → (row.number < length c.edges) × IsContact (layer_world c mask (window (base_of c) lo hi)) (edge_named c row.number) row.time
  hit_is_contact row h low =
      let below = edge_of row (row_of row h) low in (
        below,
        alive_by_rows row.number row.time below ∙ any_contained (is_hit row.number row.time) (selected lo hi mask rows) row h
            (and_from (nat_lt row.code 64 && row.number == row.number) (int_eq row.time row.time) (and_from (nat_lt row.code 64) (row.number == row.number) (lt-ltb row.code 64 low) (eq-eqb row.number row.number refl)) (own_time row.time)),
      )

  layer_of : (row : Hit) → IsRowOf c row → row.code < 64 → row.code ≡ (parts_at c.edges row.number).layer
  layer_of row (inl h) low = absurd (let is = h.0 in omega (arith, low, is))
  layer_of row (inr h) low = h.1

  -- and each contact has a selected row
  pub contact_has_hit : (e : ℕ) (t : ℤ) → e < length c.edges → IsContact (layer_world c mask (window (base_of c) lo hi)) (edge_named c e) t
      → Contains (selected lo hi mask rows) (record { time = t; code = (parts_at c.edges e).layer; number = e })
  contact_has_hit e t below h =
      let some = selected lo hi mask rows in
      let none : Hit = record { time = t; code = 0; number = 0 } in
      let place = any_place (is_hit e t) some none (sym (alive_by_rows e t below) ∙ h) in
      let row = get_or some place.0 none in
      let there : Contains some row = Contains-get_or some place.0 none place.1 in
      let parts = and_parts (nat_lt row.code 64 && row.number == e) (int_eq row.time t) place.2 in
      let own = and_parts (nat_lt row.code 64) (row.number == e) parts.0 in
      let number : row.number ≡ e = eqb-true row.number e own.1 in
      let time : row.time ≡ t = same_time row.time t parts.1 in
      let code : row.code ≡ (parts_at c.edges e).layer = layer_of row (row_of row there) (ltb-true row.code 64 own.0) ∙ ap (λ i. (parts_at c.edges i).layer) number in
      let is : row ≡ record { time = t; code = (parts_at c.edges e).layer; number = e } = (λ k. record { time = time k; code = code k; number = number k }) in
      subst (Contains some) is there
