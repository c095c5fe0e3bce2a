-- The value of a key in a span.
use Rattle.std.proofs.Common.{◌≡◌, ℕ, ◌+◌, ◌-◌, ◌<◌, ◌≤◌, ◌==◌, ℤ, Bool, true, false, ◌||◌, List, [], ◌∷◌, ◌++◌, Option, Some, None, option_map, cond, map, length, take, slice_range, refl, sym, ◌∙◌, ap, subst, arith}
use Rattle.std.specs.List.{find, list_any, filter_map, cons_option, last_or, AllByRecursion}
use Rattle.std.proofs.lemmas.Bool.{cond-true, cond-false}
use Rattle.std.proofs.lemmas.Bool.Decides.{nat_tests}
use Rattle.std.proofs.lemmas.List.Elements.{recursion_from_All, filter_map-append}
use Rattle.graph_model.specs.declared.properties.Value.{Value}
use Rattle.graph_model.specs.declared.events.Entity.{Entity}
use Rattle.graph_model.specs.declared.events.Entity.TheVariants.{Node, Edge}
use Rattle.graph_model.specs.declared.events.Event.{Event}
use Rattle.graph_model.specs.Names.{same_name}
use Rattle.graph_model.specs.Entity.{is_deletion, props_of, what_props}
use Rattle.graph_model.specs.Props.{prop_value}
use Rattle.graph_model.specs.Compare.{live_events, last_value, value_of}
use Rattle.graph_model.specs.Window.{carried_events}
use Rattle.world_laws.proofs.Order.{same_name-refl, same_name-other}
use Rattle.world_laws.proofs.Distinct.{Distinct, Distinct-put_prop, any-put_prop, value-put_prop, last_or-append, value_of-carried_events}
use Rattle.world_laws.proofs.Live.{live_events-append, live_all}
use Rattle.world_laws.proofs.ListItems.{no_images}
use Rattle.world_laws.proofs.Named.{none_pass}
use Rattle.time_history.specs.declared.updates.Kind.{Kind}
use Rattle.time_history.specs.declared.updates.Kind.TheVariants.{Node as OfNode, Add, Delete}
use Rattle.time_history.specs.declared.updates.Update.{Update}
use Rattle.time_history.specs.declared.span.Span.{Span}
use Rattle.time_history.specs.KeyValues.{KeyNumbersRise, value_at_key}
use Rattle.time_history.specs.Kinds.{is_delete}
use Rattle.time_history.specs.Updates.{update_at, no_update, ValuesRise}
use Rattle.time_history.specs.Telling.{event_told, events_told, what_told, with_key_names, Fits}
use Rattle.time_history.specs.Spans.{IsSpan, spelled}
use Rattle.time_history.specs.Asked.{AreNamed, IsValueIn, IsValue}
use Rattle.time_history.proofs.Segments.{slice_split, take_split, slice_map, each_told}
use Rattle.time_history.proofs.Clips.{deletes-told}
use Rattle.time_history.proofs.Alive.{slice_one}

value_at_key-more : (key : ℕ) (p : ℕ × Value) (ps : List (ℕ × Value)) → value_at_key key (p ∷ ps) ≡ cond (p.0 == key) (Some p.1) (value_at_key key ps)
value_at_key-more key p ps = elim (p.0 == key) as (λ t. option_map (λ (q : ℕ × Value). q.1) (cond t (Some p) (find (λ (q : ℕ × Value). q.0 == key) ps)) ≡ cond t (Some p.1) (value_at_key key ps)) [ true ↦ refl | false ↦ refl ]

module _ (names : ℕ → List ℕ) (n : ℕ) (apart : (i j : ℕ) → i < n → j < n → names i ≡ names j → i ≡ j) where
  -- a key that is not there has a name that is not there
  absent : (k : ℕ) → k < n → (ps : List (ℕ × Value)) → AllByRecursion (λ (p : ℕ × Value). p.0 < n) ps → AllByRecursion (λ (p : ℕ × Value). k < p.0) ps → list_any (λ (q : List ℕ × Value). same_name (names k) q.0) (with_key_names names ps) ≡ false
  absent k lt [] b h = refl
  absent k lt (p ∷ ps) b h =
      let less = h.0 in
      any-put_prop (λ (q : List ℕ × Value). same_name (names k) q.0) (names p.0, p.1) (with_key_names names ps)
      ∙ (λ i. same_name-other (names k) (names p.0) (λ e. differ k p.0 less (apart k p.0 lt b.0 e)) i || absent k lt ps b.1 h.1 i)
    where
      differ : (i j : ℕ) → i < j → i ≡ j → ⊥
      differ i j h e = omega arith

  distinct_named : (ps : List (ℕ × Value)) → AllByRecursion (λ (p : ℕ × Value). p.0 < n) ps → KeyNumbersRise ps → Distinct (with_key_names names ps)
  distinct_named [] b h = tt
  distinct_named (p ∷ ps) b h = Distinct-put_prop (names p.0, p.1) (with_key_names names ps) (absent p.0 b.0 ps b.1 h.0) (distinct_named ps b.1 h.1)

  -- a key is found by its name
  value_named : (key : ℕ) → key < n → (ps : List (ℕ × Value)) → AllByRecursion (λ (p : ℕ × Value). p.0 < n) ps → KeyNumbersRise ps → prop_value (names key) (with_key_names names ps) ≡ value_at_key key ps
  value_named key lt [] b h = refl
  value_named key lt (p ∷ ps) b h =
      value-put_prop (names key) (names p.0, p.1) (with_key_names names ps) (absent p.0 b.0 ps b.1 h.0)
      ∙ ((λ i. cond (same_key (p.0 == key) refl i) (Some p.1) (value_named key lt ps b.1 h.1 i)) ∙ sym (value_at_key-more key p ps))
    where
      same_key : (t : Bool) → t ≡ (p.0 == key) → same_name (names key) (names p.0) ≡ (p.0 == key)
      same_key true e = let q : p.0 ≡ key = grind (arith, nat_tests) in ap (λ k. same_name (names key) (names k)) q ∙ (same_name-refl (names key) ∙ e)
      same_key false e = same_name-other (names key) (names p.0) (λ r. other (apart key p.0 lt b.0 r)) ∙ e
        where
          other : key ≡ p.0 → ⊥
          other r = grind (arith, nat_tests)

props-told : (entity : Entity) (kind : Kind) (ps : List (List ℕ × Value)) → is_delete kind ≡ false → what_props (what_told entity kind ps) ≡ ps
props-told (Node name) kind ps h = refl
props-told (Edge edge) OfNode ps h = refl
props-told (Edge edge) Add ps h = refl
props-told (Edge edge) Delete ps h = cc

distinct_told : (entity : Entity) (kind : Kind) (ps : List (List ℕ × Value)) → Distinct ps → Distinct (what_props (what_told entity kind ps))
distinct_told (Node name) kind ps h = h
distinct_told (Edge edge) OfNode ps h = h
distinct_told (Edge edge) Add ps h = h
distinct_told (Edge edge) Delete ps h = tt

module _ (entity : Entity) (names : ℕ → List ℕ) (us : List Update) (n key : ℕ) (fit : Fits entity us) (are : AreNamed names n us) (lt : key < n) (rise : ValuesRise us) where
  v : Event → Option Value
  v x = prop_value (names key) (props_of x)

  below_at : (k : ℕ) → k < length us → AllByRecursion (λ (p : ℕ × Value). p.0 < n) (update_at us k).props
  below_at k h = recursion_from_All (λ (p : ℕ × Value). p.0 < n) (update_at us k).props (are.below k no_update h)

  distinct_at : (k : ℕ) → k < length us → Distinct (props_of (event_told entity names (update_at us k)))
  distinct_at k h = distinct_told entity (update_at us k).kind (with_key_names names (update_at us k).props) (distinct_named names n are.apart (update_at us k).props (below_at k h) (rise k no_update h))

  -- what an update that is no deletion says of the key
  value_at : (k : ℕ) → k < length us → is_delete (update_at us k).kind ≡ false → prop_value (names key) (props_of (event_told entity names (update_at us k))) ≡ value_at_key key (update_at us k).props
  value_at k h kept = ap (prop_value (names key)) (props-told entity (update_at us k).kind (with_key_names names (update_at us k).props) kept) ∙ value_named names n are.apart key lt (update_at us k).props (below_at k h) (rise k no_update h)

  undeleted_at : (k : ℕ) → k < length us → (b : Bool) → is_delete (update_at us k).kind ≡ b → is_deletion (event_told entity names (update_at us k)) ≡ b
  undeleted_at k h b e = deletes-told entity (update_at us k).kind (with_key_names names (update_at us k).props) (fit k no_update h) ∙ e

  first_of : (i to : ℕ) → i < to → to ≤ length us → slice_range (events_told entity names us) i to ≡ event_told entity names (update_at us i) ∷ slice_range (events_told entity names us) (i + 1) to
  first_of i to h le = slice_split (events_told entity names us) i (i + 1) to (omega arith) (omega arith) ∙ ap (λ ys. ys ++ slice_range (events_told entity names us) (i + 1) to) (slice_map (event_told entity names) us i (i + 1) ∙ ap (map (event_told entity names)) (slice_one us i (omega arith)))

  module _ (i to : ℕ) (le : to ≤ length us) (kept : (k : ℕ) → i ≤ k → k < to → is_delete (update_at us k).kind ≡ false) (without : (k : ℕ) → i ≤ k → k < to → value_at_key key (update_at us k).props ≡ None) where
    no_deletion : list_any is_deletion (slice_range (events_told entity names us) i to) ≡ false
    no_deletion = none_pass is_deletion (slice_range (events_told entity names us) i to) (each_told entity names us (λ x. is_deletion x ≡ false) i to le (λ k a b. undeleted_at k (omega arith) false (kept k a b)))

    no_value : filter_map (λ x. prop_value (names key) (props_of x)) (slice_range (events_told entity names us) i to) ≡ []
    no_value = no_images (λ x. prop_value (names key) (props_of x)) (slice_range (events_told entity names us) i to) (each_told entity names us (λ x. prop_value (names key) (props_of x) ≡ None) i to le (λ k a b. value_at k (omega arith) (kept k a b) ∙ without k a b))

    -- no update has the key
    value_nowhere : value_of (names key) (slice_range (events_told entity names us) i to) ≡ None
    value_nowhere = ap (last_value (names key)) (live_all (slice_range (events_told entity names us) i to) no_deletion) ∙ ap (last_or None) no_value

  module _ (start i to : ℕ) (le : to ≤ length us) (from : start ≤ i) (here : i < to) (kept : (k : ℕ) → i + 1 ≤ k → k < to → is_delete (update_at us k).kind ≡ false) (without : (k : ℕ) → i + 1 ≤ k → k < to → value_at_key key (update_at us k).props ≡ None) where
    parts : slice_range (events_told entity names us) start to ≡ slice_range (events_told entity names us) start i ++ event_told entity names (update_at us i) ∷ slice_range (events_told entity names us) (i + 1) to
    parts = slice_split (events_told entity names us) start i to from (omega arith) ∙ ap (λ ys. slice_range (events_told entity names us) start i ++ ys) (first_of i to here le)

    -- an update at i is a deletion, and none after it has the key
    value_deleted : is_delete (update_at us i).kind ≡ true → value_of (names key) (slice_range (events_told entity names us) start to) ≡ None
    value_deleted h =
        let x = event_told entity names (update_at us i) in
        let front = slice_range (events_told entity names us) start i in
        let rest = slice_range (events_told entity names us) (i + 1) to in
        let deleted : list_any is_deletion (x ∷ rest) ≡ true = ap (λ b. b || list_any is_deletion rest) (undeleted_at i (omega arith) true h) in
        ap (value_of (names key)) parts
        ∙ (ap (last_value (names key)) (live_events-append front (x ∷ rest) ∙ (cond-true (list_any is_deletion (x ∷ rest)) _ _ deleted ∙ cond-true (list_any is_deletion (x ∷ rest)) _ _ deleted))
        ∙ value_nowhere (i + 1) to le kept without)

    -- an update at i has the key, and none after it
    value_found : (w : Value) → is_delete (update_at us i).kind ≡ false → value_at_key key (update_at us i).props ≡ Some w → value_of (names key) (slice_range (events_told entity names us) start to) ≡ Some w
    value_found w h e =
        let x = event_told entity names (update_at us i) in
        let front = slice_range (events_told entity names us) start i in
        let rest = slice_range (events_told entity names us) (i + 1) to in
        let f : Event → Option Value = λ x. prop_value (names key) (props_of x) in
        let kept_all : list_any is_deletion (x ∷ rest) ≡ false = (λ j. undeleted_at i (omega arith) false h j || no_deletion (i + 1) to le kept without j) in
        let values : filter_map f (x ∷ rest) ≡ w ∷ [] = λ j. cons_option ((value_at i (omega arith) h ∙ e) j) (no_value (i + 1) to le kept without j) in
        ap (value_of (names key)) parts
        ∙ (ap (last_value (names key)) (live_events-append front (x ∷ rest) ∙ cond-false (list_any is_deletion (x ∷ rest)) _ _ kept_all)
        ∙ (ap (last_or None) (filter_map-append f (live_events front) (x ∷ rest) ∙ ap (λ ys. filter_map f (live_events front) ++ ys) values)
        ∙ last_or-append None (filter_map f (live_events front)) (w ∷ [])))

  distinct_front : (m : ℕ) → m ≤ length us → AllByRecursion (λ x. Distinct (props_of x)) (take m (events_told entity names us))
  distinct_front m le = subst (AllByRecursion (λ x. Distinct (props_of x))) (ap (λ k. take k (events_told entity names us)) same) (each_told entity names us (λ x. Distinct (props_of x)) 0 m le (λ k a b. distinct_at k (omega arith)))
    where
      same : m - 0 ≡ m
      same = omega arith

  -- where a span is carried, its values are those of all updates up to its end
  value_from_start : (span : Span) (lo : ℤ) → IsSpan us span → span.carried ≡ true → value_of (names key) (slice_range (events_told entity names us) 0 span.to) ≡ value_of (names key) (spelled entity names us span lo)
  value_from_start span lo s c =
      let events = events_told entity names us in
      let order = s.order in let end = s.end in
      let all : span.to - 0 ≡ span.to = omega arith in
      sym (ap (λ b. value_of (names key) (cond b (carried_events lo (live_events (take span.from events))) [] ++ slice_range events span.from span.to)) c
      ∙ (value_of-carried_events (names key) lo (take span.from events) (slice_range events span.from span.to) (distinct_front span.from (omega arith))
      ∙ ap (value_of (names key)) (sym (take_split events span.from span.to order) ∙ ap (λ k. take k events) (sym all))))

  value_from_span : (span : Span) (lo : ℤ) → span.carried ≡ false → value_of (names key) (slice_range (events_told entity names us) span.from span.to) ≡ value_of (names key) (spelled entity names us span lo)
  value_from_span span lo c = sym (ap (λ b. value_of (names key) (cond b (carried_events lo (live_events (take span.from (events_told entity names us)))) [] ++ slice_range (events_told entity names us) span.from span.to)) c)

-- the clauses of the search for a value
pub IsValueIn-deleted : (us : List Update) (start i to key : ℕ) → to ≤ length us → start ≤ i → i < to → ((k : ℕ) → i + 1 ≤ k → k < to → is_delete (update_at us k).kind ≡ false) → ((k : ℕ) → i + 1 ≤ k → k < to → value_at_key key (update_at us k).props ≡ None)
    → is_delete (update_at us i).kind ≡ true → IsValueIn us start to key None
IsValueIn-deleted us start i to key le from here kept without h entity names n fit are rise lt = sym (value_deleted entity names us n key fit are lt rise start i to le from here kept without h)

pub IsValueIn-found : (us : List Update) (start i to key : ℕ) (w : Value) → to ≤ length us → start ≤ i → i < to → ((k : ℕ) → i + 1 ≤ k → k < to → is_delete (update_at us k).kind ≡ false) → ((k : ℕ) → i + 1 ≤ k → k < to → value_at_key key (update_at us k).props ≡ None)
    → is_delete (update_at us i).kind ≡ false → value_at_key key (update_at us i).props ≡ Some w → IsValueIn us start to key (Some w)
IsValueIn-found us start i to key w le from here kept without h e entity names n fit are rise lt = sym (value_found entity names us n key fit are lt rise start i to le from here kept without w h e)

pub IsValueIn-nowhere : (us : List Update) (start to key : ℕ) → to ≤ length us → ((k : ℕ) → start ≤ k → k < to → is_delete (update_at us k).kind ≡ false) → ((k : ℕ) → start ≤ k → k < to → value_at_key key (update_at us k).props ≡ None) → IsValueIn us start to key None
IsValueIn-nowhere us start to key le kept without entity names n fit are rise lt = sym (value_nowhere entity names us n key fit are lt rise start to le kept without)

pub IsValue-carried_events : (us : List Update) (span : Span) (key : ℕ) (w : Option Value) → IsSpan us span → span.carried ≡ true → ValuesRise us → IsValueIn us 0 span.to key w → IsValue us span key w
IsValue-carried_events us span key w s c rise h entity names n lo fit are lt = h entity names n fit are rise lt ∙ value_from_start entity names us n key fit are lt rise span lo s c

pub IsValue-alone : (us : List Update) (span : Span) (key : ℕ) (w : Option Value) → span.carried ≡ false → ValuesRise us → IsValueIn us span.from span.to key w → IsValue us span key w
IsValue-alone us span key w c rise h entity names n lo fit are lt = h entity names n fit are rise lt ∙ value_from_span entity names us n key fit are lt rise span lo c
