-- An event more in the history of its entity is the last to arrive.
use Rattle.std.proofs.Common.{◌≡◌, ℕ, zero, suc, ◌<◌, List, [], ◌∷◌, ◌++◌, Bool, true, false, cond, length, get_or, map, refl, sym, ap, ◌∙◌, arith, subst, append_assoc, append-nil}
use Rattle.std.specs.Prelude.{slice_set}
use Rattle.std.specs.List.{AllByRecursion}
use Rattle.std.specs.Ordering.{is_lt, is_gt, nat_cmp, int_cmp, ordering_then, ordering_reverse}
use Rattle.std.specs.declared.cmp.Ordering.{Ordering}
use Rattle.std.specs.declared.cmp.Ordering.TheVariants.{Less, Equal, Greater}
use Rattle.std.proofs.lemmas.List.{map-append}
use Rattle.std.proofs.lemmas.Map.Keys.{le_from_not_gt}
use Rattle.std.proofs.lemmas.Cmp.{nat_cmp_total, tied_itself}
use Rattle.world_laws.proofs.Order.{entity_total}
use Rattle.graph_model.specs.declared.events.Entity.{Entity}
use Rattle.graph_model.specs.declared.events.Entity.TheVariants.{Node, Edge}
use Rattle.graph_model.specs.declared.events.Event.{Event}
use Rattle.graph_model.specs.Rising.{in_order, put_in_order, put_after}
use Rattle.graph_model.specs.Entity.{entity_of, entity_cmp, subject}
use Rattle.graph_model.specs.World.{event_cmp}
use Rattle.world_laws.proofs.InOrder.{each_in_order}
use Rattle.world_laws.proofs.Filters.{each_append}
use Rattle.time_history.specs.declared.updates.Kind.{Kind}
use Rattle.time_history.specs.declared.updates.Kind.TheVariants.{Node as OfNode, Add, Delete}
use Rattle.time_history.specs.declared.updates.Update.{Update}
use Rattle.time_history.specs.Updates.{update_cmp, placed}
use Rattle.time_history.specs.Telling.{with_key_names, what_told, event_told, events_told}
use Rattle.graph_store.specs.Telling.{entity_at, updates_of_number, IsStoredUpdate}
use Rattle.graph_store.specs.Filed.{arrived, all_arrived, arrival_cmp, by_arrival}

-- a list and the same with one item more somewhere
pub record HasOneMore {X : Type 0} (x : X) (xs ys : List X) : Type 0 where
  pub front : List X
  pub back : List X
  pub was : xs ≡ front ++ back
  pub is : ys ≡ front ++ x ∷ back

one_more_behind : {X : Type 0} (x y : X) (xs ys : List X) → HasOneMore x xs ys → HasOneMore x (y ∷ xs) (y ∷ ys)
one_more_behind x y xs ys h = record { front = y ∷ h.front; back = h.back; was = ap (λ zs. y ∷ zs) h.was; is = ap (λ zs. y ∷ zs) h.is }

pub one_more-put : {X : Type 0} (cmp : X → X → Ordering) (x : X) (xs : List X) → HasOneMore x xs (put_after cmp x xs)
one_more-put cmp x [] = record { front = []; back = []; was = refl; is = refl }
one_more-put cmp x (y ∷ ys) = put (is_lt (cmp x y)) (one_more_behind x y ys (put_after cmp x ys) (one_more-put cmp x ys))
  where
    put : (t : Bool) → HasOneMore x (y ∷ ys) (y ∷ put_after cmp x ys) → HasOneMore x (y ∷ ys) (cond t (x ∷ y ∷ ys) (y ∷ put_after cmp x ys))
    put true h = record { front = []; back = y ∷ ys; was = refl; is = refl }
    put false h = h

pub one_more-map : {X Y : Type 0} (f : X → Y) (x : X) (xs ys : List X) → HasOneMore x xs ys → HasOneMore (f x) (map f xs) (map f ys)
one_more-map f x xs ys h = record { front = map f h.front; back = map f h.back; was = ap (map f) h.was ∙ map-append f h.front h.back; is = ap (map f) h.is ∙ map-append f h.front (x ∷ h.back) }

pub one_more-append : {X : Type 0} (x : X) (xs ys zs : List X) → HasOneMore x xs ys → HasOneMore x (xs ++ zs) (ys ++ zs)
one_more-append x xs ys zs h = record { front = h.front; back = h.back ++ zs; was = ap (λ ws. ws ++ zs) h.was ∙ append_assoc h.front h.back zs; is = ap (λ ws. ws ++ zs) h.is ∙ append_assoc h.front (x ∷ h.back) zs }

pub one_more-behind : {X : Type 0} (x : X) (xs ys zs : List X) → HasOneMore x xs ys → HasOneMore x (zs ++ xs) (zs ++ ys)
one_more-behind x xs ys [] h = h
one_more-behind x xs ys (z ∷ zs) h = one_more_behind x z (zs ++ xs) (zs ++ ys) (one_more-behind x xs ys zs h)

-- the history of one entity changes
pub all_arrived-set : (names : ℕ → List ℕ) (es : List Entity) (hs : List (List Update)) (i : ℕ) (us : List Update) (e : Entity) (x : ℕ × Event) → length es ≡ length hs → i < length hs
    → get_or es i e ≡ e → HasOneMore x (arrived e names (get_or hs i [])) (arrived e names us) → HasOneMore x (all_arrived names es hs) (all_arrived names es (slice_set hs i us))
all_arrived-set names es [] i us e x len lt at h = absurd (omega arith)
all_arrived-set names [] (h0 ∷ hs) i us e x len lt at h = absurd (omega arith)
all_arrived-set names (e0 ∷ es) (h0 ∷ hs) zero us e x len lt at h =
    one_more-append x (arrived e0 names h0) (arrived e0 names us) (all_arrived names es hs) (subst (λ w. HasOneMore x (arrived w names h0) (arrived w names us)) (sym at) h)
all_arrived-set names (e0 ∷ es) (h0 ∷ hs) (suc i) us e x len lt at h =
    one_more-behind x (all_arrived names es hs) (all_arrived names es (slice_set hs i us)) (arrived e0 names h0) (all_arrived-set names es hs i us e x (omega arith) (omega arith) at h)

-- an entity more
pub all_arrived-push : (names : ℕ → List ℕ) (es : List Entity) (hs : List (List Update)) (e : Entity) (us : List Update) → length es ≡ length hs
    → all_arrived names (es ++ e ∷ []) (hs ++ us ∷ []) ≡ all_arrived names es hs ++ arrived e names us
all_arrived-push names [] [] e us len = append-nil (arrived e names us)
all_arrived-push names [] (h ∷ hs) e us len = absurd (omega arith)
all_arrived-push names (e0 ∷ es) [] e us len = absurd (omega arith)
all_arrived-push names (e0 ∷ es) (h ∷ hs) e us len = ap (λ xs. arrived e0 names h ++ xs) (all_arrived-push names es hs e us (omega arith)) ∙ sym (append_assoc (arrived e0 names h) (all_arrived names es hs) (arrived e names us))

-- what is greater than all goes last, where items are put in order
put_last : (p : ℕ × Event) (zs : List (ℕ × Event)) → AllByRecursion (λ (q : ℕ × Event). q.0 < p.0) zs → put_in_order arrival_cmp p zs ≡ zs ++ p ∷ []
put_last p [] h = refl
put_last p (z ∷ zs) h = let g = greater p.0 z.0 h.0 in rw g (ap (λ ws. z ∷ ws) (put_last p zs h.1))
  where
    greater : (a b : ℕ) → b < a → is_gt (nat_cmp a b) ≡ true
    greater a b lt = go (is_gt (nat_cmp a b)) refl
      where
        go : (t : Bool) → is_gt (nat_cmp a b) ≡ t → is_gt (nat_cmp a b) ≡ true
        go true e = e
        go false e = let le = le_from_not_gt a b e in absurd (omega arith)

put_before_last : (f p : ℕ × Event) (zs : List (ℕ × Event)) → f.0 < p.0 → put_in_order arrival_cmp f (zs ++ p ∷ []) ≡ put_in_order arrival_cmp f zs ++ p ∷ []
put_before_last f p [] lt = let g = not_greater f.0 p.0 lt in rw g refl
  where
    not_greater : (a b : ℕ) → a < b → is_gt (nat_cmp a b) ≡ false
    not_greater a b lt = ap is_gt (nat_cmp_total.antisymm a b) ∙ go (is_gt (nat_cmp b a)) refl
      where
        turn : (o : Ordering) → is_gt o ≡ true → is_gt (ordering_reverse o) ≡ false
        turn Less h = cc
        turn Equal h = cc
        turn Greater h = refl

        go : (t : Bool) → is_gt (nat_cmp b a) ≡ t → is_gt (ordering_reverse (nat_cmp b a)) ≡ false
        go true e = turn (nat_cmp b a) e
        go false e = let le = le_from_not_gt b a e in absurd (omega arith)
put_before_last f p (z ∷ zs) lt = elim (is_gt (arrival_cmp f z)) as (λ t. cond t (z ∷ put_in_order arrival_cmp f (zs ++ p ∷ [])) (f ∷ z ∷ (zs ++ p ∷ [])) ≡ cond t (z ∷ put_in_order arrival_cmp f zs) (f ∷ z ∷ zs) ++ p ∷ []) [
  | true ↦ ap (λ ws. z ∷ ws) (put_before_last f p zs lt)
  | false ↦ refl
]

in_order-one_more : (p : ℕ × Event) (front back : List (ℕ × Event)) → AllByRecursion (λ (q : ℕ × Event). q.0 < p.0) (front ++ back) → in_order arrival_cmp (front ++ p ∷ back) ≡ in_order arrival_cmp (front ++ back) ++ p ∷ []
in_order-one_more p [] back h = put_last p (in_order arrival_cmp back) (each_in_order arrival_cmp (λ (q : ℕ × Event). q.0 < p.0) back h)
in_order-one_more p (f ∷ front) back h = ap (put_in_order arrival_cmp f) (in_order-one_more p front back h.1) ∙ put_before_last f p (in_order arrival_cmp (front ++ back)) h.0

-- one event more, with the greatest number of arrival, is the last to arrive
pub by_arrival-one_more : (n : ℕ) (x : Event) (xs ys : List (ℕ × Event)) → HasOneMore (n, x) xs ys → AllByRecursion (λ (q : ℕ × Event). q.0 < n) xs → by_arrival ys ≡ by_arrival xs ++ x ∷ []
by_arrival-one_more n x xs ys h below =
    ap by_arrival h.is
    ∙ (ap (map (λ (p : ℕ × Event). p.1)) (in_order-one_more (n, x) h.front h.back (subst (AllByRecursion (λ (q : ℕ × Event). q.0 < n)) h.was below))
    ∙ (map-append (λ (p : ℕ × Event). p.1) (in_order arrival_cmp (h.front ++ h.back)) ((n, x) ∷ [])
    ∙ ap (λ zs. by_arrival zs ++ x ∷ []) (sym h.was)))

-- what a history tells is of its entity
pub entity-told : (e : Entity) (names : ℕ → List ℕ) (u : Update) → entity_of (event_told e names u) ≡ e
entity-told (Node name) names u = refl
entity-told (Edge edge) names u = by_kind u.kind
  where
    by_kind : (kind : Kind) → subject (what_told (Edge edge) kind (with_key_names names u.props)) ≡ Edge edge
    by_kind OfNode = refl
    by_kind Add = refl
    by_kind Delete = refl

cmp-told : (e : Entity) (names : ℕ → List ℕ) (u v : Update) → event_cmp (event_told e names u) (event_told e names v) ≡ update_cmp u v
cmp-told e names u v =
    ap (λ w. ordering_then (int_cmp u.time v.time) (ordering_then (entity_cmp w (entity_of (event_told e names v))) (nat_cmp u.order v.order))) (entity-told e names u)
    ∙ (ap (λ w. ordering_then (int_cmp u.time v.time) (ordering_then (entity_cmp e w) (nat_cmp u.order v.order))) (entity-told e names v)
    ∙ ap (λ o. ordering_then (int_cmp u.time v.time) (ordering_then o (nat_cmp u.order v.order))) (tied_itself entity_total e))

-- an update that is placed is an event that is put in its place
pub told-placed : (e : Entity) (names : ℕ → List ℕ) (u : Update) (us : List Update) → events_told e names (placed u us) ≡ put_after event_cmp (event_told e names u) (events_told e names us)
told-placed e names u [] = refl
told-placed e names u (v ∷ us) =
    let c = cmp-told e names u v in
    put (is_lt (update_cmp u v)) (told-placed e names u us) ∙ ap (λ o. cond (is_lt o) (event_told e names u ∷ event_told e names v ∷ events_told e names us) (event_told e names v ∷ put_after event_cmp (event_told e names u) (events_told e names us))) (sym c)
  where
    put : (t : Bool) → events_told e names (placed u us) ≡ put_after event_cmp (event_told e names u) (events_told e names us) → events_told e names (cond t (u ∷ v ∷ us) (v ∷ placed u us)) ≡ cond t (event_told e names u ∷ event_told e names v ∷ events_told e names us) (event_told e names v ∷ put_after event_cmp (event_told e names u) (events_told e names us))
    put true h = refl
    put false h = ap (λ xs. event_told e names v ∷ xs) h

-- one event more, where all before it have lesser numbers of arrival
pub arrived_more : (accepted : List Event) (x : Event) (xs ys : List (ℕ × Event)) → HasOneMore (length accepted, x) xs ys → AllByRecursion (λ (q : ℕ × Event). q.0 < length accepted) xs → by_arrival xs ≡ accepted → by_arrival ys ≡ accepted ++ x ∷ []
arrived_more accepted x xs ys h below is = by_arrival-one_more (length accepted) x xs ys h below ∙ ap (λ zs. zs ++ x ∷ []) is

arrived_below : (e : Entity) (names : ℕ → List ℕ) (n before : ℕ) (us : List Update) → AllByRecursion (IsStoredUpdate e n before) us → AllByRecursion (λ (q : ℕ × Event). q.0 < before) (arrived e names us)
arrived_below e names n before [] h = tt
arrived_below e names n before (u ∷ us) h = (h.0.arrival, arrived_below e names n before us h.1)

-- all that has arrived has lesser numbers of arrival
pub all_arrived-below : (names : ℕ → List ℕ) (n before : ℕ) (es : List Entity) (hs : List (List Update)) → ((i : ℕ) → i < length es → AllByRecursion (IsStoredUpdate (entity_at es i) n before) (updates_of_number hs i))
    → AllByRecursion (λ (q : ℕ × Event). q.0 < before) (all_arrived names es hs)
all_arrived-below names n before [] hs kept = tt
all_arrived-below names n before (e ∷ es) [] kept = tt
all_arrived-below names n before (e ∷ es) (us ∷ hs) kept =
    each_append (λ (q : ℕ × Event). q.0 < before) (arrived e names us) (all_arrived names es hs)
    (arrived_below e names n before us (kept 0 (omega arith)))
    (all_arrived-below names n before es hs (λ i lt. kept (suc i) (omega arith)))
