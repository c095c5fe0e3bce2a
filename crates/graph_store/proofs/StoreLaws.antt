-- Histories of entities that take an event more.
use Rattle.std.proofs.Common.{◌≡◌, ℕ, suc, ◌+◌, ◌<◌, ◌≤◌, List, [], ◌∷◌, ◌++◌, false, cond, length, refl, sym, ap, ◌∙◌, arith, subst, ⊎_elim}
use Rattle.std.specs.Prelude.{slice_set}
use Rattle.std.specs.List.{AllByRecursion}
use Rattle.std.proofs.lemmas.List.{length_push, length-set, get_or-set_same, get_or-set_other}
use Rattle.std.proofs.Math.ListN.{get_or-append}
use Rattle.std.proofs.Math.Seq.{get_or-append_seam}
use Rattle.std.proofs.lemmas.Bool.{cases_eq, cases_lt, false_from_ne_true}
use Rattle.graph_model.specs.declared.properties.Value.{Value}
use Rattle.graph_model.specs.declared.events.Entity.{Entity}
use Rattle.graph_model.specs.declared.events.Entity.TheVariants.{Node}
use Rattle.graph_model.specs.declared.events.Event.{Event}
use Rattle.graph_model.specs.Rising.{put_after}
use Rattle.graph_model.specs.Entity.{entity_of, is_about, about, same_entity}
use Rattle.graph_model.specs.World.{event_cmp, arrange}
use Rattle.graph_model.specs.Props.{put_prop}
use Rattle.world_laws.proofs.Order.{same_entity-refl, same_entity-exact}
use Rattle.world_laws.proofs.Arrivals.{about-push}
use Rattle.world_laws.proofs.Filters.{each_weaker}
use Rattle.time_history.specs.declared.updates.Update.{Update}
use Rattle.time_history.specs.Updates.{placed}
use Rattle.time_history.specs.Telling.{with_key_names, what_told, event_told, events_told}
use Rattle.graph_store.specs.Filed.{arrived, all_arrived}
use Rattle.graph_store.specs.Telling.{entity_at, updates_of_number, IsStoredUpdate, TellEvents}
use Rattle.graph_store.proofs.FiledLaws.{told-placed}
use Rattle.time_history.proofs.Placed.{each_placed}

-- names of keys that agree on those below n
with_key_names-same : (names names' : ℕ → List ℕ) (n : ℕ) → ((k : ℕ) → k < n → names' k ≡ names k) → (ps : List (ℕ × Value)) → AllByRecursion (λ (p : ℕ × Value). p.0 < n) ps → with_key_names names' ps ≡ with_key_names names ps
with_key_names-same names names' n same [] h = refl
with_key_names-same names names' n same (p ∷ ps) h = ap (λ k. put_prop (k, p.1) (with_key_names names' ps)) (same p.0 h.0) ∙ ap (put_prop (names p.0, p.1)) (with_key_names-same names names' n same ps h.1)

module _ (names names' : ℕ → List ℕ) (n m : ℕ) (same : (k : ℕ) → k < n → names' k ≡ names k) (le : n ≤ m) where
  told-same : (e : Entity) (before : ℕ) (us : List Update) → AllByRecursion (IsStoredUpdate e n before) us → events_told e names' us ≡ events_told e names us
  told-same e before [] h = refl
  told-same e before (u ∷ us) h =
      ap (λ ps. (record { time = u.time; order = u.order; what = what_told e u.kind ps }) ∷ events_told e names' us) (with_key_names-same names names' n same u.props h.0.keys)
      ∙ ap (λ xs. event_told e names u ∷ xs) (told-same e before us h.1)

  arrived-same : (e : Entity) (before : ℕ) (us : List Update) → AllByRecursion (IsStoredUpdate e n before) us → arrived e names' us ≡ arrived e names us
  arrived-same e before [] h = refl
  arrived-same e before (u ∷ us) h =
      ap (λ ps. (u.arrival, record { time = u.time; order = u.order; what = what_told e u.kind ps }) ∷ arrived e names' us) (with_key_names-same names names' n same u.props h.0.keys)
      ∙ ap (λ xs. (u.arrival, event_told e names u) ∷ xs) (arrived-same e before us h.1)

  -- more keys leave what is told
  pub TellEvents-keys : (es : List Entity) (hs : List (List Update)) (accepted : List Event) → TellEvents names n es hs accepted → TellEvents names' m es hs accepted
  TellEvents-keys es hs accepted h = record {
    lengths = h.lengths;
    told = λ i lt. told-same (entity_at es i) (length accepted) (updates_of_number hs i) (h.kept i lt) ∙ h.told i lt;
    kept = λ i lt. each_weaker (IsStoredUpdate (entity_at es i) n (length accepted)) (IsStoredUpdate (entity_at es i) m (length accepted))
        (λ u k. record { keys = each_weaker (λ (p : ℕ × Value). p.0 < n) (λ (p : ℕ × Value). p.0 < m) (λ p j. omega (arith, j)) u.props k.keys; arrival = k.arrival; kind = k.kind }) (updates_of_number hs i) (h.kept i lt);
    apart = h.apart;
  }

  -- and what has arrived
  pub all_arrived-same : (before : ℕ) (es : List Entity) (hs : List (List Update)) → ((i : ℕ) → i < length es → AllByRecursion (IsStoredUpdate (entity_at es i) n before) (updates_of_number hs i)) → all_arrived names' es hs ≡ all_arrived names es hs
  all_arrived-same before [] hs kept = refl
  all_arrived-same before (e ∷ es) [] kept = refl
  all_arrived-same before (e ∷ es) (us ∷ hs) kept =
      ap (λ xs. xs ++ all_arrived names' es hs) (arrived-same e before us (kept 0 (omega arith)))
      ∙ ap (λ xs. arrived e names us ++ xs) (all_arrived-same before es hs (λ i lt. kept (suc i) (omega arith)))

-- what is kept stays so where an event more is accepted
kept_after : (e : Entity) (n : ℕ) (accepted : List Event) (x : Event) (us : List Update) → AllByRecursion (IsStoredUpdate e n (length accepted)) us → AllByRecursion (IsStoredUpdate e n (length (accepted ++ x ∷ []))) us
kept_after e n accepted x us h =
    each_weaker (IsStoredUpdate e n (length accepted)) (IsStoredUpdate e n (length (accepted ++ x ∷ [])))
    (λ u k. let l = length_push accepted x in let a = k.arrival in record { keys = k.keys; arrival = omega arith; kind = k.kind }) us h

not_about : (e : Entity) (x : Event) → (e ≡ entity_of x → ⊥) → is_about e x ≡ false
not_about e x apart = false_from_ne_true (is_about e x) (λ s. apart (same_entity-exact e (entity_of x) s))

about-other : (e : Entity) (accepted : List Event) (x : Event) → (e ≡ entity_of x → ⊥) → about e (arrange (accepted ++ x ∷ [])) ≡ about e (arrange accepted)
about-other e accepted x apart = about-push e accepted x ∙ ap (λ t. cond t (put_after event_cmp x (about e (arrange accepted))) (about e (arrange accepted))) (not_about e x apart)

about-own : (e : Entity) (accepted : List Event) (x : Event) → e ≡ entity_of x → about e (arrange (accepted ++ x ∷ [])) ≡ put_after event_cmp x (about e (arrange accepted))
about-own e accepted x same =
    about-push e accepted x ∙ ap (λ t. cond t (put_after event_cmp x (about e (arrange accepted))) (about e (arrange accepted))) (ap (λ w. same_entity w (entity_of x)) same ∙ same_entity-refl (entity_of x))

-- an event of no entity among these leaves their histories
pub TellEvents-other : (names : ℕ → List ℕ) (n : ℕ) (es : List Entity) (hs : List (List Update)) (accepted : List Event) (x : Event) → ((i : ℕ) → i < length es → entity_at es i ≡ entity_of x → ⊥)
    → TellEvents names n es hs accepted → TellEvents names n es hs (accepted ++ x ∷ [])
TellEvents-other names n es hs accepted x apart h = record {
  lengths = h.lengths;
  told = λ i lt. h.told i lt ∙ sym (about-other (entity_at es i) accepted x (apart i lt));
  kept = λ i lt. kept_after (entity_at es i) n accepted x (updates_of_number hs i) (h.kept i lt);
  apart = h.apart;
}

-- an event of one of these entities is placed in its history
pub TellEvents-known : (names : ℕ → List ℕ) (n : ℕ) (es : List Entity) (hs : List (List Update)) (accepted : List Event) (x : Event) (i : ℕ) (u : Update)
    → i < length es → entity_at es i ≡ entity_of x → event_told (entity_of x) names u ≡ x → IsStoredUpdate (entity_of x) n (length (accepted ++ x ∷ [])) u
    → TellEvents names n es hs accepted → TellEvents names n es (slice_set hs i (placed u (updates_of_number hs i))) (accepted ++ x ∷ [])
TellEvents-known names n es hs accepted x i u lt here told new h = record {
  lengths = h.lengths ∙ sym (length-set hs i (placed u (updates_of_number hs i)));
  told = λ j j_lt. ⊎_elim
      (λ (same : j ≡ i).
      subst (λ k. events_told (entity_at es k) names (updates_of_number hs' k) ≡ about (entity_at es k) (arrange (accepted ++ x ∷ []))) (sym same)
      (ap (events_told (entity_at es i) names) changed
      ∙ (told-placed (entity_at es i) names u (updates_of_number hs i)
      ∙ (ap (λ y. put_after event_cmp y (events_told (entity_at es i) names (updates_of_number hs i))) (ap (λ e. event_told e names u) here ∙ told)
      ∙ (ap (put_after event_cmp x) (h.told i lt)
      ∙ sym (about-own (entity_at es i) accepted x here))))))
      (λ (other : j ≡ i → ⊥).
      ap (events_told (entity_at es j) names) (get_or-set_other hs i j (placed u (updates_of_number hs i)) [] other)
      ∙ (h.told j j_lt ∙ sym (about-other (entity_at es j) accepted x (λ e. other (h.apart j i j_lt lt (e ∙ sym here))))))
      (cases_eq j i);
  kept = λ j j_lt. ⊎_elim
      (λ (same : j ≡ i).
      subst (λ k. AllByRecursion (IsStoredUpdate (entity_at es k) n (length (accepted ++ x ∷ []))) (updates_of_number hs' k)) (sym same)
      (subst (AllByRecursion (IsStoredUpdate (entity_at es i) n (length (accepted ++ x ∷ [])))) (sym changed)
      (each_placed (IsStoredUpdate (entity_at es i) n (length (accepted ++ x ∷ []))) u (updates_of_number hs i) (kept_after (entity_at es i) n accepted x (updates_of_number hs i) (h.kept i lt)) (subst (λ e. IsStoredUpdate e n (length (accepted ++ x ∷ [])) u) (sym here) new))))
      (λ (other : j ≡ i → ⊥).
      subst (AllByRecursion (IsStoredUpdate (entity_at es j) n (length (accepted ++ x ∷ [])))) (sym (get_or-set_other hs i j (placed u (updates_of_number hs i)) [] other))
      (kept_after (entity_at es j) n accepted x (updates_of_number hs j) (h.kept j j_lt)))
      (cases_eq j i);
  apart = h.apart;
}
  where
    hs' : List (List Update)
    hs' = slice_set hs i (placed u (updates_of_number hs i))

    changed : updates_of_number hs' i ≡ placed u (updates_of_number hs i)
    changed = get_or-set_same hs i (placed u (updates_of_number hs i)) [] (subst (λ k. i < k) h.lengths lt)

-- an event of a new entity begins its history
pub TellEvents-new : (names : ℕ → List ℕ) (n : ℕ) (es : List Entity) (hs : List (List Update)) (accepted : List Event) (x : Event) (u : Update)
    → ((i : ℕ) → i < length es → entity_at es i ≡ entity_of x → ⊥) → about (entity_of x) (arrange accepted) ≡ [] → event_told (entity_of x) names u ≡ x → IsStoredUpdate (entity_of x) n (length (accepted ++ x ∷ [])) u
    → TellEvents names n es hs accepted → TellEvents names n (es ++ entity_of x ∷ []) (hs ++ (u ∷ []) ∷ []) (accepted ++ x ∷ [])
TellEvents-new names n es hs accepted x u apart none told new h = record {
  lengths = length_push es (entity_of x) ∙ (ap (λ k. k + 1) h.lengths ∙ sym (length_push hs (u ∷ [])));
  told = λ i lt. ⊎_elim
      (λ (old : i < length es).
      subst (λ e. events_told e names (updates_of_number (hs ++ (u ∷ []) ∷ []) i) ≡ about e (arrange (accepted ++ x ∷ []))) (sym (get_or-append es (entity_of x ∷ []) (Node []) i old))
      (ap (events_told (entity_at es i) names) (get_or-append hs ((u ∷ []) ∷ []) [] i (subst (λ k. i < k) h.lengths old))
      ∙ (h.told i old ∙ sym (about-other (entity_at es i) accepted x (apart i old)))))
      (λ (high : length es ≤ i).
      subst (λ k. events_told (entity_at (es ++ entity_of x ∷ []) k) names (updates_of_number (hs ++ (u ∷ []) ∷ []) k) ≡ about (entity_at (es ++ entity_of x ∷ []) k) (arrange (accepted ++ x ∷ []))) (sym (last i lt high))
      (subst (λ e. events_told e names (updates_of_number (hs ++ (u ∷ []) ∷ []) (length es)) ≡ about e (arrange (accepted ++ x ∷ []))) (sym (get_or-append_seam es (entity_of x) [] (Node [])))
      (ap (events_told (entity_of x) names) mine
      ∙ (ap (λ y. y ∷ []) told ∙ sym (about-own (entity_of x) accepted x refl ∙ ap (put_after event_cmp x) none)))))
      (cases_lt i (length es));
  kept = λ i lt. ⊎_elim
      (λ (old : i < length es).
      subst (λ e. AllByRecursion (IsStoredUpdate e n (length (accepted ++ x ∷ []))) (updates_of_number (hs ++ (u ∷ []) ∷ []) i)) (sym (get_or-append es (entity_of x ∷ []) (Node []) i old))
      (subst (AllByRecursion (IsStoredUpdate (entity_at es i) n (length (accepted ++ x ∷ [])))) (sym (get_or-append hs ((u ∷ []) ∷ []) [] i (subst (λ k. i < k) h.lengths old)))
      (kept_after (entity_at es i) n accepted x (updates_of_number hs i) (h.kept i old))))
      (λ (high : length es ≤ i).
      subst (λ k. AllByRecursion (IsStoredUpdate (entity_at (es ++ entity_of x ∷ []) k) n (length (accepted ++ x ∷ []))) (updates_of_number (hs ++ (u ∷ []) ∷ []) k)) (sym (last i lt high))
      (subst (λ e. AllByRecursion (IsStoredUpdate e n (length (accepted ++ x ∷ []))) (updates_of_number (hs ++ (u ∷ []) ∷ []) (length es))) (sym (get_or-append_seam es (entity_of x) [] (Node [])))
      (subst (AllByRecursion (IsStoredUpdate (entity_of x) n (length (accepted ++ x ∷ [])))) (sym mine) (new, tt))))
      (cases_lt i (length es));
  apart = λ i j i_lt j_lt e. ⊎_elim
      (λ (old_i : i < length es). ⊎_elim
      (λ (old_j : j < length es). h.apart i j old_i old_j (sym (get_or-append es (entity_of x ∷ []) (Node []) i old_i) ∙ (e ∙ get_or-append es (entity_of x ∷ []) (Node []) j old_j)))
      (λ (high_j : length es ≤ j). absurd (apart i old_i (sym (get_or-append es (entity_of x ∷ []) (Node []) i old_i) ∙ (e ∙ (ap (entity_at (es ++ entity_of x ∷ [])) (last j j_lt high_j) ∙ get_or-append_seam es (entity_of x) [] (Node []))))))
      (cases_lt j (length es)))
      (λ (high_i : length es ≤ i). ⊎_elim
      (λ (old_j : j < length es). absurd (apart j old_j (sym (get_or-append es (entity_of x ∷ []) (Node []) j old_j) ∙ (sym e ∙ (ap (entity_at (es ++ entity_of x ∷ [])) (last i i_lt high_i) ∙ get_or-append_seam es (entity_of x) [] (Node []))))))
      (λ (high_j : length es ≤ j). last i i_lt high_i ∙ sym (last j j_lt high_j))
      (cases_lt j (length es)))
      (cases_lt i (length es));
}
  where
    last : (i : ℕ) → i < length (es ++ entity_of x ∷ []) → length es ≤ i → i ≡ length es
    last i lt high = let more = length_push es (entity_of x) in omega arith

    mine : updates_of_number (hs ++ (u ∷ []) ∷ []) (length es) ≡ u ∷ []
    mine = ap (updates_of_number (hs ++ (u ∷ []) ∷ [])) h.lengths ∙ get_or-append_seam hs (u ∷ []) [] []

-- an entity with no event begins with an empty history
pub TellEvents-empty : (names : ℕ → List ℕ) (n : ℕ) (es : List Entity) (hs : List (List Update)) (accepted : List Event) (e : Entity)
    → ((i : ℕ) → i < length es → entity_at es i ≡ e → ⊥) → about e (arrange accepted) ≡ []
    → TellEvents names n es hs accepted → TellEvents names n (es ++ e ∷ []) (hs ++ [] ∷ []) accepted
TellEvents-empty names n es hs accepted e apart none h = record {
  lengths = length_push es e ∙ (ap (λ k. k + 1) h.lengths ∙ sym (length_push hs []));
  told = λ i lt. ⊎_elim
      (λ (old : i < length es).
      subst (λ w. events_told w names (updates_of_number (hs ++ [] ∷ []) i) ≡ about w (arrange accepted)) (sym (get_or-append es (e ∷ []) (Node []) i old))
      (ap (events_told (entity_at es i) names) (get_or-append hs ([] ∷ []) [] i (subst (λ k. i < k) h.lengths old)) ∙ h.told i old))
      (λ (high : length es ≤ i).
      subst (λ k. events_told (entity_at (es ++ e ∷ []) k) names (updates_of_number (hs ++ [] ∷ []) k) ≡ about (entity_at (es ++ e ∷ []) k) (arrange accepted)) (sym (last i lt high))
      (subst (λ w. events_told w names (updates_of_number (hs ++ [] ∷ []) (length es)) ≡ about w (arrange accepted)) (sym (get_or-append_seam es e [] (Node [])))
      (ap (events_told e names) mine ∙ sym none)))
      (cases_lt i (length es));
  kept = λ i lt. ⊎_elim
      (λ (old : i < length es).
      subst (λ w. AllByRecursion (IsStoredUpdate w n (length accepted)) (updates_of_number (hs ++ [] ∷ []) i)) (sym (get_or-append es (e ∷ []) (Node []) i old))
      (subst (AllByRecursion (IsStoredUpdate (entity_at es i) n (length accepted))) (sym (get_or-append hs ([] ∷ []) [] i (subst (λ k. i < k) h.lengths old))) (h.kept i old)))
      (λ (high : length es ≤ i).
      subst (λ k. AllByRecursion (IsStoredUpdate (entity_at (es ++ e ∷ []) k) n (length accepted)) (updates_of_number (hs ++ [] ∷ []) k)) (sym (last i lt high))
      (subst (AllByRecursion (IsStoredUpdate (entity_at (es ++ e ∷ []) (length es)) n (length accepted))) (sym mine) tt))
      (cases_lt i (length es));
  apart = λ i j i_lt j_lt same. ⊎_elim
      (λ (old_i : i < length es). ⊎_elim
      (λ (old_j : j < length es). h.apart i j old_i old_j (sym (get_or-append es (e ∷ []) (Node []) i old_i) ∙ (same ∙ get_or-append es (e ∷ []) (Node []) j old_j)))
      (λ (high_j : length es ≤ j). absurd (apart i old_i (sym (get_or-append es (e ∷ []) (Node []) i old_i) ∙ (same ∙ (ap (entity_at (es ++ e ∷ [])) (last j j_lt high_j) ∙ get_or-append_seam es e [] (Node []))))))
      (cases_lt j (length es)))
      (λ (high_i : length es ≤ i). ⊎_elim
      (λ (old_j : j < length es). absurd (apart j old_j (sym (get_or-append es (e ∷ []) (Node []) j old_j) ∙ (sym same ∙ (ap (entity_at (es ++ e ∷ [])) (last i i_lt high_i) ∙ get_or-append_seam es e [] (Node []))))))
      (λ (high_j : length es ≤ j). last i i_lt high_i ∙ sym (last j j_lt high_j))
      (cases_lt j (length es)))
      (cases_lt i (length es));
}
  where
    last : (i : ℕ) → i < length (es ++ e ∷ []) → length es ≤ i → i ≡ length es
    last i lt high = let more = length_push es e in omega arith

    mine : updates_of_number (hs ++ [] ∷ []) (length es) ≡ []
    mine = ap (updates_of_number (hs ++ [] ∷ [])) h.lengths ∙ get_or-append_seam hs [] [] []
