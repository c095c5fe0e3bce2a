-- Events that are held one after another, and the steps for them.
use Rattle.std.proofs.Common.{◌≡◌, ℕ, ℤ, zero, suc, ◌+◌, ◌-◌, ◌*◌, ◌<◌, ◌≤◌, List, [], ◌∷◌, ◌++◌, map, length, slice_range, take, refl, sym, ◌∙◌, ap, arith, append-nil, append_assoc, length-append}
use Rattle.std.specs.Prelude.{Some, slice_get}
use Rattle.std.specs.List.{flat_map}
use Rattle.std.proofs.lemmas.Grind.{flat_map-append}
use Rattle.std.proofs.lemmas.List.{length-map, map-append, take_more}
use Rattle.std.proofs.lemmas.Option.{get_or_from_slice_get}
use Rattle.graph_model.specs.declared.events.Entity.{Entity}
use Rattle.graph_model.specs.declared.events.Event.{Event}
use Rattle.graph_model.specs.declared.events.What.{What}
use Rattle.graph_model.specs.declared.events.What.TheVariants.{Node as NodeUpdate, Add as Added, Delete as Deleted}
use Rattle.graph_model.specs.Entity.{deletes}
use Rattle.graph_model.specs.World.{World, events_of}
use Rattle.time_history.specs.declared.span.Span.{Span}
use Rattle.time_history.specs.declared.updates.Update.{Update}
use Rattle.time_history.specs.Asked.{kind_of_event}
use Rattle.time_history.specs.Kinds.{is_delete}
use Rattle.time_history.specs.Updates.{update_at}
use Rattle.graph_store.specs.Contents.{Contents}
use Rattle.view_trait.specs.Meaning.{Shows, Tells}
use Rattle.view_lists.specs.declared.moments.Moment.{Moment}
use Rattle.view_lists.specs.Moments.{carried_moments, moment_of_event, moment_told, moments_told}
use Rattle.view_lists.proofs.Spelled.{moments_pushed, shown_moments}
use Rattle.event_sweep.specs.declared.held_events.HeldEvent.{HeldEvent}
use Rattle.window_sweep.specs.Filling.{held_at, held_of, held_under}

-- one more update of a span
pub held_more : (n : ℕ) (us : List Update) (from i : ℕ) (front old new : List HeldEvent) (x : HeldEvent) → from ≤ i → i < length us → old ≡ front ++ map (held_at n) (map moment_told (slice_range us from i))
    → new ≡ old ++ x ∷ [] → x ≡ held_at n (moment_told (update_at us i)) → new ≡ front ++ map (held_at n) (map moment_told (slice_range us from (i + 1)))
held_more n us from i front old new x le lt before pushed is =
    let ms : List Moment = map moment_told (slice_range us from i) in
    let m : Moment = moment_told (update_at us i) in
    let more : ms ++ m ∷ [] ≡ map moment_told (slice_range us from (i + 1)) = moments_pushed us from i [] ms (ms ++ m ∷ []) m le lt refl refl refl in
    pushed
    ∙ ((λ k. before k ++ is k ∷ [])
    ∙ (append_assoc front (map (held_at n) ms) (held_at n m ∷ [])
    ∙ ap (λ ys. front ++ ys) (sym (map-append (held_at n) ms (m ∷ [])) ∙ ap (map (held_at n)) more)))

-- what is carried, and then the updates
pub held_all : (n : ℕ) (us : List Update) (span : Span) (lo : ℤ) (old front new : List HeldEvent) → front ≡ old ++ map (held_at n) (carried_moments us span lo)
    → new ≡ front ++ map (held_at n) (map moment_told (slice_range us span.from span.to)) → new ≡ old ++ map (held_at n) (moments_told us span lo)
held_all n us span lo old front new begun done =
    let own = map moment_told (slice_range us span.from span.to) in
    done
    ∙ (ap (λ l. l ++ map (held_at n) own) begun
    ∙ (append_assoc old (map (held_at n) (carried_moments us span lo)) (map (held_at n) own)
    ∙ ap (λ l. old ++ l) (sym (map-append (held_at n) (carried_moments us span lo) own))))

-- an event is a deletion where its kind is
kind_deletes : (x : What) → is_delete (kind_of_event x) ≡ deletes x
kind_deletes (NodeUpdate name props) = refl
kind_deletes (Added edge props) = refl
kind_deletes (Deleted edge) = refl

held_moments : (n : ℕ) (xs : List Event) → map (held_at n) (map moment_of_event xs) ≡ held_under n xs
held_moments n [] = refl
held_moments n (x ∷ xs) = let d = kind_deletes x.what in let rest = held_moments n xs in λ k. record { time = x.time; number = n; deletes = d k } ∷ rest k

-- the events that a world shows of an entity
pub held_shown : (c : Contents) (w : World) (x : Entity) (us : List Update) (span : Span) (lo : ℤ) (n : ℕ) (old new : List HeldEvent) → Tells c x us → Shows c w x span → lo ≡ w.bounds.lo
    → new ≡ old ++ map (held_at n) (moments_told us span lo) → new ≡ old ++ held_under n (events_of w x)
held_shown c w x us span lo n old new tells shows is h = h ∙ ap (λ l. old ++ l) (ap (map (held_at n)) (shown_moments c w x us span lo tells shows is) ∙ held_moments n (events_of w x))

-- ---- numbers one after another

module _ (f : ℕ → List Event) where
  abbrev all : List ℕ → List HeldEvent
  all ns = flat_map (λ n. held_under n (f n)) ns

  pub numbers_more : (ns : List ℕ) (i n : ℕ) (old new : List HeldEvent) → i < length ns → slice_get ns i ≡ Some n → old ≡ all (take i ns) → new ≡ old ++ held_under n (f n) → new ≡ all (take (i + 1) ns)
  numbers_more ns i n old new lt here before more =
      let next : take (i + 1) ns ≡ take i ns ++ n ∷ [] = take_more ns i 0 lt ∙ ap (λ k. take i ns ++ k ∷ []) (get_or_from_slice_get ns i n 0 here) in
      more
      ∙ ((λ k. before k ++ sym (append-nil (held_under n (f n))) k)
      ∙ (sym (flat_map-append (λ m. held_under m (f m)) (take i ns) (n ∷ [])) ∙ ap all (sym next)))

  -- those of the first numbers are no more than all
  length_first : (k : ℕ) (ns : List ℕ) → length (all (take k ns)) ≤ length (all ns)
  length_first zero ns = omega arith
  length_first (suc k) [] = omega arith
  length_first (suc k) (n ∷ ns) =
      let rest = length_first k ns in
      let some = length-append (held_under n (f n)) (all (take k ns)) in
      let every = length-append (held_under n (f n)) (all ns) in
      omega (arith, rest, some, every)

  -- the steps for one number more
  pub steps_more : (before between after i n s d : ℕ) (old new : List HeldEvent) → new ≡ old ++ held_under n (f n)
      → between ≤ before + (i * s) * d + length old → after ≤ between + s * d + length (f n) → after ≤ before + ((i + 1) * s) * d + length new
  steps_more before between after i n s d old new is spent more =
      let size : length new ≡ length old + length (f n) = ap length is ∙ (length-append old (held_under n (f n)) ∙ ap (λ m. length old + m) (length-map (f n) (held_of n))) in
      let e : (i * s) * d + s * d ≡ ((i + 1) * s) * d = grind arith in
      omega (arith, size, spent, more, e)

  -- and no more than for all
  pub steps_within : (ns : List ℕ) (before between after i n s d : ℕ) (old : List HeldEvent) → i < length ns → slice_get ns i ≡ Some n → old ≡ all (take i ns)
      → between ≤ before + (i * s) * d + length old → after ≤ between + s * d + length (f n) → after ≤ before + (length ns * s) * d + length (all ns)
  steps_within ns before between after i n s d old lt here is spent more =
      let new : List HeldEvent = old ++ held_under n (f n) in
      let so_far = steps_more before between after i n s d old new refl spent more in
      let size = ap length (numbers_more ns i n old new lt here is refl) in
      let first = length_first (i + 1) ns in
      let left : ℕ = length ns - (i + 1) in
      let count : left + (i + 1) ≡ length ns = omega (arith, lt) in
      let e : (left * s) * d + ((i + 1) * s) * d ≡ (length ns * s) * d = both_times left (i + 1) s d ∙ ap (λ k. (k * s) * d) count in
      omega (arith, so_far, size, first, e)
    where
      both_times : (a b s d : ℕ) → (a * s) * d + (b * s) * d ≡ ((a + b) * s) * d
      both_times a b s d = grind arith

-- ---- the steps for nodes, and then for edges

pub steps_for_nodes : (before after nodes edges d n m all : ℕ) → n + m ≡ all → after ≤ before + nodes * d + n → after ≤ before + (nodes + edges) * d + all
steps_for_nodes before after nodes edges d n m all count spent =
    let e : nodes * d + edges * d ≡ (nodes + edges) * d = grind arith in
    omega (arith, count, spent, e)

pub steps_for_both : (before between after nodes edges d n m all : ℕ) → n + m ≡ all → between ≤ before + nodes * d + n → after ≤ between + edges * d + m → after ≤ before + (nodes + edges) * d + all
steps_for_both before between after nodes edges d n m all count spent more =
    let e : nodes * d + edges * d ≡ (nodes + edges) * d = grind arith in
    omega (arith, count, spent, more, e)
