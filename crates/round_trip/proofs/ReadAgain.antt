-- The rows of a world, read one after another, are refused nowhere.
use Rattle.std.proofs.Common.{◌≡◌, ◌+◌, ◌==◌, ℕ, Bool, true, List, [], ◌∷◌, ◌++◌, map, refl, sym, ◌∙◌, ap, subst, append_assoc}
use Rattle.std.specs.Prelude.{IsTrue}
use Rattle.std.specs.List.{AllByRecursion, list_all}
use Rattle.std.specs.declared.cmp.Ordering.TheVariants.{Less}
use Rattle.std.proofs.lemmas.List.{append-nil, map-append}
use Rattle.graph_model.specs.declared.events.Event.{Event}
use Rattle.graph_model.specs.declared.events.Model.{Model}
use Rattle.graph_model.specs.Answer.{EventRow, TypeRow, row_fields}
use Rattle.graph_model.specs.Interval.{Interval}
use Rattle.graph_model.specs.Reading.{Reading, Spans, base_world, judge, nothing_read, read_on, reading, with_record, world_of}
use Rattle.graph_model.specs.Record.{event_fields, span_fields, type_fields}
use Rattle.graph_model.specs.Rising.{Rises}
use Rattle.graph_model.specs.RowText.{world_text}
use Rattle.graph_model.specs.World.{World, allows, type_cmp, types_agree}
use Rattle.world_laws.proofs.Base.{base_of_itself}
use Rattle.world_laws.proofs.Filters.{each_weaker}
use Rattle.world_laws.proofs.Lawful.{each_passes}
use Rattle.world_laws.specs.Storable.{AreWithinLimits}
use Rattle.world_laws.proofs.Limits.{within_front}
use Rattle.world_laws.proofs.ListParts.{each_front, each_middle}
use Rattle.world_laws.proofs.Unrefused.{behind, event_taken, put_last, type_taken}
use Rattle.event_rows.specs.Sayable.{IsSayable, IsSayableType, are_bounds}
use Rattle.event_rows.proofs.Events.{event-again, span-again, type-again}
use Rattle.event_rows.proofs.WorldRows.{world-back}
use Rattle.round_trip.specs.Printable.{IsPrintable}

-- what was read where nothing was refused
abbrev pub given : Interval → List Event → List (List ℕ × List ℕ) → Reading
given bounds xs ts = record { bounds = bounds; accepted = xs; types = ts; refused = [] }

-- ---- types

type_read : (model : Model) (bounds : Interval) (n : ℕ) (first : Bool) (front : List (List ℕ × List ℕ)) (t : List ℕ × List ℕ) → IsSayableType t → AllByRecursion (λ s. type_cmp s t ≡ Less) front → AreWithinLimits [] (front ++ t ∷ [])
    → with_record (given bounds [] front) n (judge model (given bounds [] front) first (type_fields t.0 t.1)) ≡ given bounds [] (front ++ t ∷ [])
type_read model bounds n first front t sayable less within =
    rw (type-again first bounds t.0 t.1 sayable.0 sayable.1, type_taken [] front t less within, put_last t front less) refl

-- types that rise are read one behind another
types_read : (model : Model) (bounds : Interval) (front back : List (List ℕ × List ℕ)) (rest : List (List (List ℕ))) (r : Reading) → Rises type_cmp (front ++ back) → AreWithinLimits [] (front ++ back) → AllByRecursion IsSayableType back
    → ((n : ℕ) → read_on model (given bounds [] (front ++ back)) n rest ≡ r)
    → (n : ℕ) → read_on model (given bounds [] front) n (map row_fields (map (λ (t : List ℕ × List ℕ). TypeRow t.0 t.1) back) ++ rest) ≡ r
types_read model bounds front [] rest r rise within each more n = rw (sym (append-nil front)) (more n)
types_read model bounds front (t ∷ back) rest r rise within each more n =
    let one = append_assoc front (t ∷ []) back in
    let next = types_read model bounds (front ++ t ∷ []) back rest r (subst (Rises type_cmp) (sym one) rise) (subst (AreWithinLimits []) (sym one) within) each.1 (λ m. ap (λ ts. read_on model (given bounds [] ts) m rest) one ∙ more m) (n + 1) in
    let step = type_read model bounds n (n == 1) front t each.0 (behind front t back rise) (within_front [] [] (front ++ t ∷ []) back (subst (AreWithinLimits []) (sym one) within)) in
    ap (λ s. read_on model s (n + 1) (map row_fields (map (λ (t : List ℕ × List ℕ). TypeRow t.0 t.1) back) ++ rest)) step ∙ next

-- ---- events

event_read : (model : Model) (bounds : Interval) (types : List (List ℕ × List ℕ)) (n : ℕ) (first : Bool) (front : List Event) (x : Event) → IsSayable bounds x → IsTrue (allows model x) → AllByRecursion (λ y. types_agree x y ≡ true) front
    → AreWithinLimits (front ++ x ∷ []) types → with_record (given bounds front types) n (judge model (given bounds front types) first (event_fields x)) ≡ given bounds (front ++ x ∷ []) types
event_read model bounds types n first front x sayable allowed agree within =
    rw (event-again first bounds x sayable, event_taken model types front x allowed agree within) refl

-- what the events of a list are that are read one behind another
record AreTaken (model : Model) (bounds : Interval) (types : List (List ℕ × List ℕ)) (xs : List Event) : Type 0 where
  pub sayable : AllByRecursion (IsSayable bounds) xs
  pub allowed : AllByRecursion (λ x. allows model x ≡ true) xs
  pub agree : AllByRecursion (λ x. AllByRecursion (λ y. types_agree x y ≡ true) xs) xs
  pub within : AreWithinLimits xs types

events_read : (model : Model) (bounds : Interval) (types : List (List ℕ × List ℕ)) (front back : List Event) → AreTaken model bounds types (front ++ back)
    → (n : ℕ) → read_on model (given bounds front types) n (map row_fields (map EventRow back)) ≡ given bounds (front ++ back) types
events_read model bounds types front [] h n = rw (append-nil front) refl
events_read model bounds types front (x ∷ back) h n =
    let one = append_assoc front (x ∷ []) back in
    let next = events_read model bounds types (front ++ x ∷ []) back (subst (AreTaken model bounds types) (sym one) h) (n + 1) in
    let all : List Event = front ++ x ∷ back in
    let agree = each_front (λ y. types_agree x y ≡ true) front (x ∷ back) (each_middle (λ z. AllByRecursion (λ y. types_agree z y ≡ true) all) front x back h.agree) in
    let within : AreWithinLimits ((front ++ x ∷ []) ++ back) types = subst (λ ys. AreWithinLimits ys types) (sym one) h.within in
    let few = within_front (front ++ x ∷ []) back types [] (subst (AreWithinLimits ((front ++ x ∷ []) ++ back)) (sym (append-nil types)) within) in
    let step = event_read model bounds types n (n == 1) front x (each_middle (IsSayable bounds) front x back h.sayable) (each_middle (λ y. allows model y ≡ true) front x back h.allowed) agree few in
    ap (λ s. read_on model s (n + 1) (map row_fields (map EventRow back))) step ∙ (next ∙ ap (λ ys. given bounds ys types) one)

-- ---- a world

-- the rows of a world that can be printed
pub world_said : (w : World) → IsPrintable w → reading w.model (world_text w) ≡ given w.bounds w.events w.types
world_said w h =
    let types = map (λ (t : List ℕ × List ℕ). TypeRow t.0 t.1) w.types in
    let events = map EventRow w.events in
    let parts = map-append row_fields types events in
    let none : AreWithinLimits [] w.types = within_front [] w.events w.types [] (subst (AreWithinLimits w.events) (sym (append-nil w.types)) h.storable.limits) in
    let taken : AreTaken w.model w.bounds w.types w.events = record {
      sayable = h.events;
      allowed = each_passes (allows w.model) w.events h.storable.lawful.allowed;
      agree = each_weaker (λ x. list_all (types_agree x) w.events ≡ true) (λ x. AllByRecursion (λ y. types_agree x y ≡ true) w.events) (λ x k. each_passes (types_agree x) w.events k) w.events (each_passes (λ x. list_all (types_agree x) w.events) w.events h.storable.lawful.typed);
      within = h.storable.limits;
    } in
    let rows = types_read w.model w.bounds [] w.types (map row_fields events) (given w.bounds w.events w.types) h.storable.lawful.types_rise none h.types (λ n. events_read w.model w.bounds w.types [] w.events taken n) 2 in
    ap (read_on w.model nothing_read 1) (world-back w)
    ∙ (ap (λ s. read_on w.model (with_record nothing_read 1 s) 2 (map row_fields (types ++ events))) (span_judged w.model w.bounds h.bounds)
    ∙ (ap (read_on w.model (given w.bounds [] []) 2) parts ∙ rows))
  where
    span_judged : (model : Model) (bounds : Interval) → IsTrue (are_bounds bounds) → judge model nothing_read true (span_fields bounds) ≡ Spans bounds
    span_judged model bounds is = rw (span-again nothing_read.bounds bounds is) refl

-- give the world
pub world_again : (w : World) → IsPrintable w → base_world w.model (world_text w) ≡ w
world_again w h = ap (world_of w.model) (world_said w h) ∙ base_of_itself w h.storable.lawful
