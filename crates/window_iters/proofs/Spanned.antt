-- The first and the last time of a world, and its windows.
use Rattle.std.proofs.Common.{◌≡◌, ℤ, ◌≤ℤ◌, ◌<ℤ◌, List, [], ◌∷◌, Some, true, length, sym, subst, ◌∙◌, ap}
use Rattle.std.specs.Prelude.{Result, Ok, Err, IfOk, IfErr}
use Rattle.std.specs.List.{list_all}
use Rattle.std.proofs.lemmas.Bool.{and_parts}
use Rattle.graph_model.specs.declared.events.Event.{Event}
use Rattle.graph_model.specs.declared.queries.Each.{Each}
use Rattle.graph_model.specs.Interval.{Interval, is_inside}
use Rattle.graph_model.specs.World.{World, IsLawful}
use Rattle.graph_model.specs.Windows.{windows, window_count, last_time}
use Rattle.world_laws.proofs.Each.{count_of_windows}
use Rattle.world_laws.proofs.Listed.{in_order_from_arranged}
use Rattle.world_laws.proofs.Nested.{TimesRise}
use Rattle.world_laws.proofs.Times.{inside_hi}
use Rattle.world_laws.proofs.Windows.{TimesRise-in_order}
use Rattle.view_trait.specs.Extent.{time_of_first, time_of_last}
use Rattle.view_trait.proofs.Extents.{IsExtent-rising}
use Rattle.window_ends.specs.declared.ends.Ends.{Ends}
use Rattle.window_ends.specs.declared.counting.TooMany.{TooMany}
use Rattle.window_ends.specs.Ends.{all_ends, windows_at}
use Rattle.window_ends.proofs.Reckoned.{windows_at-all}

-- the times between which the events of a world are, and the windows from the first to the last
pub record IsSpanned (w : World) (each : Each) (first last : ℤ) : Type 0 where
  pub order : first ≤ℤ last
  pub ends : last <ℤ w.bounds.hi
  pub windows_are : windows_at w (all_ends each first last) ≡ windows w (Some each)
  pub counted : length (windows w (Some each)) ≡ window_count each first last

last_inside : (i : Interval) (x : Event) (xs : List Event) → list_all (λ (y : Event). is_inside i y.time) (x ∷ xs) ≡ true → is_inside i (last_time x.time xs) ≡ true
last_inside i x [] h = (and_parts _ _ h).0
last_inside i x (y ∷ ys) h = last_inside i y ys (and_parts (is_inside i x.time) _ h).1

spanned_by : (w : World) (each : Each) (x : Event) (xs : List Event) → IsLawful w → w.events ≡ x ∷ xs → IsSpanned w each x.time (last_time x.time xs)
spanned_by w each x xs lawful e =
    let rise = subst TimesRise e (TimesRise-in_order w.events (in_order_from_arranged w.events lawful.arranged)) in
    record {
      order = (IsExtent-rising (x ∷ xs) rise).last.0.0;
      ends = inside_hi w.bounds (last_time x.time xs) (last_inside w.bounds x xs (subst (λ ys. list_all (λ (y : Event). is_inside w.bounds y.time) ys ≡ true) e lawful.inside));
      windows_are = windows_at-all w each x xs e;
      counted = count_of_windows w each x xs e;
    }

-- where the first and the last time are known
pub spanned : (w : World) (each : Each) (xs : List Event) (first last : ℤ) → IsLawful w → w.events ≡ xs → time_of_first xs ≡ Some first → time_of_last xs ≡ Some last → IsSpanned w each first last
spanned w each [] first last lawful e f l = absurd (let no : ⊥ = cc in no)
spanned w each (x ∷ xs) first last lawful e f l =
    let p : x.time ≡ first = cc in
    let q : last_time x.time xs ≡ last = cc in
    subst (λ (s : ℤ). IsSpanned w each s last) p (subst (λ (t : ℤ). IsSpanned w each x.time t) q (spanned_by w each x xs lawful e))

-- so the ends that are found are those of the windows of the world, and too many are as many as these
pub ends_windows : (w : World) (each : Each) (first last : ℤ) (r : Result (List Ends) TooMany) → IsSpanned w each first last → IfOk r (λ ends. ends ≡ all_ends each first last) → IfOk r (λ ends. windows_at w ends ≡ windows w (Some each))
ends_windows w each first last (Ok ends) s h = ap (windows_at w) h ∙ s.windows_are
ends_windows w each first last (Err many) s h = tt

pub ends_counted : (w : World) (each : Each) (first last : ℤ) (r : Result (List Ends) TooMany) → IsSpanned w each first last → IfErr r (λ many. many.count ≡ window_count each first last) → IfErr r (λ many. many.count ≡ length (windows w (Some each)))
ends_counted w each first last (Ok ends) s h = tt
ends_counted w each first last (Err many) s h = h ∙ sym s.counted
