-- Events in the order of time, and what a window over them shows.
use Rattle.std.specs.Prelude.{ℕ, ℤ, ◌≡◌, ◌≤◌, ◌<◌, ◌≤ℤ◌, ◌<ℤ◌, ◌==◌, ◌&&◌, ◌||◌, not, int_le, int_lt, List, Bool, false, length, take, slice_index_or, None}
use Rattle.std.specs.Option.{option_map_or}
use Rattle.std.specs.List.{filter, list_any, last_or, AllPairs}
use Rattle.event_sweep.specs.Numbers.{is_listed}
use Rattle.event_sweep.specs.declared.held_events.HeldEvent.{HeldEvent}

-- no event is earlier than one before it
abbrev pub TimesRise : List HeldEvent → Type 0
TimesRise held = AllPairs (λ (x y : HeldEvent). x.time ≤ℤ y.time) held

-- whether an event is of this number
abbrev pub is_of : ℕ → HeldEvent → Bool
is_of n x = x.number == n

-- whether an event is earlier than a moment, and whether it is from one moment up to another
abbrev pub is_before : ℤ → HeldEvent → Bool
is_before t x = int_lt x.time t

abbrev pub is_between : ℤ → ℤ → HeldEvent → Bool
is_between from to x = int_le from x.time && int_lt x.time to

-- the events before a moment, and those from one moment up to another
abbrev pub events_before : ℤ → List HeldEvent → List HeldEvent
events_before t held = filter (is_before t) held

abbrev pub events_between : ℤ → ℤ → List HeldEvent → List HeldEvent
events_between from to held = filter (is_between from to) held

-- whether one of these events is of a number
abbrev pub has_event : List HeldEvent → ℕ → Bool
has_event held n = list_any (is_of n) held

-- whether the last of a number's events is there and deletes nothing
abbrev pub ends_kept : List HeldEvent → ℕ → Bool
ends_kept held n = option_map_or (λ (x : HeldEvent). not x.deletes) (last_or None (filter (is_of n) held)) false

-- events in the order of time, whether what they add lasts, and the numbers of what a window shows of them
pub record Swept : Type 0 where
  pub carries : Bool
  pub held : List HeldEvent
  pub listed : List ℕ

-- what is carried over some events: where additions last, the numbers whose last event is no deletion
abbrev pub is_carried : Bool → List HeldEvent → ℕ → Bool
is_carried carries held n = carries && ends_kept held n

-- whether a window shows a number: an event of it is inside, or it is carried to the window's beginning
abbrev pub is_shown : Bool → List HeldEvent → ℤ → ℤ → ℕ → Bool
is_shown carries held from to n =
    has_event (events_between from to held) n || is_carried carries (events_before from held) n

-- ---- places among the events

-- the events before a place are earlier than a moment
abbrev pub AreEarlier : List HeldEvent → ℕ → ℤ → Type 0
AreEarlier held mark t = (k : ℕ) (d : HeldEvent) → k < mark → k < length held → (slice_index_or held k d).time <ℤ t

-- a place at which the events from a moment on begin
pub record IsMark (held : List HeldEvent) (mark : ℕ) (t : ℤ) : Type 0 where
  pub within : mark ≤ length held
  pub before : AreEarlier held mark t
  pub from : (k : ℕ) (d : HeldEvent) → mark ≤ k → k < length held → t ≤ℤ (slice_index_or held k d).time

-- a place, and the numbers that are carried over the events before it
pub record IsPassed (carries : Bool) (held : List HeldEvent) (mark : ℕ) (carried : List ℕ) : Type 0 where
  pub within : mark ≤ length held
  pub exactly : (n : ℕ) → is_listed carried n ≡ is_carried carries (take mark held) n
