use Rattle.std.proofs.Common.{◌≡◌, ℕ, ◌+◌, ◌≤◌, ◌||◌, length, take}
use Rattle.event_sweep.specs.Numbers.{is_listed}
use Rattle.event_sweep.specs.Swept.{has_event}
use Rattle.event_sweep.proofs.held_events.add_numbers.Given as goal

-- the numbers of the events so far
abbrev pub invariant-loop-x : goal.invariant-loop-x
invariant-loop-x l = record {
  listed : (n : ℕ) → is_listed l.listed n ≡ (has_event (take l.x-index l.held) n || is_listed l.fn.listed n);
  few : length l.listed ≤ length l.fn.listed + l.x-index;
}
