use Rattle.std.proofs.Common.{◌≡◌, ℕ, ◌+◌, ◌≤◌, ◌||◌, length, take}
use Rattle.event_sweep.specs.Numbers.{is_listed}
use Rattle.event_sweep.proofs.held_events.add_all.Given as goal

-- the numbers so far
abbrev pub invariant-loop-n : goal.invariant-loop-n
invariant-loop-n l = record {
  listed : (n : ℕ) → is_listed l.listed n ≡ (is_listed (take l.n-index l.numbers) n || is_listed l.fn.listed n);
  few : length l.listed ≤ length l.fn.listed + l.n-index;
}
