use Rattle.std.proofs.Common.{◌-◌, ◌+◌, ◌<◌, ◌≤◌, get_or}
use Rattle.chunk_list.proofs.places.Places.last_within.Given as goal

-- the number at low is at most i, if that at the first place is, and that after high is greater
abbrev pub invariant-loop-low : goal.invariant-loop-low
invariant-loop-low l = record {
  from : l.from ≤ l.low;
  order : l.low ≤ l.high;
  end : l.high ≤ l.to;
  here : get_or l.self.items l.from 0 ≤ l.i → get_or l.self.items l.low 0 ≤ l.i;
  next : l.high < l.to → l.i < get_or l.self.items (l.high + 1) 0;
}

abbrev pub decreases-loop-low : goal.decreases-loop-low
decreases-loop-low l = l.high - l.low
