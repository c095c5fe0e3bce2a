use Rattle.std.proofs.Common.{◌-◌, ◌<◌, ◌≤◌, get_or}
use Rattle.chunk_list.proofs.places.last_at_most.Given as goal

-- the number at low is at most i, and that at high is greater, if there is one
abbrev pub invariant-loop-low : goal.invariant-loop-low
invariant-loop-low l = record {
  from : l.from ≤ l.low;
  order : l.low < l.high;
  end : l.high ≤ l.to;
  here : get_or l.numbers l.low 0 ≤ l.i;
  next : l.high < l.to → l.i < get_or l.numbers l.high 0;
}

abbrev pub decreases-loop-low : goal.decreases-loop-low
decreases-loop-low l = l.high - l.low
