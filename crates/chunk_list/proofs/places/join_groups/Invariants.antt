use Rattle.std.proofs.Common.{◌≡◌, ℕ, ◌+◌, ◌/◌, ◌<◌, ◌≤◌, get_or}
use Rattle.chunk_list.proofs.places.join_groups.Given as goal

-- the numbers so far are sums, and the others as they were
abbrev pub invariant-loop-k : goal.invariant-loop-k
invariant-loop-k l = record {
  start : l.from ≤ l.k;
  before : (j : ℕ) → j < l.from → get_or l.own j 0 ≡ get_or l.fn.own j 0;
  sums : (j : ℕ) → l.from ≤ j → j < l.k → get_or l.own j 0 ≡ get_or l.groups (j / 64) 0 + get_or l.fn.own j 0;
  left : (j : ℕ) → l.k ≤ j → get_or l.own j 0 ≡ get_or l.fn.own j 0;
}
