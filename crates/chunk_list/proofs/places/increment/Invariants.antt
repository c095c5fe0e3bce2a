use Rattle.std.proofs.Common.{◌≡◌, ℕ, ◌+◌, ◌<◌, ◌≤◌, get_or}
use Rattle.chunk_list.proofs.places.increment.Given as goal

-- the numbers so far are one more, and the others as they were
abbrev pub invariant-loop-number : goal.invariant-loop-number
invariant-loop-number l = record {
  moved : (k : ℕ) → k < l.number-index → get_or l.numbers k 0 ≡ get_or l.fn.numbers k 0 + 1;
  left : (k : ℕ) → l.number-index ≤ k → get_or l.numbers k 0 ≡ get_or l.fn.numbers k 0;
}
