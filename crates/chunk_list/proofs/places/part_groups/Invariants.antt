use Rattle.std.proofs.Common.{◌≡◌, ℕ, ◌+◌, ◌*◌, ◌/◌, ◌<◌, ◌≤◌, length, get_or, vec_len}
use Rattle.std.specs.Vec.{vec_capacity}
use Rattle.chunk_list.proofs.places.part_groups.Given as goal

-- the numbers so far are in groups, and the others as they were
abbrev pub invariant-loop-k : goal.invariant-loop-k
invariant-loop-k l = record {
  start : 64 * l.from ≤ l.k;
  since : l.from ≤ vec_len l.groups;
  covered : l.k ≤ 64 * vec_len l.groups;
  begun : (g : ℕ) → g < vec_len l.groups → 64 * g < l.k;
  groups : (g : ℕ) → g < l.from → get_or l.groups.items g 0 ≡ get_or l.fn.groups.items g 0;
  before : (j : ℕ) → j < 64 * l.from → get_or l.own j 0 ≡ get_or l.fn.own j 0;
  first : (g : ℕ) → l.from ≤ g → g < vec_len l.groups → get_or l.groups.items g 0 ≡ get_or l.fn.own (64 * g) 0;
  sums : (j : ℕ) → 64 * l.from ≤ j → j < l.k → get_or l.groups.items (j / 64) 0 + get_or l.own j 0 ≡ get_or l.fn.own j 0;
  left : (j : ℕ) → l.k ≤ j → get_or l.own j 0 ≡ get_or l.fn.own j 0;
  room : length l.fn.own ≤ 64 * vec_capacity l.groups;
}
