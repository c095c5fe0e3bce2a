use Rattle.std.proofs.Common.{◌≡◌, ◌≤◌, ◌+◌, ℕ, length, get_or}
use Rattle.present_links.specs.Links.{ends_in}
use Rattle.present_links.specs.Adjacent.{ways_before}
use Rattle.present_links.proofs.neighbour_rows.starts_of.Given as goal

abbrev pub invariant-loop-v : goal.invariant-loop-v
invariant-loop-v l = record {
  count : length l.starts.items ≡ l.v + 1;
  starts : (v : ℕ) → v ≤ l.v → get_or l.starts.items v 0 ≡ ways_before (ends_in l.ways) v;
}
