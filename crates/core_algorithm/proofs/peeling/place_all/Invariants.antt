use Rattle.std.proofs.Common.{◌≡◌, ℕ, ◌<◌, ◌≤◌, true, false, length}
use Rattle.present_links.specs.Adjacent.{row_at}
use Rattle.core_algorithm.specs.Peeled.{is_left, degree_of, AreShelved}
use Rattle.core_algorithm.proofs.peeling.place_all.Given as goal

-- the nodes in the places before stand in the buckets of their degrees, and no others are left
abbrev pub invariant-loop-v : goal.invariant-loop-v
invariant-loop-v l = record {
  shelved : AreShelved l.buckets l.left.items l.degrees.items;
  len : length l.left.items ≡ length l.adjacent.rows;
  before : (v : ℕ) → v < l.v → is_left l.left.items v ≡ true;
  after : (v : ℕ) → l.v ≤ v → is_left l.left.items v ≡ false;
  degrees : (v : ℕ) → v < l.v → degree_of l.degrees.items v ≡ length (row_at l.adjacent.rows v);
}
