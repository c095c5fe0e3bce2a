use Rattle.std.proofs.Common.{◌≡◌, ℕ, ◌+◌, true, take}
use Rattle.link_chain.specs.Buckets.{count_of}
use Rattle.core_algorithm.specs.Peeled.{is_left, degree_of, AreShelved}
use Rattle.core_algorithm.proofs.peeling.lower_each.Given as goal

abbrev pub invariant-loop-i : goal.invariant-loop-i
invariant-loop-i l = record {
  shelved : AreShelved l.buckets l.left l.degrees.items;
  degrees : (v : ℕ) → is_left l.left v ≡ true → degree_of l.degrees.items v + count_of v (take l.i l.nodes) ≡ degree_of l.fn.degrees.items v;
}
