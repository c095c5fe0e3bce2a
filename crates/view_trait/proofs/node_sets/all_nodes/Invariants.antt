use Rattle.std.proofs.Common.{◌≡◌, ◌≤◌, ◌+◌, ◌-◌, ◌||◌, ℕ, length, take}
use Rattle.view_trait.specs.Numbered.{is_listed}
use Rattle.view_trait.proofs.node_sets.all_nodes.Given as goal

-- the numbers taken so far are listed
abbrev pub invariant-loop-i : goal.invariant-loop-i
invariant-loop-i l = record {
  first : l.i ≤ length l.first;
  second : l.j ≤ length l.second;
  listed : (n : ℕ) → is_listed l.nodes n ≡ (is_listed (take l.i l.first) n || is_listed (take l.j l.second) n);
}

abbrev pub decreases-loop-i : goal.decreases-loop-i
decreases-loop-i l = (length l.first - l.i) + (length l.second - l.j)
