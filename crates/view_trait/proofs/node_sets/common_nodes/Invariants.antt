use Rattle.std.proofs.Common.{◌≡◌, ◌&&◌, ℕ, take}
use Rattle.view_trait.specs.Numbered.{is_listed}
use Rattle.view_trait.proofs.node_sets.common_nodes.Given as goal

-- what is common to the numbers so far is listed
abbrev pub invariant-loop-i : goal.invariant-loop-i
invariant-loop-i l = (n : ℕ) → is_listed l.nodes n ≡ (is_listed (take l.i l.fn.first) n && is_listed l.fn.second n)
