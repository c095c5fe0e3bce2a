use Rattle.std.proofs.Common.{◌≡◌, map, take}
use Rattle.std.specs.List.{All}
use Rattle.walk_algorithms.specs.Visits.{IsNamed, visit_of}
use Rattle.walk_algorithms.proofs.by_name.named_visits.Given as goal

abbrev pub invariant-loop-i : goal.invariant-loop-i
invariant-loop-i l = record {
  visits : map visit_of l.named.items ≡ take l.i l.visited.visits;
  names : All (IsNamed l.store) l.named.items;
}
