use Rattle.std.proofs.Common.{◌≡◌, map, take}
use Rattle.std.specs.List.{All}
use Rattle.present_links.specs.Links.{IsNamed}
use Rattle.present_links.proofs.node_rows.with_names.Given as goal

abbrev pub invariant-loop-n : goal.invariant-loop-n
invariant-loop-n l = record {
  numbers : map (λ x. x.node) l.named.items ≡ take l.n-index l.numbers;
  names : All (IsNamed l.store) l.named.items;
}
