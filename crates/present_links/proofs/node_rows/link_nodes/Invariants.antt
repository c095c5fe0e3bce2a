use Rattle.std.proofs.Common.{◌≡◌, ℕ, take}
use Rattle.view_trait.specs.Numbered.{is_listed}
use Rattle.present_links.specs.Links.{is_end}
use Rattle.present_links.proofs.node_rows.link_nodes.Given as goal

abbrev pub invariant-loop-i : goal.invariant-loop-i
invariant-loop-i l = record { numbers : (n : ℕ) → is_listed l.numbers.items n ≡ is_end (take l.i l.links) n }
