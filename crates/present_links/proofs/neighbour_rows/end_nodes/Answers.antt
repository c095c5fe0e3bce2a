use Rattle.std.proofs.Common.{◌∙◌}
use Rattle.present_links.proofs.Present.{numbers_settled}
use Rattle.present_links.proofs.neighbour_rows.end_nodes.Goals as goal

pub returns-clause-rise : goal.returns-clause-rise
returns-clause-rise c = (numbers_settled c.in_ok-nodes.nodes.items c.sort_unstable.new.self.items c.dedup.new.self.items c.sort_unstable.ensures.permutation c.sort_unstable.ensures.sorted c.dedup.ensures.filtered).0

pub returns-clause-nodes : goal.returns-clause-nodes
returns-clause-nodes c =
    λ n. (numbers_settled c.in_ok-nodes.nodes.items c.sort_unstable.new.self.items c.dedup.new.self.items c.sort_unstable.ensures.permutation c.sort_unstable.ensures.sorted c.dedup.ensures.filtered).1 n
    ∙ c.in_ok-nodes.ensures n
