use Rattle.std.proofs.Common.{◌∙◌, sym, ap, length}
use Rattle.present_links.specs.Adjacent.{AdjacentNodes}
use Rattle.present_links.proofs.OffsetParts.{length-parts}
use Rattle.present_links.proofs.adjacency.Adjacent.len.Goals as goal

pub returns-clause-rows : goal.returns-clause-rows
returns-clause-rows c =
    c.len.ensures ∙ c.self.inside.nodes.ok.0
    ∙ (sym (length-parts c.self.inside.others.items c.self.inside.starts.items (length c.self.inside.nodes.items) c.self.invariant.count) ∙ ap (λ (a : AdjacentNodes). length a.rows) c.self.view_is)
