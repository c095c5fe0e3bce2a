use Rattle.std.proofs.Common.{◌-◌, length, sym, ◌∙◌, ap}
use Rattle.window_ends.proofs.Reckoned.{length-ends_from}
use Rattle.window_ends.proofs.ends_left.WindowEnds.len.Goals as goal

pub returns : goal.returns
returns c = sym (length-ends_from c.self.inside.each c.self.inside.first c.self.inside.next (c.self.inside.count - c.self.inside.next)) ∙ ap length c.self.view_is
