use Rattle.std.proofs.Common.{ap, sym, ◌∙◌, length}
use Rattle.lane_scan.proofs.MarkLaws.{length-rows_of}
use Rattle.lane_scan.proofs.timeline.Timeline.len.Goals as goal

pub returns : goal.returns
returns c =
    let times = c.self.inside.times in
    c.len.ensures
    ∙ (times.ok.0
    ∙ (sym (length-rows_of times.items c.self.inside.codes.items c.self.inside.numbers.items c.self.invariant.codes_len c.self.invariant.numbers_len)
    ∙ ap length c.self.view_is))
