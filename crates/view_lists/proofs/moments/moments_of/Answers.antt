use Rattle.std.proofs.Common.{arith}
use Rattle.view_lists.proofs.Spelled.{moments_pushed}
use Rattle.view_lists.proofs.moments.moments_of.Goals as goal

pub loop-i-preserved : goal.loop-i-preserved
loop-i-preserved g c =
    let end = c.requires.end in
    let low = c.loop-i.auto.i in
    moments_pushed c.args.history.now.updates c.args.span.from c.loop-i.i c.in_ok-items.items.items c.loop-i.items.items c.push.new.self.items c.moment_at.result (omega arith) (omega arith) c.loop-i.invariant c.in_ok-push.ensures.items c.moment_at.ensures
