use Rattle.std.proofs.Common.{◌<◌, arith}
use Rattle.std.proofs.lemmas.Bool.Decides.{nat_tests}
use Rattle.chunk_list.proofs.Middles.{IsShorter-log}
use Rattle.chunk_list.proofs.near.is_shorter.Goals as goal

pub returns-else-n-eq0 : goal.returns-else-n-eq0
returns-else-n-eq0 c = λ h.
    let less : c.ilog2.result < c.ilog2-else-n-eq0.result = grind (arith, nat_tests) in
    IsShorter-log c.args.n c.args.whole c.ilog2.result c.ilog2-else-n-eq0.result c.ilog2.ensures.next_power_gt c.ilog2-else-n-eq0.ensures.power_le less
