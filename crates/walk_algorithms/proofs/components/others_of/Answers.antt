use Rattle.std.proofs.Common.{[]}
use Rattle.walk_algorithms.specs.declared.by_name.NamedVisit.{NamedVisit}
use Rattle.walk_algorithms.proofs.Visits.{others_push}
use Rattle.walk_algorithms.proofs.components.others_of.Goals as goal

pub loop-x-preserved : goal.loop-x-preserved
loop-x-preserved c =
    let nobody : NamedVisit = record { name = record { ref_ptr = (0, 0); now = [] }; visit = record { node = 0; mark = 0 } } in
    record {
      nodes = others_push c.args.start.0 c.loop-x.nodes.items c.push_other.new.nodes.items c.args.named.now c.loop-x.x-index nobody c.in_ok-push_other.ensures c.loop-x-test.true c.loop-x.invariant.nodes;
    }
