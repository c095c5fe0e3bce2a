use Rattle.std.proofs.Common.{◌<◌, arith, length}
use Rattle.present_links.specs.Links.{link_ends}
use Rattle.present_links.proofs.Present.{ends_more}
use Rattle.present_links.proofs.node_rows.link_nodes.Goals as goal

pub loop-i-preserved : goal.loop-i-preserved
loop-i-preserved c =
    let below : c.loop-i.i < length c.args.links.now = (let lt = c.loop-i-test.true in let long = c.len-i-end.ensures in omega (arith, lt, long)) in
    record {
      numbers = ends_more c.args.links.now c.loop-i.i (link_ends c.item-link.result) below c.item-link.ensures c.loop-i.numbers.items c.push.new.self.items c.push-in-loop-i.new.self.items c.loop-i.invariant.numbers c.in_ok-push.ensures.items c.in_ok-push-2.ensures.items;
    }
