use Rattle.std.proofs.Common.{◌<◌, ◌∙◌, ◌++◌, ap, arith, length}
use Rattle.present_links.specs.Links.{ends_in, link_ends}
use Rattle.present_links.specs.Adjacent.{ways_along}
use Rattle.present_links.proofs.WayLists.{ways_more}
use Rattle.present_links.proofs.neighbour_rows.ways.Goals as goal

pub loop-i-preserved : goal.loop-i-preserved
loop-i-preserved c =
    let below : c.loop-i.i < length c.args.links.now = (let lt = c.loop-i-test.true in let long = c.len-i-end.ensures in omega (arith, lt, long)) in
    record {
      ways = ways_more c.args.nodes.now c.args.direction c.args.links.now c.loop-i.i (link_ends c.item.result) below c.item.ensures (ends_in c.loop-i.ways.items) (ends_in c.push_ways.new.ways.items) c.loop-i.invariant.ways
          (c.in_ok-push_ways.ensures ∙ ap (λ p. ends_in c.loop-i.ways.items ++ ways_along c.args.direction p) c.placed_link.ensures);
    }
