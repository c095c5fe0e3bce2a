use Rattle.std.proofs.Common.{◌-◌, length, take}
use Rattle.walk_algorithms.specs.Counted.{CountsWays}
use Rattle.present_links.specs.Links.{ends_in}
use Rattle.walk_algorithms.proofs.Paired.{NoneCut}
use Rattle.walk_algorithms.proofs.link_ways.count_links.Given as goal

-- the first links are counted, and none of them is parted from its way back
abbrev pub invariant-loop-i : goal.invariant-loop-i
invariant-loop-i l = record {
  counted : CountsWays (ends_in l.links) (take l.i (ends_in l.links)) l.ways;
  cut : NoneCut (ends_in l.links) l.i;
}

-- proposed from the loop's first test
abbrev pub decreases-loop-i : goal.decreases-loop-i
decreases-loop-i l = length l.links - l.i
