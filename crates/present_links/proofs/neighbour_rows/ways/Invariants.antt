use Rattle.std.proofs.Common.{◌≡◌, take}
use Rattle.present_links.specs.Links.{ends_in}
use Rattle.present_links.specs.Adjacent.{ways_of}
use Rattle.present_links.proofs.neighbour_rows.ways.Given as goal

abbrev pub invariant-loop-i : goal.invariant-loop-i
invariant-loop-i l = record { ways : ends_in l.ways.items ≡ ways_of l.nodes l.direction (take l.i l.links) }
