use Rattle.std.proofs.Common.{◌∙◌}
use Rattle.core_algorithm.proofs.Finding.{state_begins}
use Rattle.core_algorithm.proofs.peeling.Peeling.start.Goals as goal

pub returns : goal.returns
returns c =
    state_begins c.args.adjacent.now.rows c.place_all.new.buckets c.place_all.new.left.items c.place_all.new.degrees.items c.in_ok-numbers.numbers.items c.requires.graph c.place_all.ensures.shelved
    c.place_all.ensures.len (c.in_ok-numbers.ensures.len ∙ c.len-len.ensures.rows) c.place_all.ensures.all c.place_all.ensures.degrees
