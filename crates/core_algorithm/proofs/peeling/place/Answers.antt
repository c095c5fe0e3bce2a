use Rattle.core_algorithm.proofs.Placing.{placed, free_of}
use Rattle.core_algorithm.proofs.peeling.place.Goals as goal

pub returns-clause-shelved : goal.returns-clause-shelved
returns-clause-shelved c =
    placed c.args.buckets.now c.put.new.self c.args.left.now.items c.args.degrees.now.items c.args.node c.args.degree c.requires.shelved c.requires.node c.requires.degree c.requires.free
    c.put.ensures.items c.put.ensures.lists

pub put-requires-clause-free : goal.put-requires-clause-free
put-requires-clause-free c = free_of c.args.buckets.now c.args.left.now.items c.args.degrees.now.items c.args.node c.requires.shelved c.requires.free
