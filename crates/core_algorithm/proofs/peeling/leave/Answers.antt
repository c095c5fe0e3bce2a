use Rattle.core_algorithm.proofs.Placing.{left_out}
use Rattle.core_algorithm.proofs.Lowering.{stands}
use Rattle.core_algorithm.proofs.peeling.leave.Goals as goal

pub returns-clause-shelved : goal.returns-clause-shelved
returns-clause-shelved c =
    left_out c.args.buckets.now c.take.new.self c.args.left.now.items c.args._degrees.now c.args.node c.requires.shelved c.requires.node
    c.take.ensures.items c.take.ensures.lists

pub take-requires-clause-stands : goal.take-requires-clause-stands
take-requires-clause-stands c = stands c.args.buckets.now c.args.left.now.items c.args._degrees.now c.args.node c.requires.shelved c.requires.node
