use Rattle.std.proofs.Common.{◌≡◌, ◌-◌, ◌<◌, true, length, ◌∙◌, arith, rules}
use Rattle.std.proofs.lemmas.List.{get_or_default}
use Rattle.core_algorithm.specs.Peeled.{is_left, degree_of}
use Rattle.core_algorithm.proofs.Lowering.{lowered, stands}
use Rattle.core_algorithm.proofs.peeling.lower.Goals as goal

pub move_to-requires-clause-stands : goal.move_to-requires-clause-stands
move_to-requires-clause-stands c =
    let here : is_left c.args.left.now c.args.node ≡ true = search rules in
    stands c.args.buckets.now c.args.left.now c.args.degrees.now.items c.args.node c.requires.shelved here

pub returns-clause-shelved : goal.returns-clause-shelved
returns-clause-shelved c =
    let here : is_left c.args.left.now c.args.node ≡ true = search rules in
    let it : c.args.node < length c.args.degrees.now.items = omega (arith, c.requires.node, c.requires.shelved.lengths) in
    let read : c.index.result.now ≡ degree_of c.args.degrees.now.items c.args.node = c.index.ensures ∙ get_or_default c.args.degrees.now.items c.args.node c.index.result.now 0 it in
    lowered c.args.buckets.now c.move_to.new.self c.args.left.now c.args.degrees.now.items c.args.node (c.index.result.now - 1) c.requires.shelved here
    (omega (arith, read, c.requires.some here)) c.move_to.ensures.items c.move_to.ensures.lists
