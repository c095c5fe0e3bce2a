use Rattle.std.proofs.Common.{◌∙◌, length, take, ap, arith}
use Rattle.std.specs.Prelude.{is_some}
use Rattle.graph_store.specs.Keys.{type_in, with_keys, prop_at}
use Rattle.graph_store.proofs.KeyLaws.{length-with_keys, with_keys-prefix}
use Rattle.graph_store.proofs.JudgeLaws.{known_after}
use Rattle.graph_store.proofs.taking.take_node.Goals as goal

pub file_numbered-requires-clause-known : goal.file_numbered-requires-clause-known
file_numbered-requires-clause-known g c =
    λ i lt. ap (λ keys. is_some (type_in keys (prop_at c.args.props.now i).0)) c.in_ok-add.ensures.ok ∙ known_after c.args.keys.now c.args.props.now i lt

pub cut-requires : goal.cut-requires
cut-requires g c =
    let known = c.count-known.ensures in
    let is = ap length c.in_ok-add.ensures.ok in
    let more = length-with_keys c.args.keys.now c.args.props.now in
    omega arith

pub returns-in-Err-clause-err_keys : goal.returns-in-Err-clause-err_keys
returns-in-Err-clause-err_keys g c =
    c.cut.ensures
    ∙ (ap (take c.count-known.result) c.in_ok-add.ensures.ok
    ∙ (ap (λ n. take n (with_keys c.args.keys.now c.args.props.now)) c.count-known.ensures
    ∙ with_keys-prefix c.args.keys.now c.args.props.now))
