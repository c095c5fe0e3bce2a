use Rattle.std.proofs.Common.{arith, ◌∙◌, ◌++◌, ◌∷◌, [], length, take, sym, ap}
use Rattle.graph_store.specs.Keys.{with_key, with_keys}
use Rattle.graph_store.proofs.KeyLaws.{take_prop, prop_there, with_keys-push, with_keys-prefix}
use Rattle.graph_store.proofs.keys.KeyTable.add.Goals as goal

pub returns-in-Err-clause-err : goal.returns-in-Err-clause-err
returns-in-Err-clause-err c =
    c.truncate.ensures.entries
    ∙ (ap (take c.len-known.result) (c.self-in-loop-i.view_is ∙ (c.in-Err.ensures.err ∙ c.loop-i.invariant))
    ∙ (ap (λ n. take n (with_keys c.args.self.now (take c.loop-i.i c.args.props.now))) (c.len-known.ensures.len ∙ ap length c.self.view_is)
    ∙ with_keys-prefix c.args.self.now (take c.loop-i.i c.args.props.now)))

pub loop-i-preserved : goal.loop-i-preserved
loop-i-preserved c =
    c.in_default.ensures.ok
    ∙ (ap (λ t. with_key t (c.key_at.result.now, c.value_at.result.now)) c.loop-i.invariant
    ∙ sym (ap (with_keys c.args.self.now) (take_prop c.args.props.now c.loop-i.i (omega arith) ∙ ap (λ p. take c.loop-i.i c.args.props.now ++ p ∷ []) (prop_there c.args.props.now c.loop-i.i c.key_at.result.now c.value_at.result.now (omega arith) c.key_at.ensures c.value_at.ensures))
    ∙ with_keys-push c.args.self.now (take c.loop-i.i c.args.props.now) (c.key_at.result.now, c.value_at.result.now)))
