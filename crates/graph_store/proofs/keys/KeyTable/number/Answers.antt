use Rattle.std.proofs.Common.{◌≡◌, ◌∙◌, ◌<◌, ℕ, length, sym, ap, subst, arith}
use Rattle.std.specs.Prelude.{is_some}
use Rattle.std.specs.List.{AllByRecursion}
use Rattle.graph_model.specs.declared.properties.Value.{Value}
use Rattle.time_history.specs.KeyValues.{KeyNumbersRise}
use Rattle.time_history.specs.Telling.{with_key_names}
use Rattle.graph_store.specs.Keys.{type_in, key_name}
use Rattle.graph_store.specs.Numbered.{pairs_in, put_number}
use Rattle.graph_store.proofs.KeyLaws.{key_there, AreNumberedTo, numbered_more}
use Rattle.graph_store.proofs.keys.KeyTable.number.Goals as goal

pub number_of-key-requires-clause-known : goal.number_of-key-requires-clause-known
number_of-key-requires-clause-known c =
    ap (λ x. is_some (type_in c.args.self.now x)) (sym (key_there c.args.props.now c.loop-i.i c.key_at.result.now (omega arith) c.key_at.ensures))
    ∙ c.requires.known c.loop-i.i (omega arith)

pub loop-i-preserved : goal.loop-i-preserved
loop-i-preserved c =
    let old : AreNumberedTo (key_name c.args.self.now) (length c.args.self.now) c.args.props.now c.loop-i.i (pairs_in c.loop-i.numbered.items) = record { named_so = c.loop-i.invariant.names; below = c.loop-i.invariant.below; rise = c.loop-i.invariant.rise } in
    let new = numbered_more (key_name c.args.self.now) (length c.args.self.now) c.args.props.now c.loop-i.i c.number_of-key.result c.key_at.result.now c.value_at.result.now (pairs_in c.loop-i.numbered.items)
    c.len-i-end.ensures.rise (omega arith) c.key_at.ensures c.value_at.ensures c.number_of-key.ensures.within c.number_of-key.ensures.name old in
    let put : pairs_in c.put.new.items.items ≡ put_number (c.number_of-key.result, c.value_at.result.now) (pairs_in c.loop-i.numbered.items) =
    c.in_ok-put.ensures.ok ∙ ap (λ v. put_number (c.number_of-key.result, v) (pairs_in c.loop-i.numbered.items)) c.in_ok-value.ensures in
    record {
      names = ap (with_key_names (key_name c.args.self.now)) put ∙ new.named_so;
      below = subst (AllByRecursion (λ (p : ℕ × Value). p.0 < length c.args.self.now)) (sym put) new.below;
      rise = subst KeyNumbersRise (sym put) new.rise;
    }
