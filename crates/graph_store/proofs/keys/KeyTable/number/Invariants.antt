use Rattle.std.proofs.Common.{◌≡◌, ◌<◌, ℕ, length, take}
use Rattle.std.specs.List.{AllByRecursion}
use Rattle.graph_model.specs.declared.properties.Value.{Value}
use Rattle.time_history.specs.KeyValues.{KeyNumbersRise}
use Rattle.time_history.specs.Telling.{with_key_names}
use Rattle.graph_store.specs.Keys.{key_name}
use Rattle.graph_store.specs.Numbered.{pairs_in}
use Rattle.graph_store.proofs.keys.KeyTable.number.Given as goal

abbrev pub invariant-loop-i : goal.invariant-loop-i
invariant-loop-i l = record {
  names : with_key_names (key_name l.self) (pairs_in l.numbered.items) ≡ take l.i l.props;
  below : AllByRecursion (λ (p : ℕ × Value). p.0 < length l.self) (pairs_in l.numbered.items);
  rise : KeyNumbersRise (pairs_in l.numbered.items);
}
