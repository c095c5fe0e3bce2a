use Rattle.std.proofs.Common.{◌<◌, length, sym, ap, ◌∙◌, arith}
use Rattle.std.specs.Option.{option_copied}
use Rattle.time_history.specs.Spans.{spelled}
use Rattle.graph_store.specs.Keys.{key_name}
use Rattle.view_trait.specs.Filtered.{key_holds}
use Rattle.entity_tests.proofs.Compared.{holds_within}
use Rattle.entity_tests.proofs.values.key_compares.Goals as goal

pub returns-then-key-keys : goal.returns-then-key-keys
returns-then-key-keys c = λ entity table lo fits len named.
    let us = c.args.history.now.updates in
    let less : c.in-Some.key < length table = omega (arith, c.if-key-keys.true, len) in
    c.holds.ensures
    ∙ (holds_within table c.in-Some.key c.args.cmp c.args.value.now us c.args.span (option_copied c.value.result) entity lo fits named less c.value.ensures
    ∙ ap (λ k. key_holds table k c.args.cmp c.args.value.now (spelled entity (key_name table) us c.args.span lo)) (sym c.in-Some.is))
