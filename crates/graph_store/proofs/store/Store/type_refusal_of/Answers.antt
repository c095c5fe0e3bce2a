use Rattle.std.proofs.Common.{◌∙◌, sym, true≢false}
use Rattle.graph_store.proofs.TypeLaws.{own_type}
use Rattle.graph_store.proofs.JudgeLaws.{type-refused, type-not-refused}
use Rattle.graph_store.proofs.store.Store.type_refusal_of.Goals as goal

pub returns-in-Some-clause-again : goal.returns-in-Some-clause-again
returns-in-Some-clause-again c = λ e. absurd (true≢false (c.in-Some.ensures.other ∙ own_type c.args.self.now.types c.args.node.now c.args.kind.now e))

pub returns-in-Some-first_above-clause-refusal : goal.returns-in-Some-first_above-clause-refusal
returns-in-Some-first_above-clause-refusal c =
    type-refused c.args.self.now c.args.node.now c.args.kind.now (sym c.in_default.ensures.other) c.totals_with_type.result c.totals_with_type.ensures.totals c.in-Some-first_above.count c.in-Some-first_above.ensures

pub returns-in-None-clause-refusal : goal.returns-in-None-clause-refusal
returns-in-None-clause-refusal c =
    type-not-refused c.args.self.now c.args.node.now c.args.kind.now (sym c.in_default.ensures.other) c.totals_with_type.result c.totals_with_type.ensures.totals c.in-None.ensures
