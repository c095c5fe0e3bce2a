use Rattle.std.proofs.Common.{rules, ◌∙◌, [], sym, ap, ◌+◌}
use Rattle.graph_model.specs.Names.{same_name}
use Rattle.graph_store.proofs.Readers.{none_found, one_found}
use Rattle.graph_store.proofs.JudgeLaws.{both-same, both-known, both-new}
use Rattle.graph_store.proofs.judging.count_with_both.Goals as goal

pub returns-then-eq : goal.returns-then-eq
returns-then-eq c = c.count_with-known.ensures ∙ sym (both-same c.args.names.now.names c.args.first.now c.args.second.now (search rules))

pub returns-in-Some : goal.returns-in-Some
returns-in-Some c =
    c.count_with-known.ensures
    ∙ sym (both-known c.args.names.now.names c.args.first.now c.args.second.now (one_found (same_name c.args.second.now) c.args.names.now.names c.in-Some.field-0 [] (sym c.in-Some.ensures)))

pub returns-in-None : goal.returns-in-None
returns-in-None c =
    ap (λ n. n + 1) c.count_with-known.ensures
    ∙ sym (both-new c.args.names.now.names c.args.first.now c.args.second.now (search rules) (none_found (same_name c.args.second.now) c.args.names.now.names (sym c.in-None.ensures)))
