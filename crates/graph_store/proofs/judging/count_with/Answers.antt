use Rattle.std.proofs.Common.{◌∙◌, [], sym, ap, ◌+◌}
use Rattle.graph_model.specs.Names.{same_name}
use Rattle.graph_store.proofs.Readers.{none_found, one_found}
use Rattle.graph_store.proofs.JudgeLaws.{count-known, count-new}
use Rattle.graph_store.proofs.judging.count_with.Goals as goal

pub returns-in-Some : goal.returns-in-Some
returns-in-Some c =
    c.len-known.ensures.len
    ∙ sym (count-known c.args.names.now.names c.args.name.now (one_found (same_name c.args.name.now) c.args.names.now.names c.in-Some.field-0 [] (sym c.in-Some.ensures)))

pub returns-in-None : goal.returns-in-None
returns-in-None c =
    ap (λ n. n + 1) c.len-known.ensures.len
    ∙ sym (count-new c.args.names.now.names c.args.name.now (none_found (same_name c.args.name.now) c.args.names.now.names (sym c.in-None.ensures)))
