use Rattle.std.proofs.Common.{Result, ap, subst, sym, ◌∙◌}
use Rattle.graph_model.specs.declared.queries.Query.{Query}
use Rattle.graph_model.specs.QueryLine.{reading_said}
use Rattle.graph_model.specs.Script.{QueryRefusal}
use Rattle.query_script.proofs.Lines.{not-both, said-of-text, said-unread}
use Rattle.query_script.specs.Refusing.{Gives}
use Rattle.query_script.proofs.line.read.Goals as goal

pub returns-in-Ok : goal.returns-in-Ok
returns-in-Ok c =
    let P : Result Query QueryRefusal → Type 0 = λ z. Gives c.query.result z in
    subst P (sym (said-of-text c.args.line.now c.in-Ok.ensures.ok.0 ∙ ap reading_said c.in-Ok.ensures.ok.1)) c.query.ensures

pub returns-else-is_memory : goal.returns-else-is_memory
returns-else-is_memory c = λ _. said-unread c.args.line.now (c.in-Err.ensures.err (λ memory. not-both c.is_memory.result c.if-is_memory.false (c.is_memory.ensures.1 memory)))
