use Rattle.std.proofs.Common.{sym, ◌∙◌}
use Rattle.stack_view.proofs.Stood.{StandsFor-kept, StandsFor-nothing}
use Rattle.stack_view.proofs.bounded_spans.BoundedSpan.kept.Goals as goal

pub returns-then-keeps : goal.returns-then-keeps
returns-then-keeps c = λ p contents w x e h. StandsFor-kept p contents w x c.args.self (sym e ∙ c.if-keeps.true) h

pub returns-else-keeps : goal.returns-else-keeps
returns-else-keeps c = λ p contents w x e h. StandsFor-nothing p contents w x c.args.self c.nothing.result (sym e ∙ c.if-keeps.false) c.nothing.ensures h
