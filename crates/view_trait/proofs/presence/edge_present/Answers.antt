use Rattle.std.proofs.Common.{sym, subst}
use Rattle.time_history.specs.Spans.{IsAllowed}
use Rattle.view_trait.proofs.presence.edge_present.Goals as goal

pub present-requires-clause-allowed : goal.present-requires-clause-allowed
present-requires-clause-allowed g c = subst (λ m. IsAllowed m c.edge_history.result.now.updates) (sym c.model.ensures) c.edge_history.ensures.allowed
