use Rattle.std.proofs.Common.{subst, sym}
use Rattle.time_history.specs.History.{IsSound}
use Rattle.time_history.proofs.history.History.reserve.Goals as goal

pub invariant_of-self : goal.invariant_of-self
invariant_of-self c =
    let s = c.self.inside in
    subst (λ ss. IsSound ss c.reserve.new.self.besides) (sym c.reserve.ensures.stamps) (subst (λ cs. IsSound s.column.stamps cs) (sym c.reserve.ensures.besides) c.self.invariant)
