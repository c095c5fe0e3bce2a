use Rattle.std.proofs.Common.{◌≡◌, ◌<◌, ◌+◌, ◌-◌, ℤ, sym, subst, ◌∙◌, ap, arith, ◌∷◌, length, rules, w64}
use Rattle.std.proofs.lemmas.Int.{to_z-of_z}
use mir.Val.{SFits}
use Rattle.window_ends.specs.Ends.{ends_at, ends_from}
use Rattle.window_ends.specs.declared.ends.Ends.{Ends}
use Rattle.window_ends.proofs.Reckoned.{ends_from-next, length-ends_from}
use Rattle.window_ends.proofs.ends_left.WindowEndsIterator.next.Goals as goal

pub returns-clause-steps : goal.returns-clause-steps
returns-clause-steps c =
    let s = c.self.inside in
    let less : s.next < s.count = omega (arith, c.self.invariant.order, c.if-self.false) in
    let e = ends_from-next s.each s.first s.next s.count less in
    let fits : SFits w64 s.first = search rules in
    let given = subst (λ (t : ℤ). c.ends_at-ends.result ≡ ends_at s.each t s.next) (to_z-of_z w64 s.first fits) c.ends_at-ends.ensures.ends in
    (sym c.self.view_is ∙ (e ∙ ap (λ (x : Ends). x ∷ ends_from s.each s.first (s.next + 1) (s.count - (s.next + 1))) (sym given)), c.ends_at-ends.ensures.bounds)

pub returns-clause-goes : goal.returns-clause-goes
returns-clause-goes c =
    let s = c.self.inside in
    let less : s.next < s.count = omega (arith, c.self.invariant.order, c.if-self.false) in
    let before = ap length (sym c.self.view_is) ∙ length-ends_from s.each s.first s.next (s.count - s.next) in
    let after = length-ends_from s.each s.first (s.next + 1) (s.count - (s.next + 1)) in
    record { on = λ h. (tt, tt, omega arith); keeps = tt; rests = λ h. tt }
