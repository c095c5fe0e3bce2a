use Rattle.std.proofs.Common.{arith, ◌≡◌, ℤ, length, ap, subst, true, false, ◌<ℤ◌, ◌≤ℤ◌, w64}
use Rattle.std.specs.Prelude.{int_lt}
use Rattle.std.proofs.lemmas.Int.{to_z-of_z}
use Rattle.world_laws.proofs.Times.{lt_from_test, ge_from_test}
use Rattle.time_history.proofs.ByPlace.{length-updates_of, time_by_place, rising_times}
use Rattle.time_history.proofs.history.History.first_from.Goals as goal

pub first_after-requires-clause-within : goal.first_after-requires-clause-within
first_after-requires-clause-within g c =
    let s = c.self.inside in
    let cs = s.column.besides in
    let h = c.self.invariant.lengths in
    omega (arith, ap length (ap (λ k. k.updates) c.self.view_is), length-updates_of s.column.stamps cs h, c.requires.end)

earlier : (a b t u : ℤ) → int_lt a t ≡ true → a ≡ b → t ≡ u → b <ℤ u
earlier a b t u h p q = let k = lt_from_test a t h in subst (λ x. b <ℤ x) q (subst (λ x. x <ℤ t) p k)

later : (a b t u : ℤ) → int_lt a t ≡ false → a ≡ b → t ≡ u → u ≤ℤ b
later a b t u h p q = let k = ge_from_test a t h in subst (λ x. x ≤ℤ b) q (subst (λ x. t ≤ℤ x) p k)

pub returns-clause-before : goal.returns-clause-before
returns-clause-before g c =
    let s = c.self.inside in
    let cs = s.column.besides in
    let h = c.self.invariant.lengths in
    λ k a b. earlier _ _ _ _ (c.first_after.ensures.before k a b) (time_by_place s.column.stamps cs c.args.self.now.updates k h (ap (λ k. k.updates) c.self.view_is) (omega (arith, b, c.first_after.ensures.to, c.requires.end))) (to_z-of_z w64 c.args.time c.ranges.time)

pub returns-clause-after : goal.returns-clause-after
returns-clause-after g c =
    let s = c.self.inside in
    let cs = s.column.besides in
    let h = c.self.invariant.lengths in
    λ k a b. later _ _ _ _ (c.first_after.ensures.after k a b) (time_by_place s.column.stamps cs c.args.self.now.updates k h (ap (λ k. k.updates) c.self.view_is) (omega (arith, b, c.requires.end))) (to_z-of_z w64 c.args.time c.ranges.time)

pub returns-clause-rise : goal.returns-clause-rise
returns-clause-rise g c =
    let s = c.self.inside in
    let cs = s.column.besides in
    let h = c.self.invariant.lengths in
    rising_times s.column.stamps cs c.args.self.now.updates h (ap (λ k. k.updates) c.self.view_is) c.self.invariant.rising
