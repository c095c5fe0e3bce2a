-- Tests of stamps that rise.
use Rattle.std.proofs.Common.{◌≡◌, ℕ, ◌+◌, ◌<◌, ◌≤◌, true, false, List, length, sym, ap, ◌∙◌, arith, inl, inr}
use Rattle.std.proofs.lemmas.Int.{ints}
use Rattle.std.proofs.lemmas.Bool.{cases_Bool, true≢false}
use Rattle.std.proofs.lemmas.Bool.Decides.{nat_tests}
use Rattle.time_column.specs.Stamp.{Stamp, stamp_at, IsBefore, IsRising}
use Rattle.world_laws.proofs.Times.{lt_from_test, lt_test}
use Rattle.time_history.specs.declared.search.Probe.{Probe}
use Rattle.time_history.specs.declared.search.Probe.TheVariants.{Earlier, NotAfter}
use Rattle.time_history.specs.Probe.{passes}
use Rattle.time_history.proofs.Places.{before_or_last, same_or_more}

-- a stamp passes if one after it does
pub passes_before : (p : Probe) (a b : Stamp) → IsBefore a b → passes p b ≡ true → passes p a ≡ true
passes_before (Earlier t) a b h e = let le = h.time in let lt = lt_from_test b.time t e in lt_test a.time t (omega (arith, ints))
passes_before (NotAfter t o) a b h e = let le = h.time in let same = h.order in grind (arith, ints, nat_tests)

-- a stamp fails if one before it does
pub fails_after : (p : Probe) (a b : Stamp) → IsBefore a b → passes p a ≡ false → passes p b ≡ false
fails_after p a b h e = elim (cases_Bool (passes p b)) [
  | inl t ↦ absurd (true≢false (sym (passes_before p a b h t) ∙ e))
  | inr f ↦ f
]

-- where one place passes, all up to it do
pub passes_up_to : (p : Probe) (xs : List Stamp) (mid k : ℕ) → IsRising xs → mid < length xs → passes p (stamp_at xs mid) ≡ true → k < mid + 1 → passes p (stamp_at xs k) ≡ true
passes_up_to p xs mid k rise lt e h = elim (before_or_last k mid h) [
  | inl m ↦ passes_before p (stamp_at xs k) (stamp_at xs mid) (rise k mid m lt) e
  | inr m ↦ ap (λ i. passes p (stamp_at xs i)) m ∙ e
]

-- where one place fails, all from it on do
pub fails_from : (p : Probe) (xs : List Stamp) (mid k : ℕ) → IsRising xs → k < length xs → passes p (stamp_at xs mid) ≡ false → mid ≤ k → passes p (stamp_at xs k) ≡ false
fails_from p xs mid k rise lt e h = elim (same_or_more mid k h) [
  | inl m ↦ ap (λ i. passes p (stamp_at xs i)) (sym m) ∙ e
  | inr m ↦ fails_after p (stamp_at xs mid) (stamp_at xs k) (rise mid k m lt) e
]
