use Rattle.std.proofs.Common.{arith, rules, ◌≡◌, ℕ, ◌<◌, ◌≤◌, inl, inr, ℤ, pos, ◌+ℤ◌, ◌≤ℤ◌, ◌<ℤ◌, true, false, Some, sym, ap, ◌∙◌, subst, w64, SFits, to_z, of_z}
use Rattle.std.specs.Int.{int_max}
use Rattle.std.proofs.lemmas.Int.{to_z-of_z}
use Rattle.graph_model.specs.declared.events.Model.TheVariants.{Persistent}
use Rattle.graph_model.specs.Interval.{Interval, is_inside, latest}
use Rattle.world_laws.proofs.Times.{inside_hi}
use Rattle.time_history.specs.Updates.{update_at}
use Rattle.time_history.specs.Asked.{IsAliveAt, IsNextContact, is_final_at}
use Rattle.time_history.proofs.Next.{next_beyond, next_first, next_none, next_final}
use Rattle.time_history.proofs.history.History.next_lasting.Goals as goal
use Rattle.time_history.proofs.Places.{before_or_last}
use Rattle.time_history.proofs.Moments.{next_moment, up_to_moment, after_moment}

max_is : (first after lo bound : ℤ) → SFits w64 after → SFits w64 (after +ℤ pos 1) → SFits w64 lo → lo ≡ bound
    → first ≡ int_max (to_z w64 (of_z w64 (to_z w64 (of_z w64 after) +ℤ pos 1))) (to_z w64 (of_z w64 lo)) → first ≡ int_max (after +ℤ pos 1) bound
max_is first after lo bound f g h e m = m ∙ (λ i. int_max (next_moment after f g i) ((to_z-of_z w64 lo h ∙ e) i))

next_fits : (m : ℤ) (bounds : Interval) → is_inside bounds m ≡ true → bounds.hi ≤ℤ latest → SFits w64 m → SFits w64 (m +ℤ pos 1)
next_fits m bounds h k f = let less = inside_hi bounds m h in search rules

pub returns-then-not-holds : goal.returns-then-not-holds
returns-then-not-holds g c =
    let fits : SFits w64 (c.args.after +ℤ pos 1) = search rules in
    let plain = to_z-of_z w64 c.later_of-first.result (record { sfits = c.later_of-first.type_inv }) in
    let is = max_is c.later_of-first.result c.args.after c.lo.result c.args.bounds.lo c.ranges.after fits (record { sfits = c.lo.type_inv }) c.lo.ensures.value c.later_of-first.ensures in
    next_beyond c.args.self.now.updates c.args.bounds c.args.span c.args.after c.later_of-first.result c.requires.span c.requires.cut is (subst (λ m. is_inside c.args.bounds m ≡ false) plain (sym c.if-not-holds.ensures.inside))

pub returns-then-lasts_at : goal.returns-then-lasts_at
returns-then-lasts_at g c =
    let fits : SFits w64 (c.args.after +ℤ pos 1) = search rules in
    let plain = to_z-of_z w64 c.later_of-first.result (record { sfits = c.later_of-first.type_inv }) in
    let is = max_is c.later_of-first.result c.args.after c.lo.result c.args.bounds.lo c.ranges.after fits (record { sfits = c.lo.type_inv }) c.lo.ensures.value c.later_of-first.ensures in
    subst (λ m. IsNextContact Persistent c.args.bounds c.args.self.now.updates c.args.span c.args.after (Some m)) (sym plain)
    (next_first c.args.self.now.updates c.args.bounds c.args.span c.args.after c.later_of-first.result c.requires.span c.requires.cut is (subst (λ m. IsAliveAt Persistent c.args.bounds c.args.self.now.updates c.args.span m true) plain (c.if-lasts_at.ensures.alive c.args.bounds (sym c.if-not-holds.ensures.inside))))

pub returns-then-is_final : goal.returns-then-is_final
returns-then-is_final g c =
    let fits : SFits w64 (c.args.after +ℤ pos 1) = search rules in
    let plain = to_z-of_z w64 c.later_of-first.result (record { sfits = c.later_of-first.type_inv }) in
    let is = max_is c.later_of-first.result c.args.after c.lo.result c.args.bounds.lo c.ranges.after fits (record { sfits = c.lo.type_inv }) c.lo.ensures.value c.later_of-first.ensures in
    let inside = subst (λ m. is_inside c.args.bounds m ≡ true) plain (sym c.if-not-holds.ensures.inside) in
    let dead : IsAliveAt Persistent c.args.bounds c.args.self.now.updates c.args.span c.later_of-first.result false =
    subst (λ m. IsAliveAt Persistent c.args.bounds c.args.self.now.updates c.args.span m false) plain (c.if-lasts_at.ensures.alive c.args.bounds (sym c.if-not-holds.ensures.inside)) in
    let f = c.first_from-at.ensures in
    let e = next_moment c.later_of-first.result (record { sfits = c.later_of-first.type_inv }) (next_fits c.later_of-first.result c.args.bounds inside c.requires.high (record { sfits = c.later_of-first.type_inv })) in
    let before : (k : ℕ) → c.args.span.from ≤ k → k < c.first_from-at.result → (update_at c.args.self.now.updates k).time ≤ℤ c.later_of-first.result = λ k a b. up_to_moment _ _ c.later_of-first.result (f.before k a b) e in
    let beyond : (k : ℕ) → c.first_from-at.result ≤ k → k < c.args.span.to → c.later_of-first.result <ℤ (update_at c.args.self.now.updates k).time = λ k a b. after_moment _ _ c.later_of-first.result (f.after k a b) e in
    subst (λ m. IsNextContact Persistent c.args.bounds c.args.self.now.updates c.args.span c.args.after (Some m)) (sym (to_z-of_z w64 c.time_at.result (record { sfits = c.time_at.type_inv }) ∙ c.time_at.ensures.value))
    (next_final c.args.self.now.updates c.args.bounds c.args.span c.args.after c.later_of-first.result c.requires.span c.requires.cut is f.rise inside dead c.first_from-at.result f.from f.to before beyond c.loop-i.i c.loop-i.auto.i c.loop-i-test.true c.loop-i.invariant (sym c.if-is_final.ensures))

pub returns : goal.returns
returns g c =
    let fits : SFits w64 (c.args.after +ℤ pos 1) = search rules in
    let plain = to_z-of_z w64 c.later_of-first.result (record { sfits = c.later_of-first.type_inv }) in
    let is = max_is c.later_of-first.result c.args.after c.lo.result c.args.bounds.lo c.ranges.after fits (record { sfits = c.lo.type_inv }) c.lo.ensures.value c.later_of-first.ensures in
    let inside = subst (λ m. is_inside c.args.bounds m ≡ true) plain (sym c.if-not-holds.ensures.inside) in
    let dead : IsAliveAt Persistent c.args.bounds c.args.self.now.updates c.args.span c.later_of-first.result false =
    subst (λ m. IsAliveAt Persistent c.args.bounds c.args.self.now.updates c.args.span m false) plain (c.if-lasts_at.ensures.alive c.args.bounds (sym c.if-not-holds.ensures.inside)) in
    let f = c.first_from-at.ensures in
    let e = next_moment c.later_of-first.result (record { sfits = c.later_of-first.type_inv }) (next_fits c.later_of-first.result c.args.bounds inside c.requires.high (record { sfits = c.later_of-first.type_inv })) in
    let before : (k : ℕ) → c.args.span.from ≤ k → k < c.first_from-at.result → (update_at c.args.self.now.updates k).time ≤ℤ c.later_of-first.result = λ k a b. up_to_moment _ _ c.later_of-first.result (f.before k a b) e in
    let beyond : (k : ℕ) → c.first_from-at.result ≤ k → k < c.args.span.to → c.later_of-first.result <ℤ (update_at c.args.self.now.updates k).time = λ k a b. after_moment _ _ c.later_of-first.result (f.after k a b) e in
    let over = c.loop-i-test.false in
    next_none c.args.self.now.updates c.args.bounds c.args.span c.args.after c.later_of-first.result c.requires.span c.requires.cut is f.rise inside dead c.first_from-at.result f.from f.to before beyond (λ k a b. c.loop-i.invariant k a (omega arith))

pub loop-i-preserved : goal.loop-i-preserved
loop-i-preserved g c = λ k a b. elim (before_or_last k c.loop-i.i b) [
  | inl lt ↦ c.loop-i.invariant k a lt
  | inr e ↦ ap (λ n. is_final_at c.args.self.now.updates n c.args.span.to) e ∙ sym c.if-is_final.ensures
]
