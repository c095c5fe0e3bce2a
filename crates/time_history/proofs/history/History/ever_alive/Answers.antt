use Rattle.std.proofs.Common.{arith, ℤ, Bool, inl, inr, ◌≡◌, ◌<◌, true, false, sym, ◌∙◌, ap, subst, List, w64, SFits, to_z, of_z}
use Rattle.std.specs.Prelude.{int_lt}
use Rattle.std.proofs.lemmas.Int.{to_z-of_z}
use Rattle.std.proofs.lemmas.Bool.{true≢false}
use Rattle.graph_model.specs.declared.events.Model.TheVariants.{Persistent}
use Rattle.graph_model.specs.Interval.{Interval}
use Rattle.time_history.specs.declared.updates.Update.{Update}
use Rattle.time_history.specs.declared.span.Span.{Span}
use Rattle.time_history.specs.Updates.{update_at, TimesRise}
use Rattle.time_history.specs.Spans.{IsSpan, IsTaken}
use Rattle.time_history.specs.Asked.{IsPresent, is_final_at}
use Rattle.time_history.proofs.ByPlace.{rising_times}
use Rattle.time_history.proofs.Clips.{cut_of_taken}
use Rattle.time_history.proofs.Present.{present_found, present_none, present_carried, present_alone, present_bare}
use Rattle.time_history.proofs.history.History.ever_alive.Goals as goal
use Rattle.time_history.proofs.history.History.ever_alive.Goals.{else-span-2-via-then-span-2+else-is_later, else-span-2-via-else-span-2}
use Rattle.time_history.proofs.Places.{before_or_last}

alone : (bounds : Interval) (us : List Update) (span : Span) → TimesRise us → IsSpan us span → IsTaken Persistent bounds us span → span.from ≡ span.to → IsPresent Persistent bounds us span span.carried
alone bounds us span rise s (inl b) e = subst (IsPresent Persistent bounds us span) (sym b.1) (present_bare Persistent bounds us span b)
alone bounds us span rise s (inr cut) e = λ edge names fit. present_alone edge names us rise bounds span s fit cut e

-- the lower bound, as it is passed on
bound_is : (r lo t : ℤ) (b : Bool) → SFits w64 r → r ≡ lo → b ≡ int_lt (to_z w64 (of_z w64 r)) t → int_lt lo t ≡ b
bound_is r lo t b fits e h = sym (h ∙ ap (λ z. int_lt z t) (to_z-of_z w64 r fits ∙ e))

pub returns-then-span : goal.returns-then-span
returns-then-span g c =
    let s = c.self.inside in
    let cs = s.column.besides in
    let h = c.self.invariant.lengths in
    let rise = rising_times s.column.stamps cs c.args.self.now.updates h (ap (λ k. k.updates) c.self.view_is) c.self.invariant.rising in
    record { present = alone c.args.bounds c.args.self.now.updates c.args.span rise c.requires.span c.requires.taken c.if-span.true }

pub returns-then-is_later : goal.returns-then-is_later
returns-then-is_later g c =
    let s = c.self.inside in
    let cs = s.column.besides in
    let h = c.self.invariant.lengths in
    let rise = rising_times s.column.stamps cs c.args.self.now.updates h (ap (λ k. k.updates) c.self.view_is) c.self.invariant.rising in
    let cut = cut_of_taken (λ b. c.if-span.false b.0) c.requires.taken in
    let order = c.requires.span.order in
    let apart = c.if-span.false in
    let lt : c.args.span.from < c.args.span.to = omega arith in
    record {
      present = λ edge names fit. present_carried edge names c.args.self.now.updates rise c.args.bounds c.args.span c.requires.span fit cut c.if-span-2.true lt
          (bound_is c.lo.result c.args.bounds.lo (update_at c.args.self.now.updates c.args.span.from).time true (record { sfits = c.lo.type_inv }) c.lo.ensures.value c.if-is_later.ensures);
    }

pub returns-then-is_final : goal.returns-then-is_final
returns-then-is_final g c =
    let s = c.self.inside in
    let cs = s.column.besides in
    let h = c.self.invariant.lengths in
    let rise = rising_times s.column.stamps cs c.args.self.now.updates h (ap (λ k. k.updates) c.self.view_is) c.self.invariant.rising in
    let cut = cut_of_taken (λ b. c.if-span.false b.0) c.requires.taken in
    let order = c.requires.span.order in
    let apart = c.if-span.false in
    let lt : c.args.span.from < c.args.span.to = omega arith in
    record { present = λ edge names fit. present_found edge names c.args.self.now.updates rise c.args.bounds c.args.span c.requires.span fit cut c.loop-i.i c.loop-i.auto.i c.loop-i-test.true (sym c.if-is_final.ensures) }

pub returns : goal.returns
returns g c =
    let s = c.self.inside in
    let cs = s.column.besides in
    let h = c.self.invariant.lengths in
    let rise = rising_times s.column.stamps cs c.args.self.now.updates h (ap (λ k. k.updates) c.self.view_is) c.self.invariant.rising in
    let cut = cut_of_taken (λ b. c.if-span.false b.0) c.requires.taken in
    let order = c.requires.span.order in
    let apart = c.if-span.false in
    let lt : c.args.span.from < c.args.span.to = omega arith in
    let later : c.args.span.carried ≡ true → int_lt c.args.bounds.lo (update_at c.args.self.now.updates c.args.span.from).time ≡ false =
    elim c.else-span-2.branch [
      | else-span-2-via-then-span-2+else-is_later w ↦ λ e. bound_is w.lo.result c.args.bounds.lo (update_at c.args.self.now.updates c.args.span.from).time false (record { sfits = w.lo.type_inv }) w.lo.ensures.value w.if-is_later.ensures
      | else-span-2-via-else-span-2 w ↦ λ e. absurd (true≢false (sym e ∙ w.if-span-2.false))
    ] in
    let over = c.loop-i-test.false in
    record { present = λ edge names fit. present_none edge names c.args.self.now.updates rise c.args.bounds c.args.span c.requires.span fit cut lt later (λ k a b. c.loop-i.invariant k a (omega arith)) }

pub loop-i-preserved : goal.loop-i-preserved
loop-i-preserved g c = λ k a b. elim (before_or_last k c.loop-i.i b) [
  | inl lt ↦ c.loop-i.invariant k a lt
  | inr e ↦ ap (λ n. is_final_at c.args.self.now.updates n c.args.span.to) e ∙ sym c.if-is_final.ensures
]
