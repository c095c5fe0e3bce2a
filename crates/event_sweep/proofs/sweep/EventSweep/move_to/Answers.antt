use Rattle.std.proofs.Common.{rules, ◌≡◌, ◌||◌, ◌+◌, ◌≤◌, ℕ, false, length, w64, to_z, of_z, subst}
use Rattle.std.specs.Prelude.{slice_range}
use Rattle.std.proofs.lemmas.Int.{to_z-of_z}
use Rattle.std.proofs.lemmas.Result.{on_ok_weaker}
use mir.Val.{SFits}
use Rattle.event_sweep.specs.Numbers.{is_listed}
use Rattle.event_sweep.specs.Swept.{IsPassed, Swept, events_between, has_event, is_shown}
use Rattle.event_sweep.proofs.Marked.{AreMarks, all_shown, few_shown, same_mark}
use Rattle.event_sweep.proofs.sweep.EventSweep.move_to.Goals as goal

marks : (c : goal.After-list_between) → AreMarks c.self.inside.carries c.self.inside.held.items c.pass.new.mark c.mark_from-self-inside.result c.args.from c.args.to c.pass.new.carried
marks c =
    let held = c.self.inside.held.items in
    let from = c.args.from in
    let to = c.args.to in
    let fits_from : SFits w64 from = search rules in
    let fits_to : SFits w64 to = search rules in
    record {
      passed = subst (λ l. IsPassed c.self.inside.carries l c.pass.new.mark c.pass.new.carried) c.as_slice.ensures.value c.pass.ensures.passed;
      first = same_mark c.as_slice.result.now held c.pass.new.mark (to_z w64 (of_z w64 from)) from c.as_slice.ensures.value (to_z-of_z w64 from fits_from) c.in_ok-pass.ensures.ok;
      last = same_mark c.as_slice-2.result.now held c.mark_from-self-inside.result (to_z w64 (of_z w64 to)) to c.as_slice-2.ensures.value (to_z-of_z w64 to fits_to) c.mark_from-self-inside.ensures;
    }

pub returns-clause-listed : goal.returns-clause-listed
returns-clause-listed c =
    let s = c.self.inside in
    let i = c.pass.new.mark in
    let j = c.mark_from-self-inside.result in
    let carried = c.pass.new.carried in
    let listed = c.list_between.new.listed in
    on_ok_weaker c.list_between.result (λ ok.
    subst (λ (v : Swept). (n : ℕ) → is_listed listed n ≡ is_shown v.carries v.held c.args.from c.args.to n) c.self.view_is
    (all_shown s.carries s.held.items i j c.args.from c.args.to carried listed (marks c)
    (subst (λ l. (n : ℕ) → is_listed listed n ≡ (has_event (slice_range l i j) n || is_listed carried n)) c.as_slice-3.ensures.value
    (subst (λ l. (n : ℕ) → is_listed listed n ≡ (has_event (slice_range c.as_slice-3.result.now i j) n || is_listed l n)) c.numbers.ensures ok))))
    c.list_between.ensures.ok

pub returns-clause-few : goal.returns-clause-few
returns-clause-few c =
    let s = c.self.inside in
    let i = c.pass.new.mark in
    let j = c.mark_from-self-inside.result in
    let carried = c.pass.new.carried in
    let listed = c.list_between.new.listed in
    on_ok_weaker c.list_between.result (λ ok.
    subst (λ (v : Swept). v.carries ≡ false → length listed ≤ length (events_between c.args.from c.args.to v.held)) c.self.view_is
    (few_shown s.carries s.held.items i j c.args.from c.args.to carried listed (marks c)
    (subst (λ l. length listed ≤ length carried + length (slice_range l i j)) c.as_slice-3.ensures.value
    (subst (λ l. length listed ≤ length l + length (slice_range c.as_slice-3.result.now i j)) c.numbers.ensures c.list_between.ensures.few))))
    c.list_between.ensures.ok
