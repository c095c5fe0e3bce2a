use Rattle.std.proofs.Common.{◌≡◌, ◌∙◌, ◌++◌, List, map, slice_range, w64, ap, sym, arith, append-nil}
use Rattle.std.proofs.lemmas.Int.{to_z-of_z}
use Rattle.view_lists.specs.Moments.{carried_moments, moment_told}
use Rattle.view_lists.proofs.Spelled.{moments_none}
use Rattle.event_sweep.specs.declared.held_events.HeldEvent.{HeldEvent}
use Rattle.window_sweep.specs.Filling.{held_at}
use Rattle.window_sweep.proofs.Holding.{held_all, held_more}
use Rattle.window_sweep.proofs.filling.hold_span.Goals as goal

pub loop-i-init : goal.loop-i-init
loop-i-init g c =
    let front : List HeldEvent = c.hold_carried.new.held.items in
    record {
      cost = omega arith;
      held = sym (ap (λ ms. front ++ map (held_at c.args.number) ms) (moments_none c.args.history.now.updates c.args.span.from) ∙ append-nil front);
    }

pub loop-i-preserved : goal.loop-i-preserved
loop-i-preserved g c = record {
  cost = (let spent = c.loop-i.invariant.cost in let one = c.update_held.ensures.cost in let low = c.loop-i.auto.i in omega (arith, spent, one, low));
  held = (let end = c.requires.end in let low = c.loop-i.auto.i in
      held_more c.args.number c.args.history.now.updates c.args.span.from c.loop-i.i c.hold_carried.new.held.items c.loop-i.held.items c.push.new.self.items c.update_held.result (omega arith) (omega arith) c.loop-i.invariant.held c.in_ok-push.ensures.items c.update_held.ensures.held);
}

pub returns-clause-held : goal.returns-clause-held
returns-clause-held g c =
    let n = c.args.number in
    let us = c.args.history.now.updates in
    let span = c.args.span in
    let front : List HeldEvent = c.hold_carried.new.held.items in
    let order = c.requires.order in
    let over = c.loop-i.auto.i-end order in
    let past = c.loop-i-test.false in
    let stop : c.loop-i.i ≡ span.to = omega (arith, over, past) in
    let begun : front ≡ c.args.held.now.items ++ map (held_at n) (carried_moments us span c.args.lo) = c.in_ok-hold_carried.ensures ∙ ap (λ t. c.args.held.now.items ++ map (held_at n) (carried_moments us span t)) (to_z-of_z w64 c.args.lo c.ranges.lo) in
    held_all n us span c.args.lo c.args.held.now.items front c.loop-i.held.items begun
    (c.loop-i.invariant.held ∙ ap (λ i. front ++ map (held_at n) (map moment_told (slice_range us span.from i))) stop)

pub returns-clause-cost : goal.returns-clause-cost
returns-clause-cost g c =
    let order = c.requires.order in
    let over = c.loop-i.auto.i-end order in
    let spent = c.loop-i.invariant.cost in
    omega (arith, over, spent)

pub returns-in_err-push-clause-cost : goal.returns-in_err-push-clause-cost
returns-in_err-push-clause-cost g c =
    let spent = c.loop-i.invariant.cost in
    let one = c.update_held.ensures.cost in
    let low = c.loop-i.auto.i in
    let lt = c.loop-i-test.true in
    omega (arith, spent, one, low, lt)
