use Rattle.std.proofs.Common.{◌≡◌, ◌∙◌, ◌++◌, List, [], ◌∷◌, cond, w64, ap, sym, arith, append-nil, slice_range}
use Rattle.std.proofs.lemmas.Int.{to_z-of_z}
use Rattle.time_history.specs.Telling.{events_told}
use Rattle.time_history.proofs.Segments.{slice_nothing}
use Rattle.view_lists.specs.Listing.{placed_from}
use Rattle.view_lists.specs.declared.listing.EventPlace.{EventPlace}
use Rattle.view_lists.proofs.SpanPlaces.{span_more, span_all}
use Rattle.view_lists.proofs.listing.push_span.Goals as goal

pub loop-i-init : goal.loop-i-init
loop-i-init g c = record {
  cost = omega arith;
  placed = λ x names fit.
      let front : List EventPlace = c.push_carried.new.places.items in
      let events = events_told x names c.args.history.now.updates in
      sym (ap (λ ys. front ++ placed_from c.args.shown c.in_ok-count.count ys) (slice_nothing events c.args.span.from) ∙ append-nil front);
}

pub loop-i-preserved : goal.loop-i-preserved
loop-i-preserved g c = record {
  cost = (let spent = c.loop-i.invariant.cost in let one = c.place_at.ensures.cost in let low = c.loop-i.auto.i in omega (arith, spent, one, low));
  placed = λ x names fit.
      let end = c.requires.end in
      let low = c.loop-i.auto.i in
      span_more x names c.args.history.now.updates c.args.shown c.in_ok-count.count c.args.span.from c.loop-i.i c.push_carried.new.places.items c.loop-i.places.items c.push.new.self.items c.place_at.result (omega arith) (omega arith) (c.loop-i.invariant.placed x names fit) c.in_ok-push.ensures.items c.place_at.ensures.place;
}

pub returns-clause-places : goal.returns-clause-places
returns-clause-places g c = λ x names fit.
    let front : List EventPlace = c.push_carried.new.places.items in
    let order = c.requires.order in
    let over = c.loop-i.auto.i-end order in
    let past = c.loop-i-test.false in
    let stop : c.loop-i.i ≡ c.args.span.to = omega (arith, over, past) in
    let begun = c.in_ok-count.ensures.places ∙ ap (λ t. c.args.places.now.items ++ cond c.args.span.carried (record { time = t; shown = c.args.shown; place = 0 } ∷ []) []) (to_z-of_z w64 c.args.lo c.ranges.lo) in
    span_all x names c.args.history.now.updates c.args.span c.requires fit c.args.lo c.args.shown c.in_ok-count.count c.args.places.now.items front c.loop-i.places.items begun c.in_ok-count.ensures.count
    (c.loop-i.invariant.placed x names fit ∙ ap (λ n. front ++ placed_from c.args.shown c.in_ok-count.count (slice_range (events_told x names c.args.history.now.updates) c.args.span.from n)) stop)

pub returns-clause-cost : goal.returns-clause-cost
returns-clause-cost g c =
    let order = c.requires.order in
    let over = c.loop-i.auto.i-end order in
    let spent = c.loop-i.invariant.cost in
    omega (arith, over, spent)

pub returns-in_err-push-clause-cost : goal.returns-in_err-push-clause-cost
returns-in_err-push-clause-cost g c =
    let spent = c.loop-i.invariant.cost in
    let one = c.place_at.ensures.cost in
    let low = c.loop-i.auto.i in
    let lt = c.loop-i-test.true in
    omega (arith, spent, one, low, lt)
