use Rattle.std.proofs.Common.{◌≡◌, ◌∙◌, ◌<◌, length, arith, ◌++◌, ◌∷◌, [], true, get_or, take, ap, sym}
use Rattle.std.proofs.lemmas.List.{take_more}
use Rattle.std.proofs.lemmas.Option.{get_or_from_slice_get}
use Rattle.graph_model.specs.Accepting.{event_refusal}
use Rattle.graph_model.specs.Interval.{Interval, is_inside}
use Rattle.graph_model.specs.World.{World}
use Rattle.world_laws.proofs.Lawful.{each_passes}
use Rattle.world_laws.proofs.ListItems.{each_at}
use Rattle.materialise.proofs.TakenInTurn.{each_event_taken}
use Rattle.materialise.proofs.world_store.put_events.Goals as goal

pub put_event-requires-clause-inside : goal.put_event-requires-clause-inside
put_event-requires-clause-inside g c =
    let x = c.item.result.now in
    let count = c.len-i-end.ensures in
    let test = c.loop-i-test.true in
    let lt : c.loop-i.i < length c.args.list.now = omega (arith, count, test) in
    let bounds = c.args.store.now.bounds in
    let is : get_or c.args.list.now c.loop-i.i x ≡ x = get_or_from_slice_get c.args.list.now c.loop-i.i x x c.item.ensures in
    let own : is_inside bounds x.time ≡ true = ap (λ y. is_inside bounds y.time) (sym is) ∙ each_at (λ y. is_inside bounds y.time ≡ true) c.args.list.now c.loop-i.i x (each_passes (λ y. is_inside bounds y.time) c.args.list.now c.requires.storable.lawful.inside) lt in
    ap (λ (b : Interval). is_inside b x.time) c.loop-i.invariant.bounds ∙ own

pub put_event-requires-clause-judged : goal.put_event-requires-clause-judged
put_event-requires-clause-judged g c =
    let x = c.item.result.now in
    let count = c.len-i-end.ensures in
    let test = c.loop-i-test.true in
    let lt : c.loop-i.i < length c.args.list.now = omega (arith, count, test) in
    let w : World = record { model = c.args.store.now.model; bounds = c.args.store.now.bounds; events = c.args.list.now; types = [] } in
    let is = sym (get_or_from_slice_get c.args.list.now c.loop-i.i x x c.item.ensures) in
    (λ k. event_refusal (c.loop-i.invariant.model k) (c.loop-i.invariant.events k) (c.loop-i.invariant.types k) x) ∙ each_event_taken w c.loop-i.i x c.requires.storable lt is

pub loop-i-preserved : goal.loop-i-preserved
loop-i-preserved g c =
    let x = c.item.result.now in
    let count = c.len-i-end.ensures in
    let test = c.loop-i-test.true in
    let lt : c.loop-i.i < length c.args.list.now = omega (arith, count, test) in
    let list = c.args.list.now in
    let is = get_or_from_slice_get list c.loop-i.i x x c.item.ensures in
    let inv = c.loop-i.invariant in
    let next = c.in_ok-put_event.ensures in
    record {
      events = next.events ∙ (ap (λ ys. ys ++ x ∷ []) inv.events ∙ (ap (λ z. take c.loop-i.i list ++ z ∷ []) (sym is) ∙ sym (take_more list c.loop-i.i x lt)));
      model = next.model ∙ inv.model;
      bounds = next.bounds ∙ inv.bounds;
      types = next.types ∙ inv.types;
    }
