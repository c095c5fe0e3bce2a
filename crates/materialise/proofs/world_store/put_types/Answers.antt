use Rattle.std.proofs.Common.{◌∙◌, ◌<◌, length, arith, ap, sym}
use Rattle.std.proofs.lemmas.Option.{get_or_from_slice_get}
use Rattle.graph_model.specs.Accepting.{type_refusal}
use Rattle.graph_model.specs.World.{World, put_type}
use Rattle.materialise.proofs.TakenInTurn.{type_put, each_type_taken}
use Rattle.materialise.proofs.world_store.put_types.Goals as goal

pub put_copied_type-requires : goal.put_copied_type-requires
put_copied_type-requires c =
    let t = c.item.result.now in
    let count = c.len-i-end.ensures in
    let test = c.loop-i-test.true in
    let lt : c.loop-i.i < length c.args.types.now = omega (arith, count, test) in
    let w : World = record { model = c.args.store.now.model; bounds = c.args.store.now.bounds; events = c.args.store.now.accepted; types = c.args.types.now } in
    let is = sym (get_or_from_slice_get c.args.types.now c.loop-i.i t t c.item.ensures) in
    (λ k. type_refusal (c.loop-i.invariant.events k) (c.loop-i.invariant.types k) t.0 t.1) ∙ each_type_taken w c.loop-i.i t c.requires.storable lt is

pub loop-i-preserved : goal.loop-i-preserved
loop-i-preserved c =
    let t = c.item.result.now in
    let count = c.len-i-end.ensures in
    let test = c.loop-i-test.true in
    let lt : c.loop-i.i < length c.args.types.now = omega (arith, count, test) in
    let is = sym (get_or_from_slice_get c.args.types.now c.loop-i.i t t c.item.ensures) in
    let inv = c.loop-i.invariant in
    let next = c.in_ok-put_copied_type.ensures in
    record {
      types = next.types ∙ (ap (put_type t) inv.types ∙ type_put c.args.types.now c.loop-i.i t c.requires.storable.lawful.types_rise lt is);
      events = next.events ∙ inv.events;
      model = next.model ∙ inv.model;
      bounds = next.bounds ∙ inv.bounds;
    }
