use Rattle.std.proofs.Common.{◌≡◌, ◌∙◌, ◌+◌, suc, length, map, ap, subst, sym, arith}
use Rattle.std.specs.List.{All}
use Rattle.view_lists.specs.Listing.{IsPlaced, event_placed}
use Rattle.view_lists.specs.Types.{types_listed}
use Rattle.view_answers.proofs.RecordRows.{records_part}
use Rattle.view_answers.proofs.records.add_world_records.Goals as goal

pub add_records-requires-clause-placed : goal.add_records-requires-clause-placed
add_records-requires-clause-placed g c =
    let world = g.V.View.world c.args.view.now in
    let listed = c.in_ok-whole.ensures.events in
    subst (λ places. All (IsPlaced world c.as_slice-shown.result.now) places) (sym c.as_slice-places.ensures.value)
    (subst (λ shown. All (IsPlaced world shown) c.in_ok-whole.whole.listed.events.items) (sym c.as_slice-shown.ensures.value) listed.placed)

pub returns : goal.returns
returns g c =
    let world = g.V.View.world c.args.view.now in
    let types = c.as_slice-types.result.now in
    let shown = c.as_slice-shown.result.now in
    let places = c.as_slice-places.result.now in
    let n = 1 + length types + length places in
    let count : n ≡ suc (length types + length places) = omega arith in
    records_part c.add_records.result world c.bounds-bounds.result n types shown places c.args.out.now c.add_world.new.out c.add_bounds.new.out c.add_types.new.out c.add_records.new.out
    c.bounds-bounds.ensures (ap types_listed c.as_slice-types.ensures.value ∙ c.in_ok-whole.ensures.types)
    ((λ i. map (event_placed world (c.as_slice-shown.ensures.value i)) (c.as_slice-places.ensures.value i)) ∙ c.in_ok-whole.ensures.events.events)
    count c.in_ok-add_world.ensures c.in_ok-add_bounds.ensures c.in_ok-add_types.ensures c.add_records.ensures
