use Rattle.std.proofs.Common.{◌≡◌, ◌+◌, ◌<◌, arith, get_or, length, set, subst}
use Rattle.std.proofs.lemmas.List.Elements.{All-get_or}
use Rattle.std.proofs.lemmas.Option.{get_or_from_slice_get}
use Rattle.walk_algorithms.proofs.JoinedPlaces.{HavePlaces, few_numbers, place_more}
use Rattle.walk_algorithms.proofs.labels.places_of.Goals as goal

pub overflow_cast-i : goal.overflow_cast-i
overflow_cast-i c =
    let few = few_numbers c.args.limit c.args.nodes.now c.requires.once c.requires.known in
    let lt = c.loop-i-test.true in
    let long = c.len-i-end.ensures in
    let fits = c.ranges.limit.fits in
    (omega arith)

pub index_mut-requires : goal.index_mut-requires
index_mut-requires c =
    let numbers = c.args.nodes.now in
    let lt : c.loop-i.i < length numbers = (let test = c.loop-i-test.true in let long = c.len-i-end.ensures in omega arith) in
    let here : get_or numbers c.loop-i.i 0 ≡ c.item.result.0 = get_or_from_slice_get numbers c.loop-i.i c.item.result.0 0 c.item.ensures in
    let below = All-get_or (λ n. n < c.args.limit) numbers c.loop-i.i 0 lt c.requires.known in
    let long = c.loop-i.invariant.placed.long in
    omega arith

pub loop-i-preserved : goal.loop-i-preserved
loop-i-preserved c =
    let numbers = c.args.nodes.now in
    let i = c.loop-i.i in
    let lt : i < length numbers = (let test = c.loop-i-test.true in let long = c.len-i-end.ensures in omega arith) in
    let here : get_or numbers i 0 ≡ c.item.result.0 = get_or_from_slice_get numbers i c.item.result.0 0 c.item.ensures in
    record {
      placed = subst (λ n. HavePlaces numbers (i + 1) c.args.limit (set c.loop-i.places.items n i)) here (place_more numbers c.args.limit i c.loop-i.places.items c.requires.once c.requires.known lt c.loop-i.invariant.placed);
    }
