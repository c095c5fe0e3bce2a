use Rattle.std.proofs.Common.{◌≡◌, ◌<◌, ◌≤◌, ◌∙◌, [], ap, arith, get_or, length, map, refl, subst, sym}
use Rattle.std.specs.Prelude.{slice_get, Some}
use Rattle.std.proofs.lemmas.List.{take_all}
use Rattle.std.proofs.lemmas.Option.{get_or_from_slice_get, slice_get_within}
use Rattle.node_visits.specs.Visits.{all_visited}
use Rattle.present_links.specs.Adjacent.{number_at, row_at}
use Rattle.walk_algorithms.specs.Visits.{AreLed, IsSource}
use Rattle.walk_algorithms.proofs.Led.{none_led, placed_known, row_led, row_more}
use Rattle.walk_algorithms.proofs.walk.visit_neighbours.Goals as goal

pub returns-in_default-place_of-clause-visits : goal.returns-in_default-place_of-clause-visits
returns-in_default-place_of-clause-visits g c =
    let contents = g.V.View.contents c.args.view.now in
    let world = g.V.View.world c.args.view.now in
    let adjacent = subst (IsSource contents world c.args.direction) c.in-Listed.is c.requires.source in
    ([], none_led contents world (g.met.V.View.shown c.args.view.now) c.args.direction c.in-Listed.lists adjacent c.args.node.0 c.requires.node c.in_default-place_of.ensures.none, refl)

pub neighbours-other-items-requires : goal.neighbours-other-items-requires
neighbours-other-items-requires g c =
    let lists = c.in-Listed.lists in
    let within = slice_get_within lists.nodes c.in-Some.place c.args.node.0 c.in-Some.ensures.found in
    omega (arith, within, c.len-rows.ensures.nodes, c.len-rows.ensures.rows)

pub visit-requires : goal.visit-requires
visit-requires g c =
    let contents = g.V.View.contents c.args.view.now in
    let world = g.V.View.world c.args.view.now in
    let adjacent = subst (IsSource contents world c.args.direction) c.in-Listed.is c.requires.source in
    subst (λ l. c.node.result.0 < l) (sym (c.loop-other.invariant.limit ∙ c.requires.limit)) (placed_known contents world (g.met.V.View.shown c.args.view.now) c.args.direction c.in-Listed.lists adjacent _ c.node.result.0 c.node.ensures)

pub loop-other-preserved : goal.loop-other-preserved
loop-other-preserved g c =
    let lists = c.in-Listed.lists in
    let row = row_at lists.rows c.in-Some.place in
    record {
      limit = c.visit.ensures.limit ∙ c.loop-other.invariant.limit;
      visits =
          row_more lists.nodes row c.args.mark c.loop-other.other-index c.node.result.0 c.args.visited.now.visits c.loop-other.visited.visits c.visit.new.self.visits
          (subst (λ ns. c.loop-other.other-index < length ns) c.neighbours-other-items.ensures c.loop-other-test.true)
          (subst (λ ns. slice_get lists.nodes (get_or ns c.loop-other.other-index 0) ≡ Some c.node.result.0) c.neighbours-other-items.ensures c.node.ensures) c.loop-other.invariant.visits c.in_ok-visit.ensures.visits;
    }

pub returns-clause-visits : goal.returns-clause-visits
returns-clause-visits g c =
    let contents = g.V.View.contents c.args.view.now in
    let world = g.V.View.world c.args.view.now in
    let lists = c.in-Listed.lists in
    let place = c.in-Some.place in
    let row = row_at lists.rows place in
    let adjacent = subst (IsSource contents world c.args.direction) c.in-Listed.is c.requires.source in
    let is : number_at lists.nodes place ≡ c.args.node.0 = get_or_from_slice_get lists.nodes place c.args.node.0 0 c.in-Some.ensures.found in
    let past : length row ≤ c.loop-other.other-index = subst (λ ns. length ns ≤ c.loop-other.other-index) c.neighbours-other-items.ensures c.loop-other-test.false in (
      map (number_at lists.nodes) row,
      subst (λ n. AreLed contents world c.args.direction n (map (number_at lists.nodes) row)) is
          (row_led contents world (g.met.V.View.shown c.args.view.now) c.args.direction lists adjacent place (slice_get_within lists.nodes place c.args.node.0 c.in-Some.ensures.found)),
      c.loop-other.invariant.visits ∙ ap (λ ns. all_visited c.args.mark (map (number_at lists.nodes) ns) c.args.visited.now.visits) (take_all c.loop-other.other-index row past),
    )
