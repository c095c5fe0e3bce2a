use Rattle.std.proofs.Common.{◌∙◌, subst, sym}
use Rattle.walk_algorithms.specs.Visits.{IsSource}
use Rattle.walk_algorithms.proofs.Led.{no_place_found, place_found, present_alone, present_listed}
use Rattle.walk_algorithms.proofs.source.is_present.Goals as goal

pub returns-then-is_some : goal.returns-then-is_some
returns-then-is_some g c =
    let contents = g.V.View.contents c.args.view.now in
    let world = g.V.View.world c.args.view.now in
    let lists = c.in-Listed.lists in
    let adjacent = subst (IsSource contents world c.requires.source.0) c.in-Listed.is c.requires.source.1 in
    c.if-is_some.true
    ∙ present_listed contents world (g.met.V.View.shown c.args.view.now) c.requires.source.0 lists adjacent c.args.n.0
    (place_found lists.nodes c.args.n.0 c.place_of.result c.place_of.ensures.found (sym c.is_some.ensures ∙ c.if-is_some.true))

pub returns-else-is_some : goal.returns-else-is_some
returns-else-is_some g c =
    let contents = g.V.View.contents c.args.view.now in
    let world = g.V.View.world c.args.view.now in
    let lists = c.in-Listed.lists in
    let adjacent = subst (IsSource contents world c.requires.source.0) c.in-Listed.is c.requires.source.1 in
    c.has_event.ensures.event
    ∙ present_alone contents world (g.met.V.View.shown c.args.view.now) c.requires.source.0 lists adjacent c.args.n.0 c.requires.node
    (no_place_found lists.nodes c.args.n.0 c.place_of.result c.place_of.ensures.none (sym c.is_some.ensures ∙ c.if-is_some.false))
