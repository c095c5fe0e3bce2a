use Rattle.std.proofs.Common.{◌+◌, ◌<◌, ◌≤◌, ◌∙◌, ap, arith, length, subst, sym}
use Rattle.std.specs.List.{range_with_len}
use Rattle.present_links.specs.Links.{HasLinks}
use Rattle.present_links.proofs.Views.{view_links_rising}
use Rattle.walk_algorithms.proofs.JoinedPlaces.{AreJoined, JoinsNext, all_joined, joined_none, joins_next}
use Rattle.walk_algorithms.proofs.labels.join_places.Given.{Over}
use Rattle.walk_algorithms.proofs.labels.join_places.Goals.{After-item-link}
use Rattle.walk_algorithms.proofs.labels.join_places.Goals as goal

pub loop-i-init : goal.loop-i-init
loop-i-init g c =
    let s = g.V.View.contents c.args.view.now in
    let w = g.V.View.world c.args.view.now in
    let h = view_links_rising s w (g.met.V.View.shown c.args.view.now) in
    record {
      joined =
          subst (AreJoined w c.args.nodes.now c.args.links.now 0) (sym (c.in_ok-sets.ensures ∙ ap (range_with_len 0) c.len.ensures))
          (joined_none s w c.args.nodes.now c.requires.nodes h.names c.args.links.now (subst (HasLinks w s.nodes) (sym c.requires.links) h) c.requires.known);
    }

-- the link at the place is joined next
next : (g : Over) (c : After-item-link g) → JoinsNext (g.V.View.world c.args.view.now) c.args.nodes.now c.args.links.now c.args.places.now c.loop-i.i c.loop-i.sets c.item-link.result.src c.item-link.result.dst
next g c =
    let s = g.V.View.contents c.args.view.now in
    let w = g.V.View.world c.args.view.now in
    let h = view_links_rising s w (g.met.V.View.shown c.args.view.now) in
    let lt : c.loop-i.i < length c.args.links.now = (let test = c.loop-i-test.true in let long = c.len-i-end.ensures in omega arith) in
    joins_next s w c.args.nodes.now c.requires.nodes h.names c.args.links.now (subst (HasLinks w s.nodes) (sym c.requires.links) h) c.requires.known c.args.places.now c.requires.places c.loop-i.i c.loop-i.sets lt c.loop-i.invariant.joined
    c.item-link.result.src c.item-link.result.dst c.item-link.ensures

pub bounds-places-link : goal.bounds-places-link
bounds-places-link g c = (next g (goal.at.bounds-places-link g c).After-item-link).src_known

pub bounds-places-link-in-loop-i : goal.bounds-places-link-in-loop-i
bounds-places-link-in-loop-i g c = (next g (goal.at.bounds-places-link-in-loop-i g c).After-item-link).dst_known

pub join-requires-clause-a : goal.join-requires-clause-a
join-requires-clause-a g c = (next g (goal.at.join-requires-clause-a g c).After-item-link).src_placed

pub join-requires-clause-b : goal.join-requires-clause-b
join-requires-clause-b g c = (next g (goal.at.join-requires-clause-b g c).After-item-link).dst_placed

pub loop-i-preserved : goal.loop-i-preserved
loop-i-preserved g c =
    let w = g.V.View.world c.args.view.now in
    record {
      joined = subst (AreJoined w c.args.nodes.now c.args.links.now (c.loop-i.i + 1)) (sym c.join.ensures) (next g (goal.at.loop-i-preserved g c).After-item-link).then;
    }

pub returns : goal.returns
returns g c =
    let s = g.V.View.contents c.args.view.now in
    let w = g.V.View.world c.args.view.now in
    let h = view_links_rising s w (g.met.V.View.shown c.args.view.now) in
    let past : length c.args.links.now ≤ c.loop-i.i = (let test = c.loop-i-test.false in let long = c.len-i-end.ensures in omega arith) in
    all_joined s w c.args.nodes.now c.requires.nodes h.names c.args.links.now (subst (HasLinks w s.nodes) (sym c.requires.links) h) c.requires.known c.loop-i.i c.loop-i.sets past c.loop-i.invariant.joined
