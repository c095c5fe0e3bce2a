use Rattle.std.proofs.Common.{sym, ◌∙◌, length}
use Rattle.graph_model.specs.Entity.{is_about}
use Rattle.view_trait.specs.Meaning.{node_at}
use Rattle.view_trait.proofs.Costs.{StepsWithin-among}
use Rattle.view_trait.proofs.Found.{any_last, node_tells, has_last, events_fit}
use Rattle.view_trait.proofs.presence.has_event.Goals as goal

pub returns-clause-event : goal.returns-clause-event
returns-clause-event g c =
    let s = g.V.View.contents c.args.view.now in
    let w = g.V.View.world c.args.view.now in
    let us = c.node_history.result.now.updates in
    let tells = node_tells c.store-store.result.now s c.args.n.0 us c.store-store.ensures c.node_history.ensures.told c.node_history.ensures.fits in
    c.is_some.ensures
    ∙ (has_last s w (node_at s c.args.n.0) us c.node_span-span.result c.last_kind.result tells c.node_span-span.ensures.shows c.last_kind.ensures
    ∙ sym (any_last (is_about (node_at s c.args.n.0)) w.events))

pub returns-clause-cost : goal.returns-clause-cost
returns-clause-cost g c =
    let s = g.V.View.contents c.args.view.now in
    StepsWithin-among c.args.steps.now c.node_span-span.new.steps (g.V.View.searches c.args.view.now).nodes _ (length s.accepted) c.node_span-span.ensures.cost (events_fit s (node_at s c.args.n.0))
