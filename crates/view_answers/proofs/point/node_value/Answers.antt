use Rattle.std.proofs.Common.{length, subst}
use Rattle.std.specs.Option.{option_copied}
use Rattle.time_history.specs.Asked.{AreNamed}
use Rattle.graph_store.specs.Contents.{Contents, base_of}
use Rattle.graph_store.specs.Keys.{key_name}
use Rattle.graph_model.specs.World.{events_of}
use Rattle.view_trait.specs.Meaning.{node_at}
use Rattle.view_trait.proofs.Costs.{StepsWithin-among}
use Rattle.view_trait.proofs.Found.{events_fit, node_tells}
use Rattle.view_answers.proofs.Asked.{value_is}
use Rattle.view_answers.proofs.point.node_value.Goals as goal

pub returns-clause-value : goal.returns-clause-value
returns-clause-value g c =
    let contents = g.V.View.contents c.args.view.now in
    let us = c.node_history.result.now.updates in
    let tells = node_tells c.store-store.result.now contents c.args.n.0 us c.store-store.ensures c.node_history.ensures.told c.node_history.ensures.fits in
    let keys = subst (λ (s : Contents). AreNamed (key_name s.node_keys) (length s.node_keys) us) c.store-store.ensures c.node_history.ensures.keys in
    value_is contents (g.V.View.world c.args.view.now) (node_at contents c.args.n.0) us c.node_span-span.result (length contents.node_keys) c.args.key (option_copied c.value.result) tells c.node_span-span.ensures.shows keys c.requires.key c.value.ensures

pub returns-clause-cost : goal.returns-clause-cost
returns-clause-cost g c =
    let contents = g.V.View.contents c.args.view.now in
    let x = node_at contents c.args.n.0 in
    StepsWithin-among c.args.steps.now c.node_span-span.new.steps (g.V.View.searches c.args.view.now).nodes (length (events_of (base_of contents) x)) (length contents.accepted) c.node_span-span.ensures.cost (events_fit contents x)
