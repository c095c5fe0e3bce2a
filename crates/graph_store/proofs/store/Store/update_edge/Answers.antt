use Rattle.std.proofs.Common.{◌≡◌, ◌∙◌, true, None, ◌<◌, ◌≤◌, length, sym, ap, subst, arith, to_z, of_z, w64}
use Rattle.std.proofs.lemmas.Int.{to_z-of_z}
use Rattle.std.proofs.lemmas.List.{length-map}
use Rattle.indexmap.specs.IndexSet.{insert_key}
use Rattle.graph_model.specs.Limits.{most_events, most_layers, most_keys}
use Rattle.graph_model.specs.declared.events.Entity.TheVariants.{Edge}
use Rattle.graph_model.specs.Names.{same_name}
use Rattle.graph_model.specs.Interval.{is_inside}
use Rattle.graph_model.specs.World.{allows}
use Rattle.graph_model.specs.Accepting.{mistyped}
use Rattle.time_history.specs.History.{UpdateList}
use Rattle.graph_store.specs.Keys.{with_keys}
use Rattle.graph_store.specs.Histories.{updates_in}
use Rattle.graph_store.specs.Contents.{Contents}
use Rattle.graph_store.specs.Indexed.{IsIndexed}
use Rattle.graph_store.specs.StoreInvariant.{contents}
use Rattle.graph_store.specs.WithEvent.{edge_event, with_edge_event}
use Rattle.graph_store.proofs.TakeEdge.{entity_of-edge_event, edge_arrival, contents-edge_taken, IsStored-edge_taken, next_of_edge}
use Rattle.graph_store.proofs.store.Store.update_edge.Goals as goal

pub take_edge-requires-clause-next : goal.take_edge-requires-clause-next
take_edge-requires-clause-next g c = λ values i lt.
    let len = c.self.inside.edge_histories.ok.0 in
    let count = length-map c.self.inside.edge_histories.items (λ (h : UpdateList). h.updates) in
    next_of_edge (contents c.self.inside) (updates_in c.self.inside.node_histories.items) (updates_in c.self.inside.edge_histories.items) c.self.invariant.contents_are
    (edge_arrival (to_z w64 (of_z w64 c.args.time)) c.args.order c.args.kind c.self.inside.events) (sym c.self.invariant.events) c.requires.kind values i (omega arith)

pub invariant_of-self-2 : goal.invariant_of-self-2
invariant_of-self-2 g c =
    let e = c.in_ok-number.ensures in
    let few_events : length (contents c.self.inside).accepted < most_events = subst (λ (v : Contents). length v.accepted < most_events) (sym c.self.view_is) c.requires.few_events in
    let events = c.self.invariant.events in
    let time = to_z-of_z w64 c.args.time c.ranges.time in
    let few_layers : length (insert_key same_name c.self.inside.layers.names c.args.edge.layer) ≤ most_layers = subst (λ (v : Contents). length (insert_key same_name v.layers c.args.edge.layer) ≤ most_layers) (sym c.self.view_is) c.requires.few_layers in
    let few_keys : length (with_keys c.self.inside.edge_keys c.args.props.now) ≤ most_keys = subst (λ (v : Contents). length (with_keys v.edge_keys c.args.props.now) ≤ most_keys) (sym c.self.view_is) c.requires.few_keys in
    IsStored-edge_taken c.self.inside c.self.invariant (subst IsIndexed (sym c.self.view_is) c.nodes-indexed.ensures.indexed) (to_z w64 (of_z w64 c.args.time)) c.args.order c.args.kind c.args.edge c.args.props.now
    c.take_edge.new.nodes c.take_edge.new.layers c.take_edge.new.keys c.take_edge.new.links c.take_edge.new.node_histories c.take_edge.new.edge_histories
    e.names e.limit e.layers e.layer_limit e.keys e.linked e.nodes_filed e.edges e.taken c.requires.kind c.requires.deletion (omega arith) few_layers few_keys
    (subst (λ t. is_inside c.self.inside.bounds t ≡ true) (sym time) (subst (λ (v : Contents). is_inside v.bounds c.args.time ≡ true) (sym c.self.view_is) c.requires.inside))
    (subst (λ t. allows c.self.inside.model (edge_event t c.args.order c.args.kind c.args.edge c.args.props.now) ≡ true) (sym time) (subst (λ (v : Contents). allows v.model (edge_event c.args.time c.args.order c.args.kind c.args.edge c.args.props.now) ≡ true) (sym c.self.view_is) c.requires.allowed))
    c.len-rise.ensures.rise
    (subst (λ t. mistyped (contents c.self.inside).accepted (edge_event t c.args.order c.args.kind c.args.edge c.args.props.now) ≡ None) (sym time) (subst (λ (v : Contents). mistyped v.accepted (edge_event c.args.time c.args.order c.args.kind c.args.edge c.args.props.now) ≡ None) (sym c.self.view_is) c.requires.typed))

pub returns-clause-ok : goal.returns-clause-ok
returns-clause-ok g c =
    let e = c.in_ok-number.ensures in
    contents-edge_taken c.self.inside c.self.invariant (subst IsIndexed (sym c.self.view_is) c.nodes-indexed.ensures.indexed) (to_z w64 (of_z w64 c.args.time)) c.args.order c.args.kind c.args.edge c.args.props.now
    c.take_edge.new.nodes c.take_edge.new.layers c.take_edge.new.keys c.take_edge.new.links c.take_edge.new.node_histories c.take_edge.new.edge_histories
    e.names e.limit e.layers e.layer_limit e.keys e.linked e.nodes_filed e.edges e.taken c.requires.kind c.requires.deletion
    ∙ (ap (λ t. with_edge_event (contents c.self.inside) (edge_event t c.args.order c.args.kind c.args.edge c.args.props.now) c.args.edge c.args.props.now) (to_z-of_z w64 c.args.time c.ranges.time)
    ∙ ap (λ (v : Contents). with_edge_event v (edge_event c.args.time c.args.order c.args.kind c.args.edge c.args.props.now) c.args.edge c.args.props.now) c.self.view_is)

pub returns-clause-filed : goal.returns-clause-filed
returns-clause-filed g c =
    let number = c.in_ok-number.ensures.number in
    (number.0, ap Edge number.1 ∙ sym (entity_of-edge_event c.args.time c.args.order c.args.kind c.args.edge c.args.props.now))
