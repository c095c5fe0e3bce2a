use Rattle.std.proofs.Common.{◌≡◌, ◌∙◌, true, None, ◌<◌, ◌≤◌, length, sym, ap, subst, arith, to_z, of_z, w64}
use Rattle.std.proofs.lemmas.Int.{to_z-of_z}
use Rattle.std.proofs.lemmas.List.{length-map}
use Rattle.graph_model.specs.Limits.{most_events, most_keys}
use Rattle.graph_model.specs.Interval.{is_inside}
use Rattle.graph_model.specs.Accepting.{mistyped}
use Rattle.time_history.specs.History.{UpdateList}
use Rattle.graph_store.specs.Keys.{with_keys}
use Rattle.graph_store.specs.Histories.{updates_in}
use Rattle.graph_store.specs.Contents.{Contents}
use Rattle.graph_store.specs.StoreInvariant.{contents}
use Rattle.graph_store.specs.WithEvent.{node_event, with_node_event}
use Rattle.graph_store.proofs.TakeNode.{contents-taken, IsStored-taken, next_of_node}
use Rattle.graph_store.proofs.store.Store.update_node.Goals as goal

pub take_node-requires-clause-next : goal.take_node-requires-clause-next
take_node-requires-clause-next g c = λ values i lt.
    let len = c.self.inside.node_histories.ok.0 in
    let count = length-map c.self.inside.node_histories.items (λ (h : UpdateList). h.updates) in
    next_of_node (contents c.self.inside) (updates_in c.self.inside.node_histories.items) (updates_in c.self.inside.edge_histories.items) c.self.invariant.contents_are
    (to_z w64 (of_z w64 c.args.time)) c.args.order c.self.inside.events (sym c.self.invariant.events) values i (omega arith)

pub invariant_of-self-2 : goal.invariant_of-self-2
invariant_of-self-2 g c =
    let e = c.in_ok-number.ensures in
    let few_events : length (contents c.self.inside).accepted < most_events = subst (λ (v : Contents). length v.accepted < most_events) (sym c.self.view_is) c.requires.few_events in
    let events = c.self.invariant.events in
    let time = to_z-of_z w64 c.args.time c.ranges.time in
    let few_keys : length (with_keys c.self.inside.node_keys c.args.props.now) ≤ most_keys = subst (λ (v : Contents). length (with_keys v.node_keys c.args.props.now) ≤ most_keys) (sym c.self.view_is) c.requires.few_keys in
    IsStored-taken c.self.inside c.self.invariant (to_z w64 (of_z w64 c.args.time)) c.args.order c.args.name c.args.props.now c.take_node.new.nodes c.take_node.new.keys c.take_node.new.links c.take_node.new.histories
    e.names e.limit e.keys e.linked e.edges e.pairs e.taken (omega arith) few_keys
    (subst (λ t. is_inside c.self.inside.bounds t ≡ true) (sym time) (subst (λ (v : Contents). is_inside v.bounds c.args.time ≡ true) (sym c.self.view_is) c.requires.inside))
    c.len-rise.ensures.rise
    (subst (λ t. mistyped (contents c.self.inside).accepted (node_event t c.args.order c.args.name c.args.props.now) ≡ None) (sym time) (subst (λ (v : Contents). mistyped v.accepted (node_event c.args.time c.args.order c.args.name c.args.props.now) ≡ None) (sym c.self.view_is) c.requires.typed))

pub returns-clause-ok : goal.returns-clause-ok
returns-clause-ok g c =
    let e = c.in_ok-number.ensures in
    contents-taken c.self.inside c.self.invariant (to_z w64 (of_z w64 c.args.time)) c.args.order c.args.name c.args.props.now c.take_node.new.nodes c.take_node.new.keys c.take_node.new.links c.take_node.new.histories
    e.names e.limit e.keys e.linked e.edges e.pairs e.taken
    ∙ (ap (λ t. with_node_event (contents c.self.inside) t c.args.order c.args.name c.args.props.now) (to_z-of_z w64 c.args.time c.ranges.time)
    ∙ ap (λ (v : Contents). with_node_event v c.args.time c.args.order c.args.name c.args.props.now) c.self.view_is)
