use Rattle.std.proofs.Common.{◌≡◌, [], ◌∷◌, ◌++◌, None, sym, subst}
use Rattle.graph_model.specs.Accepting.{passed_limit}
use Rattle.graph_store.specs.Histories.{updates_in}
use Rattle.graph_store.specs.Contents.{Contents}
use Rattle.graph_store.specs.StoreInvariant.{contents}
use Rattle.graph_store.specs.WithEvent.{with_event, HasRoom}
use Rattle.graph_store.proofs.ApplyLaws.{not_refused, room, if_none}
use Rattle.graph_store.proofs.store.Store.judge.Goals as goal

pub returns-clause-room : goal.returns-clause-room
returns-clause-room c =
    if_none _ c.refusal_of.result c.refusal_of.ensures
    (λ e. subst (λ (v : Contents). HasRoom v (with_event v c.args.event.now)) c.self.view_is
    (room (contents c.self.inside) (updates_in c.self.inside.node_histories.items) (updates_in c.self.inside.edge_histories.items) c.self.invariant.contents_are
    c.len-nodes.ensures.distinct c.len-layers.ensures.distinct c.len-kinds.ensures.distinct c.len-node_keys.ensures.distinct c.len-edge_keys.ensures.distinct c.args.event.now
    (subst (λ (v : Contents). passed_limit (v.accepted ++ c.args.event.now ∷ []) v.types ≡ None) (sym c.self.view_is) (not_refused c.args.self.now.model c.args.self.now.accepted c.args.self.now.types c.args.event.now e).within)))
