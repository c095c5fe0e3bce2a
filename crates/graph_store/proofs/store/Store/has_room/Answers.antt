use Rattle.std.proofs.Common.{◌≡◌, [], ◌∷◌, ◌++◌, None, arith, subst}
use Rattle.graph_model.specs.Accepting.{passed_limit}
use Rattle.graph_store.specs.Histories.{updates_in}
use Rattle.graph_store.specs.Contents.{Contents}
use Rattle.graph_store.specs.StoreInvariant.{contents}
use Rattle.graph_store.proofs.RoomLaws.{no_limit}
use Rattle.graph_store.proofs.store.Store.has_room.Goals as goal

pub returns : goal.returns
returns c = λ t.
    let events = c.leaves_room.ensures.events t in
    let nodes = c.leaves_room.ensures.nodes t in
    let layers = c.leaves_room.ensures.layers t in
    let node_keys = c.leaves_room.ensures.node_keys t in
    let edge_keys = c.leaves_room.ensures.edge_keys t in
    let accepted = c.self.invariant.events in
    let kinds = c.self.invariant.kind_limit in
    let few_kinds = c.len-5.ensures.limit in
    subst (λ (v : Contents). passed_limit (v.accepted ++ c.args.event.now ∷ []) v.types ≡ None) c.self.view_is
    (no_limit (contents c.self.inside) (updates_in c.self.inside.node_histories.items) (updates_in c.self.inside.edge_histories.items) c.self.invariant.contents_are
    c.len.ensures.distinct c.len-2.ensures.distinct c.len-5.ensures.distinct c.len-3.ensures.distinct c.len-4.ensures.distinct c.args.event.now
    (omega arith) (omega arith) (omega arith) (omega arith) (omega arith) (omega arith))
