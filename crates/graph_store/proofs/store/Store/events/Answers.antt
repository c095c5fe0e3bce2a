use Rattle.std.proofs.Common.{◌≤◌, length, sym, subst, arith}
use Rattle.graph_model.specs.Limits.{most_nodes, most_types}
use Rattle.graph_model.specs.World.{IsLawful}
use Rattle.graph_model.specs.Accepting.{Quantity, count_of, limit_of}
use Rattle.world_laws.proofs.Times.{le_test}
use Rattle.graph_store.specs.Histories.{updates_in}
use Rattle.graph_store.specs.Contents.{Contents, base_of}
use Rattle.graph_store.specs.Indexed.{IsIndexed}
use Rattle.graph_store.specs.StoreInvariant.{contents}
use Rattle.graph_store.proofs.StoreRead.{IsLawful-contents, limits}
use Rattle.graph_store.proofs.store.Store.events.Goals as goal
use Rattle.graph_store.proofs.TypeLaws.{Rises-types_named}

pub returns-clause-lawful : goal.returns-clause-lawful
returns-clause-lawful c =
    subst (λ (v : Contents). IsLawful (base_of v)) c.self.view_is
    (IsLawful-contents (contents c.self.inside) c.self.invariant.judged (le_test c.self.inside.bounds.lo c.self.inside.bounds.hi c.lo-order.ensures.order)
    (Rises-types_named c.self.inside.nodes.names c.self.inside.kinds.names c.self.inside.types.numbers))

pub returns-clause-limits : goal.returns-clause-limits
returns-clause-limits c =
    let stored = c.self.invariant in
    let events = stored.events in
    let few_events = stored.few_events in
    let nodes : length c.self.inside.nodes.names ≤ most_nodes = subst (λ (v : Contents). length v.nodes ≤ most_nodes) (sym c.self.view_is) (subst (λ n. n ≤ most_nodes) c.nodes-indexed.ensures.len c.nodes-indexed.ensures.few) in
    let kinds : length c.self.inside.kinds.names ≤ most_types = let most = c.len-kinds.ensures.limit in let len = c.len-kinds.ensures.len in let limit = stored.kind_limit in omega arith in
    subst (λ (v : Contents). (k : Quantity) → count_of k v.accepted v.types ≤ limit_of k) c.self.view_is
    (limits (contents c.self.inside) (updates_in c.self.inside.node_histories.items) (updates_in c.self.inside.edge_histories.items) stored.contents_are
    (subst IsIndexed (sym c.self.view_is) c.nodes-indexed.ensures.indexed) c.len-node_keys.ensures.distinct c.len-edge_keys.ensures.distinct
    (omega arith) nodes stored.few_layers kinds stored.few_node_keys stored.few_edge_keys)
