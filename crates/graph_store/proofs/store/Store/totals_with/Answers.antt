use Rattle.std.proofs.Common.{◌≡◌, ◌+◌, [], ◌∷◌, ◌++◌, sym, ap, subst}
use Rattle.graph_model.specs.Entity.{subject, what_props}
use Rattle.graph_model.specs.Accepting.{Quantity, count_of}
use Rattle.graph_store.specs.Refusals.{total_of}
use Rattle.graph_store.specs.Histories.{updates_in}
use Rattle.graph_store.specs.Contents.{Contents}
use Rattle.graph_store.specs.StoreInvariant.{contents}
use Rattle.graph_store.proofs.JudgeLaws.{totals-update, totals-edge}
use Rattle.graph_store.proofs.store.Store.totals_with.Goals as goal

pub returns-in-Node : goal.returns-in-Node
returns-in-Node c =
    subst (λ (v : Contents). (k : Quantity) → total_of (record { events = c.self.inside.events + 1; nodes = c.count_with.result; layers = c.len-layers.result; node_keys = c.count_with-in-Node.result; edge_keys = c.len-edge_keys.result; types = c.len-types.result }) k ≡ count_of k (v.accepted ++ c.args.event.now ∷ []) v.types) c.self.view_is
    (totals-update (contents c.self.inside) (updates_in c.self.inside.node_histories.items) (updates_in c.self.inside.edge_histories.items) c.self.invariant.contents_are
    c.len-nodes.ensures.distinct c.len-layers.ensures.distinct c.len-types.ensures.distinct c.len-node_keys.ensures.distinct c.len-edge_keys.ensures.distinct c.args.event.now c.in-Node.name c.in-Node.props c.in-Node.is
    (record { events = c.self.inside.events + 1; nodes = c.count_with.result; layers = c.len-layers.result; node_keys = c.count_with-in-Node.result; edge_keys = c.len-edge_keys.result; types = c.len-types.result })
    (ap (λ n. n + 1) (sym c.self.invariant.events)) c.count_with.ensures c.len-layers.ensures.len c.count_with-in-Node.ensures c.len-edge_keys.ensures.len c.len-types.ensures.len)

pub returns-in-Add : goal.returns-in-Add
returns-in-Add c =
    subst (λ (v : Contents). (k : Quantity) → total_of (record { events = c.self.inside.events + 1; nodes = c.count_with_both.result; layers = c.count_with-in-Add.result; node_keys = c.len-node_keys.result; edge_keys = c.count_with-in-Add-2.result; types = c.len-types.result }) k ≡ count_of k (v.accepted ++ c.args.event.now ∷ []) v.types) c.self.view_is
    (totals-edge (contents c.self.inside) (updates_in c.self.inside.node_histories.items) (updates_in c.self.inside.edge_histories.items) c.self.invariant.contents_are
    c.len-nodes.ensures.distinct c.len-layers.ensures.distinct c.len-types.ensures.distinct c.len-node_keys.ensures.distinct c.len-edge_keys.ensures.distinct c.args.event.now (record { src = c.in-Add.edge.src; dst = c.in-Add.edge.dst; layer = c.in-Add.edge.layer }) c.in-Add.props (ap subject c.in-Add.is) (ap what_props c.in-Add.is)
    (record { events = c.self.inside.events + 1; nodes = c.count_with_both.result; layers = c.count_with-in-Add.result; node_keys = c.len-node_keys.result; edge_keys = c.count_with-in-Add-2.result; types = c.len-types.result })
    (ap (λ n. n + 1) (sym c.self.invariant.events)) c.count_with_both.ensures c.count_with-in-Add.ensures c.len-node_keys.ensures.len c.count_with-in-Add-2.ensures c.len-types.ensures.len)

pub returns-in-Delete : goal.returns-in-Delete
returns-in-Delete c =
    subst (λ (v : Contents). (k : Quantity) → total_of (record { events = c.self.inside.events + 1; nodes = c.count_with_both-in-Delete.result; layers = c.count_with-in-Delete.result; node_keys = c.len-node_keys.result; edge_keys = c.len-edge_keys.result; types = c.len-types.result }) k ≡ count_of k (v.accepted ++ c.args.event.now ∷ []) v.types) c.self.view_is
    (totals-edge (contents c.self.inside) (updates_in c.self.inside.node_histories.items) (updates_in c.self.inside.edge_histories.items) c.self.invariant.contents_are
    c.len-nodes.ensures.distinct c.len-layers.ensures.distinct c.len-types.ensures.distinct c.len-node_keys.ensures.distinct c.len-edge_keys.ensures.distinct c.args.event.now (record { src = c.in-Delete.edge.src; dst = c.in-Delete.edge.dst; layer = c.in-Delete.edge.layer }) [] (ap subject c.in-Delete.is) (ap what_props c.in-Delete.is)
    (record { events = c.self.inside.events + 1; nodes = c.count_with_both-in-Delete.result; layers = c.count_with-in-Delete.result; node_keys = c.len-node_keys.result; edge_keys = c.len-edge_keys.result; types = c.len-types.result })
    (ap (λ n. n + 1) (sym c.self.invariant.events)) c.count_with_both-in-Delete.ensures c.count_with-in-Delete.ensures c.len-node_keys.ensures.len c.len-edge_keys.ensures.len c.len-types.ensures.len)
