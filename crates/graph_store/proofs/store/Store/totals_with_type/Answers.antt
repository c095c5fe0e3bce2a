use Rattle.std.proofs.Common.{◌≡◌, ◌∙◌, [], ◌∷◌, ◌++◌, Some, sym, subst, arith}
use Rattle.graph_model.specs.World.{type_of}
use Rattle.graph_model.specs.Accepting.{Quantity, count_of}
use Rattle.graph_store.specs.Refusals.{total_of}
use Rattle.graph_store.specs.Histories.{updates_in}
use Rattle.graph_store.specs.Contents.{Contents}
use Rattle.graph_store.specs.StoreInvariant.{contents}
use Rattle.graph_store.proofs.JudgeLaws.{totals-type, none_above, count-known}
use Rattle.graph_store.proofs.TypeReaders.{node_known, kind_known}
use Rattle.graph_store.proofs.store.Store.totals_with_type.Goals as goal

pub returns-clause-totals : goal.returns-clause-totals
returns-clause-totals c =
    subst (λ (v : Contents). (k : Quantity) → total_of (record { events = c.self.inside.events; nodes = c.count_with.result; layers = c.len.result; node_keys = c.len-2.result; edge_keys = c.len-3.result; types = c.count_with-2.result }) k ≡ count_of k v.accepted (v.types ++ (c.args.node.now, c.args.kind.now) ∷ [])) c.self.view_is
    (totals-type (contents c.self.inside) (updates_in c.self.inside.node_histories.items) (updates_in c.self.inside.edge_histories.items) c.self.invariant.contents_are
    c.len-node_limit.ensures.distinct c.len.ensures.distinct c.len-kind_limit.ensures.distinct c.len-2.ensures.distinct c.len-3.ensures.distinct c.args.node.now c.args.kind.now
    (record { events = c.self.inside.events; nodes = c.count_with.result; layers = c.len.result; node_keys = c.len-2.result; edge_keys = c.len-3.result; types = c.count_with-2.result })
    (sym c.self.invariant.events) c.count_with.ensures c.len.ensures.len c.len-2.ensures.len c.len-3.ensures.len c.count_with-2.ensures)

pub returns-clause-again : goal.returns-clause-again
returns-clause-again c = λ e.
    let own : type_of (contents c.self.inside).types c.args.node.now ≡ Some c.args.kind.now = subst (λ (v : Contents). type_of v.types c.args.node.now ≡ Some c.args.kind.now) (sym c.self.view_is) e in
    let nodes = c.count_with.ensures ∙ count-known c.self.inside.nodes.names c.args.node.now (node_known c.self.inside c.self.invariant c.args.node.now c.args.kind.now own) in
    let kinds = c.count_with-2.ensures ∙ count-known c.self.inside.kinds.names c.args.kind.now (kind_known c.self.inside c.self.invariant c.args.node.now c.args.kind.now own) in
    let i = c.self.invariant in
    let node_len = c.len-node_limit.ensures.len in
    let node_max = c.len-node_limit.ensures.limit in
    let node_limit = i.node_limit in
    let kind_len = c.len-kind_limit.ensures.len in
    let kind_max = c.len-kind_limit.ensures.limit in
    let kind_limit = i.kind_limit in
    let few_layers = i.few_layers in
    let layer_len = c.len.ensures.len in
    let few_node_keys = i.few_node_keys in
    let node_key_len = c.len-2.ensures.len in
    let few_edge_keys = i.few_edge_keys in
    let edge_key_len = c.len-3.ensures.len in
    none_above (record { events = c.self.inside.events; nodes = c.count_with.result; layers = c.len.result; node_keys = c.len-2.result; edge_keys = c.len-3.result; types = c.count_with-2.result })
    i.few_events (omega arith) (omega arith) (omega arith) (omega arith) (omega arith)
