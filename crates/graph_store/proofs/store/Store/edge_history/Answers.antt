use Rattle.std.proofs.Common.{◌<◌, length, sym, subst}
use Rattle.graph_model.specs.declared.events.Entity.TheVariants.{Edge}
use Rattle.graph_store.specs.Keys.{key_name}
use Rattle.graph_store.specs.Histories.{updates_in}
use Rattle.graph_store.specs.EdgeParts.{parts_at}
use Rattle.graph_store.specs.Contents.{Contents, edge_name}
use Rattle.graph_store.specs.StoreInvariant.{contents}
use Rattle.graph_store.proofs.Readers.{updates_at, edge_in_place}
use Rattle.graph_store.proofs.HistoryLaws.{IsRead, edge_read}
use Rattle.graph_store.proofs.store.Store.edge_history.Goals as goal

pub returns : goal.returns
returns c =
    let are = c.self.invariant.contents_are in
    let lt : c.args.e.0 < length c.self.inside.links.edges = subst (λ (v : Contents). c.args.e.0 < length v.edges) (sym c.self.view_is) c.requires in
    let here = updates_at c.self.inside.edge_histories.items c.args.e.0 c.index.result.now (edge_in_place (contents c.self.inside) (updates_in c.self.inside.node_histories.items) c.self.inside.edge_histories.items are c.args.e.0 lt) c.index.ensures in
    let v = contents c.self.inside in
    let read =
    subst (λ (v : Contents). IsRead v.model v.bounds v.accepted (key_name v.edge_keys) (length v.edge_keys) (Edge (edge_name v.nodes v.layers (parts_at v.edges c.args.e.0))) c.index.result.now.updates) c.self.view_is
    (subst (IsRead v.model v.bounds v.accepted (key_name v.edge_keys) (length v.edge_keys) (Edge (edge_name v.nodes v.layers (parts_at v.edges c.args.e.0)))) here
    (edge_read v (updates_in c.self.inside.node_histories.items) (updates_in c.self.inside.edge_histories.items) are c.self.invariant.judged c.len-keys.ensures.distinct c.args.e.0 lt)) in
    record {
      told = read.told;
      fits = read.fits;
      keys = read.keys;
      within = read.within;
      allowed = read.allowed;
      whole = read.whole;
    }
