use Rattle.std.proofs.Common.{length, subst}
use Rattle.graph_store.specs.Indexed.{IsIndexed}
use Rattle.graph_store.proofs.EdgeNumbers.{ends_within}
use Rattle.graph_store.proofs.store.Store.nodes.Goals as goal

pub returns-clause-indexed : goal.returns-clause-indexed
returns-clause-indexed c =
    let are = c.self.invariant.contents_are in
    subst IsIndexed c.self.view_is
    (record {
      node_names = c.len.ensures.distinct;
      layer_names = c.len-layers.ensures.distinct;
      kind_names = c.len-kinds.ensures.distinct;
      edges = c.len-edges.ensures.distinct;
      pairs = c.pairs-pairs.ensures.distinct;
      known_pairs = c.len-edges.ensures.known;
      known_nodes = are.known_nodes;
      known_layers = are.known_layers;
      known_kinds = are.known_kinds;
      known_edges = are.known_edges;
      within = are.within;
      pairs_within = ends_within (length c.self.inside.nodes.names) c.self.inside.links.pairs c.self.inside.links.edges c.len-edges.ensures.known (λ e lt. let w = are.within e lt in (w.0, w.1));
    })
