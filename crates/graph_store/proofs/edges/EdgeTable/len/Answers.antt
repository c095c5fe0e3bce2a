use Rattle.std.proofs.Common.{arith, length, ap}
use Rattle.graph_store.specs.EdgeIndex.{EdgeIndex}
use Rattle.graph_store.proofs.HeldLaws.{length-edges_from}
use Rattle.graph_store.proofs.edges.EdgeTable.len.Goals as goal

pub overflow_cast-result : goal.overflow_cast-result
overflow_cast-result c =
    let s = c.self.inside in
    record { fits = omega (arith, c.len.ensures, s.pair_of.ok.0, length-edges_from s.pairs.pairs s.pair_of.items s.layer_of.items c.self.invariant.0.lengths, c.self.invariant.1.few) }

pub returns-clause-len : goal.returns-clause-len
returns-clause-len c =
    let s = c.self.inside in
    omega (arith, c.len.ensures, s.pair_of.ok.0, length-edges_from s.pairs.pairs s.pair_of.items s.layer_of.items c.self.invariant.0.lengths, ap (λ (v : EdgeIndex). length v.edges) c.self.view_is)
