use Rattle.std.proofs.Common.{arith, ◌≡◌, ◌<◌, ℕ, Some, length, ap, sym, ◌∙◌, subst}
use Rattle.std.specs.Prelude.{slice_get, slice_index_or}
use Rattle.std.proofs.lemmas.List.{get_or_read}
use Rattle.std.proofs.lemmas.Option.{get_or_from_slice_get}
use Rattle.graph_store.specs.declared.pairs.Ends.{Ends}
use Rattle.graph_store.specs.Ends.{ends_at}
use Rattle.graph_store.specs.EdgeParts.{parts_in_layer}
use Rattle.graph_store.specs.EdgeIndex.{EdgeIndex}
use Rattle.world_laws.proofs.ListItems.{each_at}
use Rattle.graph_store.proofs.HeldLaws.{length-edges_from, edge-edges_from}
use Rattle.graph_store.proofs.edges.EdgeTable.parts_of.Goals as goal

pub index-requires : goal.index-requires
index-requires c =
    let s = c.self.inside in
    omega (arith, c.requires, s.pair_of.ok.0, ap (λ (v : EdgeIndex). length v.edges) c.self.view_is, length-edges_from s.pairs.pairs s.pair_of.items s.layer_of.items c.self.invariant.0.lengths)

pub ends_of-ends-requires : goal.ends_of-ends-requires
ends_of-ends-requires c =
    let s = c.self.inside in
    let lt : c.args.edge < length s.pair_of.items =
    omega (arith, c.requires, ap (λ (v : EdgeIndex). length v.edges) c.self.view_is, length-edges_from s.pairs.pairs s.pair_of.items s.layer_of.items c.self.invariant.0.lengths) in
    subst (λ p. p < length s.pairs.pairs) (sym c.index.ensures) (each_at (λ (p : ℕ). p < length s.pairs.pairs) s.pair_of.items c.args.edge c.index.result.now c.self.invariant.0.within lt)

pub index-requires-2 : goal.index-requires-2
index-requires-2 c =
    let s = c.self.inside in
    omega (arith, c.requires, s.layer_of.ok.0, c.self.invariant.0.lengths, ap (λ (v : EdgeIndex). length v.edges) c.self.view_is, length-edges_from s.pairs.pairs s.pair_of.items s.layer_of.items c.self.invariant.0.lengths)

pub returns : goal.returns
returns c =
    let s = c.self.inside in
    let lt : c.args.edge < length s.pair_of.items =
    omega (arith, c.requires, ap (λ (v : EdgeIndex). length v.edges) c.self.view_is, length-edges_from s.pairs.pairs s.pair_of.items s.layer_of.items c.self.invariant.0.lengths) in
    let pair : c.index.result.now ≡ slice_index_or s.pair_of.items c.args.edge 0 = get_or_read s.pair_of.items c.args.edge c.index.result.now lt c.index.ensures 0 in
    let layer : c.index-2.result.now ≡ slice_index_or s.layer_of.items c.args.edge 0 = get_or_read s.layer_of.items c.args.edge c.index-2.result.now (omega (arith, lt, c.self.invariant.0.lengths)) c.index-2.ensures 0 in
    let ends : ends_at s.pairs.pairs c.index.result.now ≡ c.ends_of-ends.result = get_or_from_slice_get s.pairs.pairs c.index.result.now c.ends_of-ends.result (record { src = 0; dst = 0 }) c.ends_of-ends.ensures in
    ap (λ (v : EdgeIndex). slice_get v.edges c.args.edge) (sym c.self.view_is)
    ∙ (edge-edges_from s.pairs.pairs s.pair_of.items s.layer_of.items c.args.edge c.self.invariant.0.lengths lt
    ∙ (ap (λ p. Some (parts_in_layer (ends_at s.pairs.pairs p) (slice_index_or s.layer_of.items c.args.edge 0))) (sym pair)
    ∙ (ap (λ l. Some (parts_in_layer (ends_at s.pairs.pairs c.index.result.now) l)) (sym layer)
    ∙ ap (λ (x : Ends). Some (parts_in_layer x c.index-2.result.now)) ends)))
