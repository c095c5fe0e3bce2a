use Rattle.std.proofs.Common.{rules, ◌≡◌, ℕ, ◌<◌, None, length, ap, sym, ◌∙◌, arith, subst}
use Rattle.std.specs.Prelude.{position, is_some, false, slice_index_or}
use Rattle.std.specs.List.{AllByRecursion, find, list_any}
use Rattle.std.proofs.lemmas.List.Quantifiers.{position-Some}
use Rattle.graph_store.specs.declared.pairs.Ends.{Ends}
use Rattle.graph_store.specs.declared.edges.EdgeParts.{EdgeParts}
use Rattle.graph_store.specs.Ends.{same_ends, ends_at}
use Rattle.graph_store.specs.EdgeParts.{same_parts, ends_of, parts_at, is_in}
use Rattle.graph_store.specs.EdgeIndex.{EdgeIndex, edges_between, edges_from}
use Rattle.graph_store.proofs.edges.EdgeTable.find.Goals as goal
use Rattle.graph_store.proofs.Readers.{is_some-position}
use Rattle.graph_store.proofs.LinkLaws.{same_ends-equal}
use Rattle.graph_store.proofs.HeldLaws.{length-edges_from, layer-edges_from}
use Rattle.graph_store.proofs.InLayer.{in_layer, no_edge, places_from-below}

pub returns-in_err-pair-clause-place : goal.returns-in_err-pair-clause-place
returns-in_err-pair-clause-place c =
    let none : c.from_residual.result ≡ None = search rules in
    let absent : list_any (λ (e : EdgeParts). same_ends (ends_of c.args.parts) (ends_of e)) (edges_from c.self.inside.pairs.pairs c.self.inside.pair_of.items c.self.inside.layer_of.items) ≡ false =
    sym (c.self.invariant.1.known (ends_of c.args.parts)) ∙ (ap (λ (x : Ends). list_any (same_ends x) c.self.inside.pairs.pairs) (sym c.ends.ensures) ∙ sym c.in_err-pair.ensures.known) in
    none ∙ (sym (no_edge (edges_from c.self.inside.pairs.pairs c.self.inside.pair_of.items c.self.inside.layer_of.items) c.args.parts absent) ∙ ap (λ (v : EdgeIndex). position (same_parts c.args.parts) v.edges) c.self.view_is)

pub returns-in_err-pair-clause-known : goal.returns-in_err-pair-clause-known
returns-in_err-pair-clause-known c = ap is_some (returns-in_err-pair-clause-place c) ∙ is_some-position (same_parts c.args.parts) c.args.self.now.edges (record { src = 0; dst = 0; layer = 0 })

pub first_in_layer-requires : goal.first_in_layer-requires
first_in_layer-requires c =
    let s = c.self.inside in
    let same : length c.as_slice.result.now ≡ length c.args.self.now.edges =
    ap length c.as_slice.ensures.value ∙ (c.self.invariant.0.lengths ∙ (sym (length-edges_from s.pairs.pairs s.pair_of.items s.layer_of.items c.self.invariant.0.lengths) ∙ ap (λ (v : EdgeIndex). length v.edges) c.self.view_is)) in
    let ends = ends_at c.args.self.now.pairs c.in_ok-pair.pair in
    subst (λ n. AllByRecursion (λ e. e < n) c.edges_of.result) (sym same)
    (subst (AllByRecursion (λ e. e < length c.args.self.now.edges)) (sym c.edges_of.ensures)
    (places_from-below (λ (e : EdgeParts). same_ends ends (ends_of e)) (length c.args.self.now.edges) 0 c.args.self.now.edges (omega arith)))

pub returns-clause-place : goal.returns-clause-place
returns-clause-place c =
    let edges = c.args.self.now.edges in
    let at = position-Some (same_ends c.ends.result) c.self.inside.pairs.pairs c.in_ok-pair.pair (record { src = 0; dst = 0 }) (sym c.in_ok-pair.ensures.place) in
    let ends : ends_at c.args.self.now.pairs c.in_ok-pair.pair ≡ ends_of c.args.parts =
    ap (λ (v : EdgeIndex). ends_at v.pairs c.in_ok-pair.pair) (sym c.self.view_is) ∙ (sym (same_ends-equal c.ends.result (ends_at c.self.inside.pairs.pairs c.in_ok-pair.pair) at.1) ∙ c.ends.ensures) in
    let s = c.self.inside in
    let layers = s.layer_of.items in
    let own : (e : ℕ) → slice_index_or layers e 0 ≡ (parts_at edges e).layer = λ e.
    layer-edges_from s.pairs.pairs s.pair_of.items layers c.self.invariant.0.lengths e ∙ ap (λ (v : EdgeIndex). (parts_at v.edges e).layer) c.self.view_is in
    let walk : c.edges_of.result ≡ edges_between edges (ends_of c.args.parts) = c.edges_of.ensures ∙ ap (edges_between edges) ends in
    c.first_in_layer.ensures ∙ ((λ k. find (is_in (c.as_slice.ensures.value k) c.args.parts.layer) (walk k)) ∙ in_layer edges layers c.args.parts own)

pub returns-clause-known : goal.returns-clause-known
returns-clause-known c = ap is_some (returns-clause-place c) ∙ is_some-position (same_parts c.args.parts) c.args.self.now.edges (record { src = 0; dst = 0; layer = 0 })
