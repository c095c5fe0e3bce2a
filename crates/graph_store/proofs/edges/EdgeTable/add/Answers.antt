use Rattle.std.proofs.Common.{◌≡◌, ◌++◌, ◌∷◌, [], ◌<◌, ◌-◌, ◌^◌, List, ℕ, length, min, vec_len, vec_capacity, cond, ap, sym, ◌∙◌, subst, arith}
use Rattle.std.specs.Prelude.{false}
use Rattle.std.specs.List.{list_any}
use Rattle.indexmap.specs.IndexSet.{insert_key}
use Rattle.link_chain.specs.NumberLists.{with_last}
use Rattle.graph_store.specs.declared.pairs.Ends.{Ends}
use Rattle.graph_store.specs.declared.edges.EdgeParts.{EdgeParts}
use Rattle.graph_store.specs.Ends.{same_ends}
use Rattle.graph_store.specs.EdgeParts.{same_parts, parts_in_layer}
use Rattle.graph_store.specs.EdgeIndex.{EdgeIndex, IsEdgeIndex, HavePairs, edges_from}
use Rattle.graph_store.proofs.edges.EdgeTable.add.Goals as goal
use Rattle.graph_store.proofs.LinkLaws.{IsEdgeIndex-push}
use Rattle.graph_store.proofs.HeldLaws.{length-edges_from, edges_added, held_added}

room : (c : goal.After-append) → 0 < min (min (min (vec_capacity c.self.inside.pair_of - vec_len c.self.inside.pair_of) (vec_capacity c.self.inside.layer_of - vec_len c.self.inside.layer_of)) c.self.inside.pairs.spare_pairs) (min c.self.inside.of_pair.spare_lists c.self.inside.of_pair.spare_links)
room c = subst (λ (v : EdgeIndex). 0 < v.spare_edges) (sym c.self.view_is) c.requires.room

-- the edges are those before and the new one
edges : (c : goal.After-append) → edges_from c.number_of_pair-pair.new.pairs.pairs c.push_reserved.new.self.items c.push_reserved-2.new.self.items ≡ edges_from c.self.inside.pairs.pairs c.self.inside.pair_of.items c.self.inside.layer_of.items ++ c.args.parts ∷ []
edges c =
    let s = c.self.inside in
    let e = c.number_of_pair-pair.ensures in
    ap (λ ps. edges_from c.number_of_pair-pair.new.pairs.pairs ps c.push_reserved-2.new.self.items) c.push_reserved.ensures.items
    ∙ (ap (λ ls. edges_from c.number_of_pair-pair.new.pairs.pairs (s.pair_of.items ++ c.number_of_pair-pair.result ∷ []) ls) c.push_reserved-2.ensures.items
    ∙ edges_added s.pairs.pairs c.number_of_pair-pair.new.pairs.pairs s.pair_of.items s.layer_of.items c.number_of_pair-pair.result c.args.parts.layer c.ends.result c.args.parts c.self.invariant.0 e.pairs e.within e.number (ap (λ (x : Ends). parts_in_layer x c.args.parts.layer) c.ends.ensures))

pub invariant_of-self : goal.invariant_of-self
invariant_of-self c =
    let s = c.self.inside in
    let r = room c in
    let e = c.number_of_pair-pair.ensures in
    let old = edges_from s.pairs.pairs s.pair_of.items s.layer_of.items in
    let number : c.len-edge.result ≡ length old = omega (arith, c.len-edge.ensures, s.pair_of.ok.0, length-edges_from s.pairs.pairs s.pair_of.items s.layer_of.items c.self.invariant.0.lengths) in
    let lists : c.append.new.self.lists ≡ with_last c.number_of_pair-pair.result (length old) c.number_of_pair-pair.new.of_pair.lists =
    c.append.ensures.lists ∙ ap (λ n. with_last c.number_of_pair-pair.result n c.number_of_pair-pair.new.of_pair.lists) number in
    let few : length old < 2 ^ 32 - 1 = subst (λ (v : EdgeIndex). length v.edges < 2 ^ 32 - 1) (sym c.self.view_is) c.requires.few in (
      subst (λ ps. HavePairs c.number_of_pair-pair.new.pairs.pairs ps c.push_reserved-2.new.self.items) (sym c.push_reserved.ensures.items)
          (subst (λ ls. HavePairs c.number_of_pair-pair.new.pairs.pairs (s.pair_of.items ++ c.number_of_pair-pair.result ∷ []) ls) (sym c.push_reserved-2.ensures.items)
          (held_added s.pairs.pairs c.number_of_pair-pair.new.pairs.pairs s.pair_of.items s.layer_of.items c.number_of_pair-pair.result c.args.parts.layer c.ends.result c.args.parts c.self.invariant.0 e.pairs e.within e.number (ap (λ (x : Ends). parts_in_layer x c.args.parts.layer) c.ends.ensures))),
      subst (λ (es : List EdgeParts). IsEdgeIndex es c.number_of_pair-pair.new.pairs c.append.new.self.lists c.append.new.self.links) (sym (edges c))
          (subst (λ (ls : List (List ℕ)). IsEdgeIndex (old ++ c.args.parts ∷ []) c.number_of_pair-pair.new.pairs ls c.append.new.self.links) (sym lists)
          (IsEdgeIndex-push old s.pairs c.number_of_pair-pair.new.pairs s.of_pair.lists c.number_of_pair-pair.new.of_pair.lists s.of_pair.links c.append.new.self.links c.args.parts c.number_of_pair-pair.result
          c.self.invariant.1
          (omega (arith, c.append.ensures.links, e.links))
          (subst (λ (v : EdgeIndex). list_any (same_parts c.args.parts) v.edges ≡ false) (sym c.self.view_is) c.requires.new)
          (subst (λ (v : EdgeIndex). c.args.parts.src < v.nodes) (sym c.self.view_is) c.requires.src)
          (subst (λ (v : EdgeIndex). c.args.parts.dst < v.nodes) (sym c.self.view_is) c.requires.dst)
          few
          e.nodes
          (e.pairs ∙ ap (insert_key same_ends s.pairs.pairs) c.ends.ensures)
          (e.lists ∙ ap (λ (x : Ends). cond (list_any (same_ends x) s.pairs.pairs) s.of_pair.lists (s.of_pair.lists ++ [] ∷ [])) c.ends.ensures)
          e.within
          (e.number ∙ c.ends.ensures)
          e.distinct)),
    )

pub returns-clause-edges : goal.returns-clause-edges
returns-clause-edges c = edges c ∙ ap (λ (v : EdgeIndex). v.edges ++ c.args.parts ∷ []) c.self.view_is

pub overflow_cast-edge : goal.overflow_cast-edge
overflow_cast-edge c =
    let s = c.self.inside in
    record { fits = omega (arith, c.len-edge.ensures, s.pair_of.ok.0, length-edges_from s.pairs.pairs s.pair_of.items s.layer_of.items c.self.invariant.0.lengths, c.self.invariant.1.few) }

pub returns-clause-number : goal.returns-clause-number
returns-clause-number c =
    let s = c.self.inside in
    omega (arith, c.len-edge.ensures, s.pair_of.ok.0, length-edges_from s.pairs.pairs s.pair_of.items s.layer_of.items c.self.invariant.0.lengths, ap (λ (v : EdgeIndex). length v.edges) c.self.view_is)

pub append-requires-clause-number : goal.append-requires-clause-number
append-requires-clause-number c =
    let s = c.self.inside in
    omega (arith, c.len-edge.ensures, s.pair_of.ok.0, length-edges_from s.pairs.pairs s.pair_of.items s.layer_of.items c.self.invariant.0.lengths, ap (λ (v : EdgeIndex). length v.edges) c.self.view_is, c.requires.few)
