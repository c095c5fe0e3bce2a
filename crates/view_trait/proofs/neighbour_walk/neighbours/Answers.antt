use Rattle.std.proofs.Common.{◌≡◌, ◌∙◌, ℕ, List, Some, ap}
use Rattle.graph_store.specs.Contents.{Contents}
use Rattle.graph_store.specs.PairIndex.{pairs_from, pairs_to}
use Rattle.view_trait.proofs.NodePairs.{walk_outward, walk_inward, walk_both_ways, IsNeighbourWalk-outward, IsNeighbourWalk-inward, IsNeighbourWalk-both_ways}
use Rattle.view_trait.proofs.neighbour_walk.neighbours.Goals.{in-Outward, in-Inward, in-Both}
use Rattle.view_trait.proofs.neighbour_walk.neighbours.Goals as goal

-- the pairs of a node in a store that has the view's contents
from : (s contents : Contents) (n : ℕ) (pairs : List ℕ) → pairs ≡ pairs_from s.pairs n → s ≡ contents → Some pairs ≡ Some (pairs_from contents.pairs n)
from s contents n pairs e same = ap Some (e ∙ ap (λ (s : Contents). pairs_from s.pairs n) same)

to : (s contents : Contents) (n : ℕ) (pairs : List ℕ) → pairs ≡ pairs_to s.pairs n → s ≡ contents → Some pairs ≡ Some (pairs_to contents.pairs n)
to s contents n pairs e same = ap Some (e ∙ ap (λ (s : Contents). pairs_to s.pairs n) same)

pub invariant_of-result : goal.invariant_of-result
invariant_of-result g c =
    let contents = g.V.View.contents c.args.view.now in
    let s = c.store-store.result.now in
    let n = c.args.n.0 in
    elim c.match-direction.branch [
      | in-Outward w ↦ IsNeighbourWalk-outward contents n _ _ c.requires (ap (λ t. t.0) w.out-is ∙ from s contents n w.out_pairs.result w.out_pairs.ensures c.store-store.ensures) (ap (λ t. t.1) w.out-is)
      | in-Inward w ↦ IsNeighbourWalk-inward contents n _ _ c.requires (ap (λ t. t.0) w.out-is) (ap (λ t. t.1) w.out-is ∙ to s contents n w.in_pairs.result w.in_pairs.ensures c.store-store.ensures)
      | in-Both w ↦ IsNeighbourWalk-both_ways contents n _ _ c.requires (ap (λ t. t.0) w.out-is ∙ from s contents n w.out_pairs-in-Both.result w.out_pairs-in-Both.ensures c.store-store.ensures) (ap (λ t. t.1) w.out-is ∙ to s contents n w.in_pairs-in-Both.result w.in_pairs-in-Both.ensures c.store-store.ensures)
    ]

pub returns : goal.returns
returns g c =
    let contents = g.V.View.contents c.args.view.now in
    let world = g.V.View.world c.args.view.now in
    let shown = g.met.V.View.shown c.args.view.now in
    let s = c.store-store.result.now in
    let n = c.args.n.0 in
    elim c.match-direction.branch [
      | in-Outward w ↦ walk_outward contents world n c.args.direction _ _ _ shown c.requires w.in-Outward.is (ap (λ t. t.2) w.out-is) (ap (λ t. t.0) w.out-is ∙ from s contents n w.out_pairs.result w.out_pairs.ensures c.store-store.ensures) (ap (λ t. t.1) w.out-is)
      | in-Inward w ↦ walk_inward contents world n c.args.direction _ _ _ shown c.requires w.in-Inward.is (ap (λ t. t.2) w.out-is) (ap (λ t. t.0) w.out-is) (ap (λ t. t.1) w.out-is ∙ to s contents n w.in_pairs.result w.in_pairs.ensures c.store-store.ensures)
      | in-Both w ↦ walk_both_ways contents world n c.args.direction _ _ _ shown c.requires w.in-Both.is (ap (λ t. t.2) w.out-is) (ap (λ t. t.0) w.out-is ∙ from s contents n w.out_pairs-in-Both.result w.out_pairs-in-Both.ensures c.store-store.ensures) (ap (λ t. t.1) w.out-is ∙ to s contents n w.in_pairs-in-Both.result w.in_pairs-in-Both.ensures c.store-store.ensures)
    ]
