use Rattle.std.proofs.Common.{◌≡◌, ℤ, ℕ, ◌≤ℤ◌, [], ◌∷◌, Option, map, length, sym, subst, ◌∙◌, arith}
use Rattle.std.specs.Prelude.{IsPermutation, MatchOption}
use Rattle.std.specs.List.{AllByRecursion}
use Rattle.std.specs.BinaryHeap.{heap_items}
use Rattle.std.proofs.lemmas.List.Sorted.{IsPermutation-map}
use Rattle.temporal_reach.proofs.Offered.{offer, least_all, no_items}
use Rattle.temporal_reach.proofs.frontier.Frontier.pop.Goals.{in-Some, in-None}
use Rattle.temporal_reach.proofs.frontier.Frontier.pop.Goals as goal

pub returns : goal.returns
returns c =
    let new = map offer (heap_items c.pop.new.self) in
    let answers = λ (r : Option (ℤ × ℕ)). MatchOption r (c.args.self.now ≡ []) (λ (x : ℤ × ℕ). IsPermutation c.args.self.now (x ∷ new) × AllByRecursion (λ (y : ℤ × ℕ). x.0 ≤ℤ y.0) new) in
    elim c.match-pop.branch [
      | in-Some w ↦
          let f = w.in-Some.field-0 in
          subst answers (sym w.result-is) (
            subst (λ xs. IsPermutation xs (offer f ∷ new)) c.self.view_is (IsPermutation-map offer _ _ w.in-Some.ensures.permutation),
            least_all f (heap_items c.pop.new.self) (w.in-Some.ensures.below_top c.self.invariant),
          )
      | in-None w ↦
          let empty : length (heap_items c.self.inside.heap) ≡ 0 = (let e = w.in-None.ensures.none in omega (arith, e)) in
          subst answers (sym w.result-is) (sym c.self.view_is ∙ no_items _ empty)
    ]
