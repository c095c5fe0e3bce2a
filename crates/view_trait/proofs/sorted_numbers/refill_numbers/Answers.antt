use Rattle.std.proofs.Common.{◌≡◌, ◌++◌, ◌∙◌, ap, subst, sym, List, ℕ}
use Rattle.std.specs.Ordering.{nat_cmp}
use Rattle.graph_model.specs.Rising.{Rises, rising}
use Rattle.view_trait.proofs.Rising.{numbers_settled, Rises-numbers}
use Rattle.view_trait.proofs.sorted_numbers.refill_numbers.Goals.{After-dedup}
use Rattle.view_trait.proofs.sorted_numbers.refill_numbers.Goals as goal

settled : (c : After-dedup) → c.dedup.new.self.items ≡ rising nat_cmp c.args.given.now
settled c =
    let before : c.extend_from_slice.new.self.items ≡ c.args.given.now = c.in_ok-extend_from_slice.ensures.items ∙ ap (λ (xs : List ℕ). xs ++ c.args.given.now) c.clear.ensures.items in
    numbers_settled c.extend_from_slice.new.self.items c.sort_unstable.new.self.items c.dedup.new.self.items c.sort_unstable.ensures.permutation c.sort_unstable.ensures.sorted c.dedup.ensures.filtered
    ∙ ap (rising nat_cmp) before

pub returns-clause-ok : goal.returns-clause-ok
returns-clause-ok c = settled (goal.at.returns-clause-ok c).After-dedup

pub returns-clause-rises : goal.returns-clause-rises
returns-clause-rises c = subst (Rises nat_cmp) (sym (settled (goal.at.returns-clause-rises c).After-dedup)) (Rises-numbers c.args.given.now)
