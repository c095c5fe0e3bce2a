use Rattle.std.proofs.Common.{◌≡◌, sym, subst, ◌∙◌}
use Rattle.std.specs.List.{insert}
use Rattle.std.specs.Ordering.{nat_cmp}
use Rattle.graph_model.specs.Rising.{put_rising, Rises}
use Rattle.view_trait.proofs.Rising.{found_search, new_search, rises_after}
use Rattle.view_trait.proofs.sorted_numbers.put_number.Goals.{After-insert}
use Rattle.view_trait.proofs.sorted_numbers.put_number.Goals as goal

pub returns-in-Ok-clause-ok : goal.returns-in-Ok-clause-ok
returns-in-Ok-clause-ok c =
    let rise = subst (Rises nat_cmp) (sym c.deref.ensures.value) c.requires in
    sym (subst (λ xs. put_rising nat_cmp c.args.n xs ≡ xs) c.deref.ensures.value (found_search c.deref.result.now c.args.n c.in-Ok.field-0 rise c.in-Ok.ensures.position))

-- where the search ends, the number has its place
placed : (c : After-insert) → put_rising nat_cmp c.args.n c.args.numbers.now.items ≡ insert c.args.numbers.now.items c.in-Err.place c.args.n
placed c =
    let rise = subst (Rises nat_cmp) (sym c.deref.ensures.value) c.requires in
    subst (λ xs. put_rising nat_cmp c.args.n xs ≡ insert xs c.in-Err.place c.args.n) c.deref.ensures.value (new_search c.deref.result.now c.args.n c.in-Err.place rise c.in-Err.ensures.position)

pub returns-in_ok-insert-in-Err-clause-rises : goal.returns-in_ok-insert-in-Err-clause-rises
returns-in_ok-insert-in-Err-clause-rises c =
    rises_after c.args.numbers.now.items c.insert.new.self.items c.args.n c.in-Err.place c.requires (placed (goal.at.returns-in_ok-insert-in-Err-clause-rises c).After-insert) c.in_ok-insert-in-Err.ensures.items

pub returns-in_ok-insert-in-Err-clause-ok : goal.returns-in_ok-insert-in-Err-clause-ok
returns-in_ok-insert-in-Err-clause-ok c = c.in_ok-insert-in-Err.ensures.items ∙ sym (placed (goal.at.returns-in_ok-insert-in-Err-clause-ok c).After-insert)
