use Rattle.std.proofs.Common.{◌≡◌, ◌∙◌, ◌++◌, ◌∷◌, ◌<◌, ℕ, List, sym, ap, subst}
use Rattle.graph_model.specs.declared.properties.Value.{Value}
use Rattle.time_history.specs.KeyValues.{KeyNumbersRise}
use Rattle.time_history.proofs.Held.{all_from_each}
use Rattle.graph_store.specs.declared.numbered.Numbered.{Numbered}
use Rattle.graph_store.specs.Numbered.{pairs_in}
use Rattle.graph_store.proofs.NumberLaws.{before_rises}
use Rattle.graph_store.proofs.numbered.key_values.Goals as goal

pub insert-requires : goal.insert-requires
insert-requires c =
    let seam : c.loop-item.values ++ (c.in-Some.item.key, c.in-Some.item.value) ∷ pairs_in c.next.new.self ≡ pairs_in c.args.numbered.items = ap (λ (xs : List Numbered). c.loop-item.values ++ pairs_in xs) (sym c.in-Some.ensures.steps) ∙ c.loop-item.invariant in
    all_from_each (λ (p : ℕ × Value). p.0 < c.in-Some.item.key) c.loop-item.values
    (before_rises c.loop-item.values (c.in-Some.item.key, c.in-Some.item.value) (pairs_in c.next.new.self) (subst KeyNumbersRise (sym seam) c.requires))
