use Rattle.std.proofs.Common.{◌≡◌, ◌∙◌, ℕ, ◌<◌, List, ap, subst, sym}
use Rattle.std.specs.List.{All}
use Rattle.std.proofs.lemmas.List.{map-append}
use Rattle.graph_model.specs.declared.properties.Value.{Value}
use Rattle.time_history.specs.KeyValues.{KeyNumbersRise}
use Rattle.time_history.specs.Pairs.{pairs_of, pairs_in}
use Rattle.time_history.proofs.Keys.{KeyNumbersRise-push}
use Rattle.time_history.proofs.updates.KeyValues.insert.Goals as goal

pub invariant_of-self-in-Many : goal.invariant_of-self-in-Many
invariant_of-self-in-Many c =
    let items = c.in-Many.items.items in
    let seen : pairs_of items ≡ c.args.self.now = ap pairs_in (sym c.in-Many.is) ∙ c.self.view_is in
    let rise : KeyNumbersRise (pairs_of items) = subst KeyNumbersRise (ap pairs_in c.in-Many.is) c.self.invariant in
    let all : All (λ (p : ℕ × Value). p.0 < c.args.key) (pairs_of items) = subst (λ (xs : List (ℕ × Value)). All (λ (p : ℕ × Value). p.0 < c.args.key) xs) (sym seen) c.requires in
    rw (c.in_ok-push-in-Many.ensures.items, map-append) (KeyNumbersRise-push _ (c.args.key, c.args.value) rise all)
