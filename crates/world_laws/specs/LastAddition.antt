-- Additions that nothing follows at their time.
use Rattle.std.specs.Prelude.{List, ◌∷◌, ◌++◌, ◌≡◌, ◌<ℤ◌, IsTrue}
use Rattle.std.specs.List.{AllByRecursion}
use Rattle.graph_model.specs.declared.events.Event.{Event}
use Rattle.graph_model.specs.Entity.{is_addition}

-- some addition is followed by later events alone
abbrev pub HasLastAddition : List Event → Type 0
HasLastAddition xs = (before : List Event) × ((x : Event) × ((after : List Event) × (xs ≡ before ++ x ∷ after) × IsTrue (is_addition x) × AllByRecursion (λ y. x.time <ℤ y.time) after))
