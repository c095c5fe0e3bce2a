-- The row of an extent.
use Rattle.std.proofs.Common.{◌≡◌, List, [], ◌∷◌, refl}
use Rattle.graph_model.specs.declared.events.Event.{Event}
use Rattle.graph_model.specs.Answer.{extent_row}
use Rattle.view_trait.specs.Extent.{extent_of}
use Rattle.view_answers.specs.Extents.{extent_told}

pub extent_is : (xs : List Event) → extent_told (extent_of xs) ≡ extent_row xs
extent_is [] = refl
extent_is (x ∷ xs) = refl
