-- Rows by names.
use Rattle.std.proofs.Common.{◌≡◌, ℕ, List, [], ◌∷◌, map}
use Rattle.std.specs.List.{AllByRecursion}
use Rattle.std.specs.declared.cmp.Ordering.TheVariants.{Less}
use Rattle.graph_model.specs.Answer.{Row, RowsRise, row_cmp}
use Rattle.graph_model.specs.Names.{name_cmp}
use Rattle.graph_model.specs.Rising.{Rises}

-- rows of items rise where the names of the items do
pub rows_rise : {X : Type 0} (name : X → List ℕ) (row : X → Row) → ((x y : X) → name_cmp (name x) (name y) ≡ Less → row_cmp (row x) (row y) ≡ Less) → (xs : List X) → Rises name_cmp (map name xs) → RowsRise (map row xs)
rows_rise name row less [] h = tt
rows_rise {X} name row less (x ∷ xs) h = (each xs h.0, rows_rise name row less xs h.1)
  where
    each : (ys : List X) → AllByRecursion (λ n. name_cmp (name x) n ≡ Less) (map name ys) → AllByRecursion (λ r. row_cmp (row x) r ≡ Less) (map row ys)
    each [] k = tt
    each (y ∷ ys) k = (less x y k.0, each ys k.1)
