-- Items that rise differ.
use Rattle.std.proofs.Common.{◌≡◌, false, List, [], ◌∷◌, ap, arith}
use Rattle.std.specs.List.{IsDistinct}
use Rattle.std.specs.declared.cmp.Ordering.{Ordering}
use Rattle.std.specs.declared.cmp.Ordering.TheVariants.{Less}
use Rattle.std.specs.Ordering.{is_eq}
use Rattle.std.proofs.lemmas.Map.Keys.{IsDistinct-cons, IsDistinct-from_apart}
use Rattle.graph_model.specs.Rising.{Rises}
use Rattle.world_laws.proofs.Filters.{each_weaker}

pub distinct_rising : {X : Type 0} (cmp : X → X → Ordering) (xs : List X) → Rises cmp xs
    → IsDistinct (λ x y. is_eq (cmp x y)) xs
distinct_rising cmp [] h = IsDistinct-from_apart (λ x y. is_eq (cmp x y)) [] (λ i j d less below. absurd (omega arith))
distinct_rising cmp (x ∷ xs) h =
    IsDistinct-cons (λ x y. is_eq (cmp x y)) x xs
    (each_weaker (λ y. cmp x y ≡ Less) (λ y. is_eq (cmp x y) ≡ false) (λ y e. ap is_eq e) xs h.0) (distinct_rising cmp xs h.1)
