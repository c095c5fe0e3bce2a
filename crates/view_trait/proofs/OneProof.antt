-- Facts that have at most one proof.
use Rattle.std.proofs.Common.{ℕ, List, [], ◌∷◌}
use Rattle.std.specs.Coded.{Unit-prop}
use Rattle.std.specs.declared.cmp.Ordering.{Ordering}
use Rattle.std.proofs.Props.{props}
use Rattle.graph_model.specs.declared.properties.Value.{Value}
use Rattle.graph_model.specs.Props.{KeysRise}
use Rattle.graph_model.specs.Rising.{Rises}
use Rattle.graph_model.specs.World.{World}
use Rattle.graph_store.specs.Contents.{Contents}
use Rattle.view_trait.specs.Meaning.{IsShown}

KeysRise-prop : (ps : List (List ℕ × Value)) → IsProp (KeysRise ps)
KeysRise-prop [] = Unit-prop
KeysRise-prop (p ∷ ps) = hlevel (props, KeysRise-prop ps)

Rises-prop : {X : Type 0} (cmp : X → X → Ordering) (xs : List X) → IsProp (Rises cmp xs)
Rises-prop cmp [] = Unit-prop
Rises-prop cmp (x ∷ xs) = hlevel (props, Rises-prop cmp xs)

pub IsShown-prop : (c : Contents) (w : World) → IsProp (IsShown c w)
IsShown-prop c w = hlevel (props, KeysRise-prop, Rises-prop)
