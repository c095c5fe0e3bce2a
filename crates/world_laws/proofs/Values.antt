-- The values of properties that rise by key, put over one another.
use Rattle.std.proofs.Common.{◌≡◌, ℕ, List, [], ◌∷◌}
use Rattle.std.specs.List.{fold, AllByRecursion}
use Rattle.std.proofs.lemmas.Bool.{cond_both}
use Rattle.graph_model.specs.declared.properties.Value.{Value}
use Rattle.graph_model.specs.declared.events.Event.{Event}
use Rattle.graph_model.specs.Props.{prop_value, has_key, put_prop, overwrite, KeysRise}
use Rattle.graph_model.specs.Entity.{props_of}
use Rattle.graph_model.specs.Compare.{last_value}
use Rattle.graph_model.specs.Window.{last_props}
use Rattle.graph_model.proofs.PropItems.{KeysRise-put}
use Rattle.world_laws.proofs.Distinct.{each_distinct, value-last_props}

pub KeysRise-overwrite : (old new : List (List ℕ × Value)) → KeysRise new → KeysRise (overwrite old new)
KeysRise-overwrite [] new h = h
KeysRise-overwrite (p ∷ old) new h =
    let k = KeysRise-overwrite old new h in
    cond_both (has_key p.0 (overwrite old new)) (overwrite old new) (put_prop p (overwrite old new)) KeysRise (λ e. k) (λ e. KeysRise-put p (overwrite old new) e k)

KeysRise-folded : (ps : List (List ℕ × Value)) (xs : List Event) → KeysRise ps → AllByRecursion (λ x. KeysRise (props_of x)) xs → KeysRise (fold (λ old x. overwrite old (props_of x)) ps xs)
KeysRise-folded ps [] h k = h
KeysRise-folded ps (x ∷ xs) h k = KeysRise-folded (overwrite ps (props_of x)) xs (KeysRise-overwrite ps (props_of x) k.0) k.1

pub KeysRise-last_props : (xs : List Event) → AllByRecursion (λ x. KeysRise (props_of x)) xs → KeysRise (last_props xs)
KeysRise-last_props xs h = KeysRise-folded [] xs tt h

-- for each key, a carried event has the last value that the events set
pub last_props_value : (key : List ℕ) (xs : List Event) → AllByRecursion (λ x. KeysRise (props_of x)) xs → prop_value key (last_props xs) ≡ last_value key xs
last_props_value key xs h = value-last_props key xs (each_distinct xs h)
