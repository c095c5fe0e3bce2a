-- Properties: pairs of a key and a value, rising by key.
use Rattle.std.specs.Prelude.{ℕ, List, [], ◌∷◌, Bool, true, not, ◌&&◌, ◌≡◌, Option, if◌then◌else◌}
use Rattle.std.specs.Option.{option_map}
use Rattle.std.specs.List.{find, list_any, AllByRecursion}
use Rattle.std.specs.declared.cmp.Ordering.{Ordering}
use Rattle.std.specs.declared.cmp.Ordering.TheVariants.{Less}
use Rattle.std.specs.Ordering.{is_lt}
use Rattle.graph_model.specs.declared.properties.Value.{Value}
use Rattle.graph_model.specs.Names.{name_cmp, same_name}

-- each key is less than all after it
abbrev pub KeysRise : List (List ℕ × Value) → Type 0
KeysRise [] = Unit {0}
KeysRise (p ∷ ps) = AllByRecursion (λ (q : List ℕ × Value). name_cmp p.0 q.0 ≡ Less) ps × KeysRise ps

-- whether properties have a key
abbrev pub has_key : List ℕ → List (List ℕ × Value) → Bool
has_key key props = list_any (λ (p : List ℕ × Value). same_name key p.0) props

-- the value that properties have for a key
abbrev pub prop_value : List ℕ → List (List ℕ × Value) → Option Value
prop_value key props = option_map (λ (p : List ℕ × Value). p.1) (find (λ (p : List ℕ × Value). same_name key p.0) props)

-- a property, put in its place among properties that rise by key
abbrev pub put_prop : List ℕ × Value → List (List ℕ × Value) → List (List ℕ × Value)
put_prop p [] = p ∷ []
put_prop p (q ∷ qs) = if is_lt (name_cmp p.0 q.0) then (p ∷ q ∷ qs) else (q ∷ put_prop p qs)

-- old properties with new ones over them: the new ones, and those old ones whose keys are not among them
abbrev pub overwrite : List (List ℕ × Value) → List (List ℕ × Value) → List (List ℕ × Value)
overwrite [] new = new
overwrite (p ∷ old) new = if has_key p.0 (overwrite old new) then overwrite old new else put_prop p (overwrite old new)

-- properties, ordered by key
abbrev pub key_cmp : List ℕ × Value → List ℕ × Value → Ordering
key_cmp p q = name_cmp p.0 q.0

-- no two properties have one key
abbrev pub keys_differ : List (List ℕ × Value) → Bool
keys_differ [] = true
keys_differ (p ∷ ps) = not (has_key p.0 ps) && keys_differ ps
