-- The present nodes of a store, sorted by name.
use Rattle.std.proofs.Common.{◌≡◌, ℕ, List, map, sym, ◌∙◌}
use Rattle.std.specs.Prelude.{IsPermutation, IsSortedBy}
use Rattle.std.specs.List.{list_any, IsDistinct}
use Rattle.std.specs.Ordering.{is_lt}
use Rattle.std.proofs.lemmas.List.Sorted.{IsPermutation-map, list_any-IsPermutation}
use Rattle.graph_model.specs.Names.{name_cmp, same_name, name_total}
use Rattle.graph_model.specs.World.{World}
use Rattle.graph_model.specs.Presence.{node_present, nodes}
use Rattle.world_laws.proofs.Order.{name_exact}
use Rattle.world_laws.proofs.Members.{nodes_has, nodes_rise}
use Rattle.world_laws.proofs.RisingFixed.{rising_fixed}
use Rattle.world_laws.proofs.SortedKeys.{sorted_keys_rise}

-- the keys of a sorted permutation of items with distinct names, which are those of the present nodes
pub sorted_nodes : {X : Type 0} (key : X → List ℕ) (w : World) (xs ys : List X) → IsDistinct same_name (map key xs) → ((b : List ℕ) → list_any (same_name b) (map key xs) ≡ node_present w b)
    → IsPermutation xs ys → IsSortedBy (λ x y. is_lt (name_cmp (key x) (key y))) ys → map key ys ≡ nodes w
sorted_nodes key w xs ys once is moved sorted =
    rising_fixed name_cmp name_total name_exact (map key ys) (nodes w) (sorted_keys_rise key name_cmp name_total xs ys once moved sorted) (nodes_rise w)
    (λ b. sym (list_any-IsPermutation (same_name b) (map key xs) (map key ys) (IsPermutation-map key xs ys moved))
    ∙ (is b ∙ sym (nodes_has w b)))
