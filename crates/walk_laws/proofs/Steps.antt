-- Steps from one numbered node to another, by the numbers of neighbours.
use Rattle.std.proofs.Common.{◌≡◌, ℕ, ◌+◌, ◌<◌, List, map, length, get_or, sym, ◌∙◌}
use Rattle.std.specs.List.{list_any, AllByRecursion, Contains}
use Rattle.std.proofs.lemmas.List.{get_or_default}
use Rattle.std.proofs.lemmas.List.Folds.{list_any_at}
use Rattle.graph_model.specs.declared.queries.Direction.{Direction}
use Rattle.graph_model.specs.Names.{same_name}
use Rattle.graph_model.specs.World.{World}
use Rattle.graph_model.specs.Neighbours.{leads}
use Rattle.world_laws.proofs.ListItems.{any_map, each_at}
use Rattle.world_laws.proofs.Order.{same_name-refl, same_name-exact}
use Rattle.walk_laws.specs.Numbers.{AreNumbers, name_of}
use Rattle.walk_laws.specs.Steps.{Next, Far}
use Rattle.walk_laws.proofs.Places.{some_place, same_number}
use Rattle.walk_laws.proofs.Turned.{walk_on}

-- one step further
pub far_on : (w : World) (nodes : List (List ℕ)) (d : Direction) (start k a b : ℕ) → Far w nodes d start k a → Next w nodes d a b → Far w nodes d start (k + 1) b
far_on w nodes d start k a b h next = (next.0, walk_on w d (name_of nodes start) k (name_of nodes a) (name_of nodes b) h.1 next.1)

-- numbers of the neighbours of a node
module _ (w : World) (nodes : List (List ℕ)) (d : Direction) (h : AreNumbers w nodes) (a : ℕ) (numbers : List ℕ) (known : AllByRecursion (λ i. i < length nodes) numbers)
    (exactly : (name : List ℕ) → list_any (same_name name) (map (name_of nodes) numbers) ≡ leads w d (name_of nodes a) name) where
  within : (j : ℕ) → j < length numbers → get_or numbers j 0 < length nodes
  within j lt = each_at (λ i. i < length nodes) numbers j 0 known lt

  pub is_next : (j : ℕ) → j < length numbers → Next w nodes d a (get_or numbers j 0)
  is_next j lt =
      let name = name_of nodes (get_or numbers j 0) in
      (within j lt, sym (exactly name) ∙ (any_map (same_name name) (name_of nodes) numbers ∙ list_any_at (λ i. same_name name (name_of nodes i)) numbers j 0 lt (same_name-refl name)))

  pub has_next : (b : ℕ) → Next w nodes d a b → Contains numbers b
  has_next b next =
      let name = name_of nodes b in
      let r = some_place (λ i. same_name name (name_of nodes i)) numbers 0 (sym (any_map (same_name name) (name_of nodes) numbers) ∙ (exactly name ∙ next.1)) in
      let same : get_or numbers r.place 0 ≡ b = same_number w nodes h (get_or numbers r.place 0) b (within r.place r.below) next.0 (sym (same_name-exact name (name_of nodes (get_or numbers r.place 0)) r.passes)) in
      (r.place, r.below, get_or_default numbers r.place b 0 r.below ∙ same)
