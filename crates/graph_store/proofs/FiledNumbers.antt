-- Numbers that name nodes and edges.
use Rattle.std.proofs.Common.{◌≡◌, ℕ, List, [], ◌∷◌, ◌++◌, Some, length, refl, sym, ap, ◌∙◌, arith}
use Rattle.std.specs.Prelude.{position}
use Rattle.std.proofs.lemmas.List.{length_push, get_or_push}
use Rattle.std.proofs.lemmas.List.Quantifiers.{position-Some}
use Rattle.graph_model.specs.declared.events.EdgeName.{EdgeName}
use Rattle.graph_model.specs.Names.{same_name}
use Rattle.graph_store.specs.declared.edges.EdgeParts.{EdgeParts}
use Rattle.graph_store.specs.Contents.{edge_name}
use Rattle.graph_store.specs.FiledAs.{IsNumberOf, IsEdgeNumber}
use Rattle.graph_store.proofs.EdgeNames.{name-found}

-- the place of a name is its number
pub node_found : (nodes : List (List ℕ)) (name : List ℕ) (n : ℕ) → position (same_name name) nodes ≡ Some n → IsNumberOf nodes name n
node_found nodes name n e = ((position-Some (same_name name) nodes n [] e).0, sym (name-found nodes name n e))

-- what is put last has the number of those before it
pub last_node : (nodes : List (List ℕ)) (name : List ℕ) → IsNumberOf (nodes ++ name ∷ []) name (length nodes)
last_node nodes name = let more = length_push nodes name in (omega arith, get_or_push nodes name [] (length nodes) refl)

pub last_edge : (nodes layers : List (List ℕ)) (edges : List EdgeParts) (edge : EdgeName) (parts : EdgeParts) → edge_name nodes layers parts ≡ edge → IsEdgeNumber nodes layers (edges ++ parts ∷ []) edge (length edges)
last_edge nodes layers edges edge parts is =
    let more = length_push edges parts in
    (omega arith, ap (edge_name nodes layers) (get_or_push edges parts (record { src = 0; dst = 0; layer = 0 }) (length edges) refl) ∙ is)
