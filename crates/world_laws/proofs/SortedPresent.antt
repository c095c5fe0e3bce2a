-- Items with the names of some nodes or edges, sorted: those of the present ones are the lists of present nodes and edges.
use Rattle.std.proofs.Common.{◌≡◌, ℕ, true, List, map}
use Rattle.std.specs.List.{filter, list_any, IsDistinct}
use Rattle.std.specs.List.Sorted.{IsPermutation, IsSortedBy}
use Rattle.std.specs.Ordering.{is_lt}
use Rattle.graph_model.specs.declared.events.EdgeName.{EdgeName}
use Rattle.graph_model.specs.Names.{name_cmp, same_name, name_total}
use Rattle.graph_model.specs.Entity.{edge_cmp, same_edge}
use Rattle.graph_model.specs.World.{World}
use Rattle.graph_model.specs.Presence.{node_present, nodes, edge_present, edges}
use Rattle.world_laws.proofs.Members.{nodes_has, nodes_rise, edges_has, edges_rise}
use Rattle.world_laws.proofs.Order.{name_exact, edge_total, edge_exact}
use Rattle.world_laws.proofs.SortedKeys.{sorted_names}

module _ {X : Type 0} (w : World) where
  -- the present ones of a table of names that has all present nodes
  pub sorted_nodes : (key : X → List ℕ) (names : List (List ℕ)) → IsDistinct same_name names → ((b : List ℕ) → node_present w b ≡ true → list_any (same_name b) names ≡ true)
      → (xs ys : List X) → map key xs ≡ filter (node_present w) names → IsPermutation xs ys → IsSortedBy (λ x y. is_lt (name_cmp (key x) (key y))) ys → map key ys ≡ nodes w
  sorted_nodes key names once known xs ys is moved sorted =
      sorted_names key name_cmp name_total name_exact (node_present w) names known (nodes w) (nodes_rise w) (nodes_has w) once xs ys is moved sorted

  -- and of edges
  pub sorted_edges : (key : X → EdgeName) (names : List EdgeName) → IsDistinct same_edge names → ((b : EdgeName) → edge_present w b ≡ true → list_any (same_edge b) names ≡ true)
      → (xs ys : List X) → map key xs ≡ filter (edge_present w) names → IsPermutation xs ys → IsSortedBy (λ x y. is_lt (edge_cmp (key x) (key y))) ys → map key ys ≡ edges w
  sorted_edges key names once known xs ys is moved sorted =
      sorted_names key edge_cmp edge_total edge_exact (edge_present w) names known (edges w) (edges_rise w) (edges_has w) once xs ys is moved sorted
