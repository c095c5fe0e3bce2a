-- The base world of a store has room in a store.
use Rattle.std.proofs.Common.{◌≡◌, ◌≤◌, ℕ, List, arith}
use Rattle.graph_model.specs.Accepting.{Quantity, count_of, limit_of}
use Rattle.graph_model.specs.World.{IsLawful, arrange, event_cmp, names_node, types_in}
use Rattle.world_laws.proofs.Counts.{length_in_order}
use Rattle.world_laws.proofs.Filters.{each_kept}
use Rattle.world_laws.proofs.InOrder.{each_in_order}
use Rattle.graph_store.specs.Contents.{Contents, base_of}
use Rattle.world_laws.specs.Storable.{AreWithinLimits, IsStorable}
use Rattle.world_laws.proofs.Limits.{IsOf, IsTypeOf, each_own, each_own_type, within_fewer}

pub base_storable : (c : Contents) → IsLawful (base_of c) → AreWithinLimits c.accepted c.types → IsStorable (base_of c)
base_storable c lawful within =
    let size = length_in_order event_cmp c.accepted in
    record {
      lawful = lawful;
      limits =
          within_fewer c.accepted c.types (arrange c.accepted) (types_in (arrange c.accepted) c.types) within (omega (arith, size)) (each_in_order event_cmp (IsOf c.accepted) c.accepted (each_own c.accepted))
          (each_kept (IsTypeOf c.types) (λ (t : List ℕ × List ℕ). names_node (arrange c.accepted) t.0) c.types (each_own_type c.types));
    }
