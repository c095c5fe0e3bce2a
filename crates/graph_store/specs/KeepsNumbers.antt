-- Numbers that stay.
use Rattle.std.specs.Prelude.{ℕ, ◌≡◌, ◌<◌, length}
use Rattle.graph_store.specs.Ends.{ends_at}
use Rattle.graph_store.specs.EdgeParts.{parts_at}
use Rattle.graph_store.specs.Keys.{key_name}
use Rattle.graph_store.specs.Contents.{Contents, name_at}

-- each number that was given is still given, and to what it was given before
pub record KeepsNumbers (before after : Contents) : Type 0 where
  pub nodes : (n : ℕ) → n < length before.nodes
      → (n < length after.nodes) × (name_at after.nodes n ≡ name_at before.nodes n)
  pub layers : (l : ℕ) → l < length before.layers
      → (l < length after.layers) × (name_at after.layers l ≡ name_at before.layers l)
  pub kinds : (k : ℕ) → k < length before.kinds
      → (k < length after.kinds) × (name_at after.kinds k ≡ name_at before.kinds k)
  pub node_keys : (k : ℕ) → k < length before.node_keys
      → (k < length after.node_keys) × (key_name after.node_keys k ≡ key_name before.node_keys k)
  pub edge_keys : (k : ℕ) → k < length before.edge_keys
      → (k < length after.edge_keys) × (key_name after.edge_keys k ≡ key_name before.edge_keys k)
  pub edges : (e : ℕ) → e < length before.edges
      → (e < length after.edges) × (parts_at after.edges e ≡ parts_at before.edges e)
  pub pairs : (p : ℕ) → p < length before.pairs
      → (p < length after.pairs) × (ends_at after.pairs p ≡ ends_at before.pairs p)
