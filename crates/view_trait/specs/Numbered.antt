-- Layers and nodes that are chosen by their numbers.
use Rattle.std.specs.Prelude.{ℕ, ◌+◌, List, [], ◌∷◌, Bool, true, false, not, ◌==◌, if◌then◌else◌}
use Rattle.std.specs.Int.{bit_at}
use Rattle.std.specs.List.{list_any}
use Rattle.graph_model.specs.declared.events.Entity.{Entity}
use Rattle.graph_model.specs.World.{World}
use Rattle.graph_model.specs.Keep.{keep, in_layers, among_nodes, apart_from_nodes}
use Rattle.graph_store.specs.Contents.{Contents}

-- the names whose numbers pass a test, where the first name has this number
abbrev pub numbered : (ℕ → Bool) → ℕ → List (List ℕ) → List (List ℕ)
numbered p i [] = []
numbered p i (x ∷ xs) = if p i then (x ∷ numbered p (i + 1) xs) else numbered p (i + 1) xs

-- whether a number is in a set of bits
abbrev pub has_bit : ℕ → ℕ → Bool
has_bit bits i = bit_at bits i == 1

-- whether a number is in a list
abbrev pub is_listed : List ℕ → ℕ → Bool
is_listed numbers n = list_any (λ m. m == n) numbers

-- the names of the layers with these bits, and of the nodes with these numbers; a number that
-- names nothing selects nothing
abbrev pub layers_numbered : Contents → ℕ → List (List ℕ)
layers_numbered c bits = numbered (has_bit bits) 0 c.layers

abbrev pub nodes_numbered : Contents → List ℕ → List (List ℕ)
nodes_numbered c numbers = numbered (is_listed numbers) 0 c.nodes

-- what a world shows of layers
abbrev pub layer_world : Contents → ℕ → World → World
layer_world c bits w = keep (in_layers (layers_numbered c bits)) w

-- these nodes, or the others, and the edges between them
abbrev pub chooses : Bool → List (List ℕ) → Entity → Bool
chooses true names = among_nodes names
chooses false names = apart_from_nodes names

-- what a world shows of nodes, or of the others
abbrev pub node_world : Contents → Bool → List ℕ → World → World
node_world c keeps numbers w = keep (chooses keeps (nodes_numbered c numbers)) w

-- whether a node is kept, where it is listed or not
abbrev pub keeps_number : Bool → Bool → Bool
keeps_number true listed = listed
keeps_number false listed = not listed
