-- Worlds that show of a store what its accepted events say.
use Rattle.std.specs.Prelude.{ℕ, List, Bool, true, false, ◌≡◌, ◌<◌, None, length}
use Rattle.std.specs.List.{list_any, AllByRecursion}
use Rattle.graph_model.specs.declared.events.EdgeName.{EdgeName}
use Rattle.graph_model.specs.declared.events.Entity.TheVariants.{Node, Edge}
use Rattle.graph_model.specs.declared.events.Event.{Event}
use Rattle.graph_model.specs.Names.{same_name}
use Rattle.graph_model.specs.Entity.{props_of}
use Rattle.graph_model.specs.Props.{prop_value}
use Rattle.graph_model.specs.Accepting.{key_names, node_events, edge_events}
use Rattle.graph_model.specs.Keep.{is_named}
use Rattle.graph_model.specs.World.{World, names_node, events_of}
use Rattle.graph_store.specs.Contents.{Contents, name_at, base_of}
use Rattle.view_trait.specs.Meaning.{IsShown}

-- no event gives a key a value
abbrev pub LacksKey : List ℕ → List Event → Type 0
LacksKey key xs = AllByRecursion (λ (x : Event). prop_value key (props_of x) ≡ None) xs

-- a world over a store whose events name only nodes that the accepted events name, and set only
-- keys that these set
pub record IsDrawn (c : Contents) (w : World) : Type 0 where
  pub shown : IsShown c w
  pub nodes : (name : List ℕ) → names_node w.events name ≡ true
      → names_node (base_of c).events name ≡ true
  pub node_keys : (key name : List ℕ)
      → list_any (same_name key) (key_names (node_events c.accepted)) ≡ false
      → LacksKey key (events_of w (Node name))
  pub edge_keys : (key : List ℕ) (edge : EdgeName)
      → list_any (same_name key) (key_names (edge_events c.accepted)) ≡ false
      → LacksKey key (events_of w (Edge edge))

-- a test that those numbers of a table pass whose names are in a list
abbrev pub Selects : List (List ℕ) → List (List ℕ) → (ℕ → Bool) → Type 0
Selects table names test = (n : ℕ) → n < length table → test n ≡ is_named names (name_at table n)
