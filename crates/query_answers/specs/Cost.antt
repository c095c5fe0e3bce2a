-- How often stored times are read while queries are answered.
use Rattle.std.specs.Prelude.{ℕ, Bool, true, false, ◌+◌, ◌*◌, ◌&&◌, List, length, map, is_none, is_some}
use Rattle.std.specs.List.{sum_by}
use Rattle.graph_model.specs.declared.events.Entity.{Entity}
use Rattle.graph_model.specs.declared.events.Model.{Model}
use Rattle.graph_model.specs.declared.events.Model.TheVariants.{Event as Instants}
use Rattle.graph_model.specs.declared.queries.Ask.{Ask}
use Rattle.graph_model.specs.declared.queries.Ask.TheVariants.{Nodes, Edges, Degree, Events, NodeValue, EdgeValue, EdgeAlive}
use Rattle.graph_model.specs.declared.queries.Query.{Query}
use Rattle.graph_model.specs.Searches.{Searches, digits, fused_searches, kind_of_view, list_searches}
use Rattle.graph_model.specs.World.{World}
use Rattle.graph_store.specs.Contents.{Contents}
use Rattle.view_trait.specs.Extent.{span_searches}
use Rattle.view_trait.specs.Meaning.{knows}
use Rattle.view_trait.specs.declared.rosters.Roster.TheVariants.{All as Whole}
use Rattle.view_answers.specs.Costs.{known_searches}

-- a question whose readings are counted: about one value or moment, or, in the event model, about all
-- nodes or edges
abbrev pub is_counted_ask : Model → Ask → Bool
is_counted_ask model (NodeValue node key) = true
is_counted_ask model (EdgeValue edge key) = true
is_counted_ask model (EdgeAlive edge m) = true
is_counted_ask Instants Nodes = true
is_counted_ask Instants Edges = true
is_counted_ask Instants Degree = true
is_counted_ask _ _ = false

-- a query whose readings are counted asks such a question, of one world
abbrev pub is_counted_query : Model → Query → Bool
is_counted_query model query = is_counted_ask model query.ask && is_none query.each

-- how many distinct nodes and edges, and how many events a graph has, and which nodes and edges it
-- knows
pub record GraphSize : Type 0 where
  pub nodes : ℕ
  pub edges : ℕ
  pub events : ℕ
  pub is_known : Entity → Bool

-- the size of what a store contains
abbrev pub size_of : Contents → GraphSize
size_of c = record {
  nodes = length c.nodes;
  edges = length c.edges;
  events = length c.accepted;
  is_known = knows c;
}

-- the readings of a question at the most, about a view with these searches, each among all events:
-- none where the question is about an unknown node or edge
abbrev pub ask_steps : Searches → GraphSize → Ask → ℕ
ask_steps s size ask = (list_searches s size.nodes size.edges ask + known_searches size.is_known s ask)
    * (digits size.events + 1)

-- the readings of a query at the most: those of its fused searches
abbrev pub query_steps : GraphSize → Query → ℕ
query_steps size query = ask_steps (fused_searches (map kind_of_view query.views)) size query.ask

-- ---- windows

-- a question whose windows cost what they hold: in the event model, about all nodes, edges or events
abbrev pub is_counted_in_windows : Model → Ask → Bool
is_counted_in_windows Instants Nodes = true
is_counted_in_windows Instants Edges = true
is_counted_in_windows Instants Degree = true
is_counted_in_windows Instants Events = true
is_counted_in_windows _ _ = false

-- a query whose windows cost what they hold asks such a question, of the windows of an each
abbrev pub is_counted_each : Model → Query → Bool
is_counted_each model query = is_counted_in_windows model query.ask && is_some query.each

-- how many events worlds have, each world counted on its own
abbrev pub held_in : List World → ℕ
held_in worlds = sum_by (λ (w : World). length w.events) worlds

-- the searches for the two ends of a window
abbrev pub window_searches : ℕ
window_searches = 2

-- the readings of what a window holds at the most, for each event that it has, under a stack with
-- these searches: a search of the stack or of the window's ends is among all events
abbrev pub event_steps : Searches → ℕ → ℕ
event_steps s among = (s.nodes + s.edges + window_searches) * (digits among + 1)

-- the readings of windows of a world that a view shows at the most: the view is listed once, and then
-- each window costs what it holds
abbrev pub sweep_steps : Contents → World → Searches → List World → ℕ
sweep_steps c w s worlds =
    span_searches c Whole s * digits (length c.accepted) + length w.events
    + held_in worlds * event_steps s (length c.accepted)

-- the readings of windows under a stack with these searches, from a store of this size, at the most:
-- they grow with what the windows hold, and not with the number of windows times the graph
abbrev pub windows_steps : Searches → GraphSize → List World → ℕ
windows_steps s size worlds =
    (size.nodes * s.nodes + size.edges * s.edges
    + (s.nodes + s.edges + window_searches) * (size.events + held_in worlds + length worlds))
    * (digits size.events + 1)

-- the readings of a query about windows at the most: those of its fused searches
abbrev pub query_windows_steps : GraphSize → Query → List World → ℕ
query_windows_steps size query worlds =
    windows_steps (fused_searches (map kind_of_view query.views)) size worlds
