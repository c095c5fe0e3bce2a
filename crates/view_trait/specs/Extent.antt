-- How many events a list has, and its first and last time.
use Rattle.std.specs.Prelude.{ℕ, ℤ, ◌+◌, ◌*◌, List, [], ◌∷◌, length, nat_lt}
use Rattle.std.specs.Prelude.{Option, Some, None, if◌then◌else◌}
use Rattle.std.specs.Int.{int_max, int_min}
use Rattle.graph_model.specs.declared.events.Event.{Event}
use Rattle.graph_model.specs.Searches.{Searches}
use Rattle.graph_model.specs.Windows.{last_time}
use Rattle.graph_model.specs.World.{World, events_of}
use Rattle.graph_store.specs.Contents.{Contents}
use Rattle.view_trait.specs.Coverage.{edge_count_on, node_count_on}
use Rattle.view_trait.specs.Meaning.{node_at, edge_at}
use Rattle.view_trait.specs.declared.extent_of_view.WorldExtent.{WorldExtent}
use Rattle.view_trait.specs.declared.rosters.Roster.{Roster}

-- the time of the first event, and of the last
abbrev pub time_of_first : List Event → Option ℤ
time_of_first [] = None
time_of_first (x ∷ xs) = Some x.time

abbrev pub time_of_last : List Event → Option ℤ
time_of_last [] = None
time_of_last (x ∷ xs) = Some (last_time x.time xs)

-- how many events a list has, with the first and the last time in it
abbrev pub extent_of : List Event → WorldExtent
extent_of xs = record { events = length xs; first = time_of_first xs; last = time_of_last xs }

-- the earlier and the later of two times, where both are there, or else the one that is
abbrev pub earlier_of : Option ℤ → Option ℤ → Option ℤ
earlier_of None b = b
earlier_of (Some a) None = Some a
earlier_of (Some a) (Some b) = Some (int_min a b)

abbrev pub later_of : Option ℤ → Option ℤ → Option ℤ
later_of None b = b
later_of (Some a) None = Some a
later_of (Some a) (Some b) = Some (int_max a b)

-- the events of the node of a number in a world, and of the edge; a number that the store does
-- not have stands for none
abbrev pub events_of_node : Contents → World → ℕ → List Event
events_of_node c w n = if nat_lt n (length c.nodes) then events_of w (node_at c n) else []

abbrev pub events_of_edge : Contents → World → ℕ → List Event
events_of_edge c w e = if nat_lt e (length c.edges) then events_of w (edge_at c e) else []

-- the searches for the spans of the nodes and edges on a roster
abbrev pub span_searches : Contents → Roster → Searches → ℕ
span_searches c r s = node_count_on c r * s.nodes + edge_count_on c r * s.edges
