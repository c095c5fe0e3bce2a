-- The questions that a line can ask, and what their answers cost.
use Rattle.std.specs.Prelude.{ℕ, Bool, true, false, ◌≡◌, ◌≤◌, ◌+◌, ◌*◌, length}
use Rattle.graph_model.specs.declared.events.Model.TheVariants.{Event as Instants}
use Rattle.graph_model.specs.declared.queries.Ask.{Ask}
use Rattle.graph_model.specs.declared.queries.Ask.TheVariants.{Nodes, Edges, Events, Degree, Hops, Weak, OutComponent, InComponent, Core, CoreNumbers, NodeValue, EdgeValue, EdgeAlive, Materialise, Updates}
use Rattle.graph_model.specs.Searches.{Searches, digits, list_searches}
use Rattle.graph_model.specs.World.{World}
use Rattle.graph_store.specs.Contents.{Contents}
use Rattle.view_trait.specs.Coverage.{edge_count_on, node_count_on}
use Rattle.view_trait.specs.Extent.{span_searches}
use Rattle.view_trait.specs.Meaning.{StepsWithin, knows}
use Rattle.view_trait.specs.declared.rosters.Roster.{Roster}
use Rattle.view_answers.specs.Costs.{ReadsWithin, known_searches}

-- whether a line can ask a question; updates are no form as yet
abbrev pub is_asked : Ask → Bool
is_asked Updates = false
is_asked _ = true

-- whether a roster says where to look for the answer to a question: all but those that read one node or
-- edge alone, and arrivals
abbrev pub is_swept : Ask → Bool
is_swept Nodes = true
is_swept Edges = true
is_swept Events = true
is_swept Degree = true
is_swept Weak = true
is_swept (Core k) = true
is_swept CoreNumbers = true
is_swept Materialise = true
is_swept (Hops from direction) = true
is_swept (OutComponent from) = true
is_swept (InComponent from) = true
is_swept _ = false

-- the steps of an answer by a roster are within its searches, where a question has such a number: one
-- about one node or edge, one about all events, and in the event model one about all nodes or edges
abbrev pub IsPaid : Contents → Roster → World → Searches → Ask → ℕ → ℕ → Type 0
IsPaid c r w s (NodeValue node key) before after =
    StepsWithin before after (known_searches (knows c) s (NodeValue node key)) (length c.accepted)
IsPaid c r w s (EdgeValue edge key) before after =
    StepsWithin before after (known_searches (knows c) s (EdgeValue edge key)) (length c.accepted)
IsPaid c r w s (EdgeAlive edge m) before after =
    ReadsWithin before after (known_searches (knows c) s (EdgeAlive edge m)) (length c.accepted)
IsPaid c r w s Nodes before after = w.model ≡ Instants
    → StepsWithin before after (list_searches s (node_count_on c r) (edge_count_on c r) Nodes) (length c.accepted)
IsPaid c r w s Degree before after = w.model ≡ Instants
    → StepsWithin before after (list_searches s (node_count_on c r) (edge_count_on c r) Degree) (length c.accepted)
IsPaid c r w s Edges before after = w.model ≡ Instants
    → StepsWithin before after (list_searches s (node_count_on c r) (edge_count_on c r) Edges) (length c.accepted)
IsPaid c r w s Events before after =
    after ≤ before + span_searches c r s * digits (length c.accepted)
    + 2 * (node_count_on c r + edge_count_on c r)
IsPaid c r w s _ before after = Unit {0}
