-- What the answer to a question costs.
use Rattle.std.specs.Prelude.{ℕ, Bool, ◌≤◌, ◌+◌, ◌*◌, if◌then◌else◌}
use Rattle.graph_model.specs.declared.events.Entity.{Entity}
use Rattle.graph_model.specs.declared.events.Entity.TheVariants.{Node, Edge}
use Rattle.graph_model.specs.declared.queries.Ask.{Ask}
use Rattle.graph_model.specs.declared.queries.Ask.TheVariants.{NodeValue, EdgeValue, EdgeAlive}
use Rattle.graph_model.specs.Searches.{Searches, digits, point_searches}

-- the searches of a question about one node or one edge, where these are known: none where it is not
abbrev pub known_searches : (Entity → Bool) → Searches → Ask → ℕ
known_searches is_known s (NodeValue node key) =
    if is_known (Node node) then point_searches s (NodeValue node key) else 0
known_searches is_known s (EdgeValue edge key) =
    if is_known (Edge edge) then point_searches s (EdgeValue edge key) else 0
known_searches is_known s (EdgeAlive edge m) =
    if is_known (Edge edge) then point_searches s (EdgeAlive edge m) else 0
known_searches is_known s _ = 0

-- steps from before to after are at most so many searches among so many events, each with one more
-- reading, of the event that was found
abbrev pub ReadsWithin : ℕ → ℕ → ℕ → ℕ → Type 0
ReadsWithin before after searches among = after ≤ before + searches * (digits among + 1)
