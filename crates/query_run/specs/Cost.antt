-- How often stored times are read while an events file and a script are answered.
use Rattle.std.specs.Prelude.{ℕ, Bool, true, false, ◌+◌, ◌*◌, List, [], ◌∷◌, length, Result, Ok, Err}
use Rattle.std.specs.List.{flat_map, list_all, list_any}
use Rattle.graph_model.specs.declared.events.EdgeName.{EdgeName}
use Rattle.graph_model.specs.declared.events.Entity.{Entity}
use Rattle.graph_model.specs.declared.events.Entity.TheVariants.{Node, Edge}
use Rattle.graph_model.specs.declared.events.Event.{Event}
use Rattle.graph_model.specs.declared.events.Model.{Model}
use Rattle.graph_model.specs.declared.queries.Query.{Query}
use Rattle.graph_model.specs.Accepting as count
use Rattle.graph_model.specs.Accepting.{node_names}
use Rattle.graph_model.specs.Entity.{edge_cmp, entity_of, is_about}
use Rattle.graph_model.specs.Names.{same_name}
use Rattle.graph_model.specs.Reading.{Reading, base_world, reading, world_of}
use Rattle.graph_model.specs.Rising.{rising}
use Rattle.graph_model.specs.Script.{QueryRefusal, Windows, is_blank, lines_of}
use Rattle.graph_model.specs.QueryLine.{query_of}
use Rattle.graph_model.specs.World.{World}
use Rattle.file_reading.specs.Costs.{most_steps}
use Rattle.query_answers.specs.Cost.{GraphSize, is_counted_query, query_steps}
use Rattle.query_answers.specs.Refusing.{asked_refusal}

-- the edge that an entity is, if it is one
abbrev pub edges_in : Entity → List EdgeName
edges_in (Node name) = []
edges_in (Edge edge) = edge ∷ []

-- whether an entity is known from what was read: a node that an event or a type names, or an edge
-- that an event is about
abbrev pub is_known_from : Reading → Entity → Bool
is_known_from r (Node name) = list_any (same_name name) (node_names r.accepted r.types)
is_known_from r (Edge edge) = list_any (is_about (Edge edge)) r.accepted

-- the size of what was read of an events file
abbrev pub size_read : Reading → GraphSize
size_read r = record {
  nodes = count.count_of count.Nodes r.accepted r.types;
  edges = length (rising edge_cmp (flat_map (λ (x : Event). edges_in (entity_of x)) r.accepted));
  events = length r.accepted;
  is_known = is_known_from r;
}

-- whether a line has no query that is answered and not counted, or refused once its windows were counted
abbrev pub is_counted_said : Model → Bool → Result Query QueryRefusal → Bool
is_counted_said model true said = true
is_counted_said model false (Ok query) = is_counted_query model query
is_counted_said model false (Err Windows) = false
is_counted_said model false (Err _) = true

abbrev pub is_counted_line : World → List ℕ → Bool
is_counted_line w line = is_counted_said w.model (is_blank line) (query_of asked_refusal w line)

-- the readings of a line at the most
abbrev pub said_steps : GraphSize → Bool → Result Query QueryRefusal → ℕ
said_steps size true said = 0
said_steps size false (Ok query) = query_steps size query
said_steps size false (Err refusal) = 0

abbrev pub line_steps : World → GraphSize → List ℕ → ℕ
line_steps w size line = said_steps size (is_blank line) (query_of asked_refusal w line)

-- the readings of lines at the most
abbrev pub lines_steps : World → GraphSize → List (List ℕ) → ℕ
lines_steps w size [] = 0
lines_steps w size (line ∷ lines) = line_steps w size line + lines_steps w size lines

-- a script whose answered queries about an events file are all counted
unfoldable pub is_counted_script : Model → List ℕ → List ℕ → Bool
is_counted_script model events script =
    list_all (is_counted_line (base_world model events)) (lines_of script)

-- the readings for an events file and such a script at the most
unfoldable pub counted_steps : Model → List ℕ → List ℕ → ℕ
counted_steps model events script = let r = reading model events in
    most_steps (length r.accepted) + lines_steps (world_of model r) (size_read r) (lines_of script)
