-- What is written for an events file and a script.
use Rattle.std.specs.Prelude.{ℕ, Bool, true, false, ◌+◌, ◌==◌, ◌&&◌, ◌||◌, ◌≡◌, List, [], ◌∷◌, ◌++◌, codes, length, map, Option, Result, Ok, Err, is_ok}
use Rattle.std.specs.List.{list_all}
use Rattle.std.specs.Fmt.{decimal, signed_decimal}
use Rattle.graph_model.specs.declared.events.Model.{Model}
use Rattle.graph_model.specs.declared.events.Model.TheVariants.{Event as Instants, Persistent}
use Rattle.graph_model.specs.declared.queries.Ask.{Ask}
use Rattle.graph_model.specs.declared.queries.Ask.TheVariants.{Nodes, Edges, Events, Degree, Hops, Weak, OutComponent, InComponent, Core, CoreNumbers, Arrival, NodeHistory, EdgeHistory, NodeValue, EdgeValue, EdgeAlive, Materialise, Updates}
use Rattle.graph_model.specs.declared.queries.Query.{Query}
use Rattle.graph_model.specs.Interval.{Interval}
use Rattle.graph_model.specs.World.{World}
use Rattle.graph_model.specs.Stack.{apply}
use Rattle.graph_model.specs.Windows.{windows}
use Rattle.graph_model.specs.Answer.{Row, row_fields, IsAnswer}
use Rattle.graph_model.specs.RowText.{rows_text}
use Rattle.graph_model.specs.Reading.{reading, world_of}
use Rattle.graph_model.specs.Refusal.{RecordRefusal, record_refusal_name}
use Rattle.graph_model.specs.Script.{QueryRefusal, query_refusal_name, lines_of, is_blank}
use Rattle.graph_model.specs.QueryLine.{query_of}

abbrev pub model_word : Model → List ℕ
model_word Instants = codes "event"
model_word Persistent = codes "persistent"

-- the first text of a question
abbrev pub ask_word : Ask → List ℕ
ask_word Nodes = codes "nodes"
ask_word Edges = codes "edges"
ask_word Events = codes "events"
ask_word Degree = codes "degree"
ask_word (Hops from direction) = codes "hops"
ask_word Weak = codes "weak"
ask_word (OutComponent from) = codes "out_component"
ask_word (InComponent from) = codes "in_component"
ask_word (Core k) = codes "core"
ask_word CoreNumbers = codes "core_numbers"
ask_word (Arrival start seeds) = codes "arrival"
ask_word (NodeHistory node) = codes "node_history"
ask_word (EdgeHistory edge) = codes "edge_history"
ask_word (NodeValue node key) = codes "node_value"
ask_word (EdgeValue edge key) = codes "edge_value"
ask_word (EdgeAlive edge moment) = codes "edge_alive"
ask_word Materialise = codes "materialise"
ask_word Updates = codes "updates"

-- the row of a refused record, by its number and its cause
abbrev pub refused_row : ℕ × RecordRefusal → List (List ℕ)
refused_row r = codes "refused" ∷ decimal r.0 ∷ record_refusal_name r.1 ∷ []

-- the row of a graph: its model, its bounds, and how many events were accepted and how many records
-- refused
abbrev pub graph_row : Model → Interval → ℕ → ℕ → List (List ℕ)
graph_row model bounds accepted refused = codes "graph" ∷ model_word model
    ∷ signed_decimal bounds.lo ∷ signed_decimal bounds.hi ∷ decimal accepted ∷ decimal refused ∷ []

-- the row of a refused query, by its line
abbrev pub refused_query_row : ℕ → QueryRefusal → List (List ℕ)
refused_query_row number refusal =
    codes "query" ∷ decimal number ∷ codes "refused" ∷ query_refusal_name refusal ∷ []

-- the row of an answered query: its line, its question, and how many worlds it is answered on
abbrev pub query_row : ℕ → Ask → ℕ → List (List ℕ)
query_row number ask worlds =
    codes "query" ∷ decimal number ∷ ask_word ask ∷ decimal worlds ∷ []

-- the row of a world: its bounds, and how many rows of an answer follow
abbrev pub world_row : Interval → ℕ → List (List ℕ)
world_row bounds rows =
    codes "world" ∷ signed_decimal bounds.lo ∷ signed_decimal bounds.hi ∷ decimal rows ∷ []

-- the part of one world: its row, and the rows that answer the question about it
abbrev pub IsPart : World → Ask → List (List (List ℕ)) → Type 0
IsPart w ask rows = (answer : List Row) × IsAnswer w ask answer
    × (rows ≡ world_row w.bounds (length answer) ∷ map row_fields answer)

-- the parts of worlds, one behind another
abbrev pub AreParts : List World → Ask → List (List (List ℕ)) → Type 0
AreParts [] ask rows = rows ≡ []
AreParts (w ∷ more) ask rows = (part rest : List (List (List ℕ)))
    × IsPart w ask part × AreParts more ask rest × (rows ≡ part ++ rest)

-- the block of an answered query: its row, and a part for each world that its views and its windows
-- leave of the graph
abbrev pub IsAnswerBlock : World → ℕ → Query → List (List (List ℕ)) → Type 0
IsAnswerBlock w number query rows = let worlds = windows (apply query.views w) query.each in
    (parts : List (List (List ℕ))) × AreParts worlds query.ask parts
    × (rows ≡ query_row number query.ask (length worlds) ∷ parts)

-- the block of a query, or of its refusal
abbrev pub IsQueryBlock : World → ℕ → Result Query QueryRefusal → List (List (List ℕ)) → Type 0
IsQueryBlock w number (Ok query) rows = IsAnswerBlock w number query rows
IsQueryBlock w number (Err refusal) rows = rows ≡ refused_query_row number refusal ∷ []

-- the block of a line: nothing where it is skipped, else that of its query
abbrev pub IsBlockOf : World → ℕ → Bool → Result Query QueryRefusal → List (List (List ℕ)) → Type 0
IsBlockOf w number true query rows = rows ≡ []
IsBlockOf w number false query rows = IsQueryBlock w number query rows

abbrev pub IsBlock : (World → Query → Option QueryRefusal) → World → ℕ → List ℕ
    → List (List (List ℕ)) → Type 0
IsBlock refuses w number line rows =
    IsBlockOf w number (is_blank line) (query_of refuses w line) rows

-- the blocks of lines, of which the first has this number
abbrev pub AreBlocks : (World → Query → Option QueryRefusal) → World → ℕ → List (List ℕ)
    → List (List (List ℕ)) → Type 0
AreBlocks refuses w number [] rows = rows ≡ []
AreBlocks refuses w number (line ∷ lines) rows = (block rest : List (List (List ℕ)))
    × IsBlock refuses w number line block
    × AreBlocks refuses w (number + 1) lines rest × (rows ≡ block ++ rest)

-- the output, where these queries are refused: the rows of refused records, the row of the graph,
-- and the block of each line
unfoldable pub IsOutput : (World → Query → Option QueryRefusal) → Model → List ℕ → List ℕ → List ℕ
    → Type 0
IsOutput refuses model events script text = let r = reading model events in
    (blocks : List (List (List ℕ)))
    × AreBlocks refuses (world_of model r) 1 (lines_of script) blocks
    × (text ≡ rows_text (map refused_row r.refused
    ++ (graph_row model r.bounds (length r.accepted) (length r.refused) ∷ blocks)))

-- a line is skipped, or its query is not refused where it is asked of a world
abbrev pub is_clean_line : (World → Query → Option QueryRefusal) → World → List ℕ → Bool
is_clean_line refuses w line = is_blank line || is_ok (query_of refuses w line)

-- no record and no query is refused
unfoldable pub is_clean : (World → Query → Option QueryRefusal) → Model → List ℕ → List ℕ → Bool
is_clean refuses model events script = let r = reading model events in
    (length r.refused == 0)
    && list_all (is_clean_line refuses (world_of model r)) (lines_of script)
