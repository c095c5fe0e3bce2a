-- The rows that answer a question about a world.
use Rattle.std.specs.Prelude.{codes, ℕ, suc, ◌<◌, ℤ, List, [], ◌∷◌, ◌++◌, ◌≡◌, ◌⊎◌, ◌↔◌, Bool, IsTrue, IsFalse, Option, None, Some, length, map, slice_get, if◌then◌else◌}
use Rattle.std.specs.List.{Contains}
use Rattle.std.specs.Fmt.{decimal, signed_decimal}
use Rattle.std.specs.declared.cmp.Ordering.{Ordering}
use Rattle.std.specs.Ordering.{ordering_then, nat_cmp}
use Rattle.std.specs.Cmp.Lexicographic.{slice_cmp}
use Rattle.graph_model.specs.declared.properties.Value.{Value}
use Rattle.graph_model.specs.declared.events.EdgeName.{EdgeName}
use Rattle.graph_model.specs.declared.events.Entity.TheVariants.{Node, Edge}
use Rattle.graph_model.specs.declared.events.Event.{Event}
use Rattle.graph_model.specs.declared.queries.Direction.TheVariants.{Outward, Inward, Both}
use Rattle.graph_model.specs.declared.queries.Ask.{Ask}
use Rattle.graph_model.specs.declared.queries.Ask.TheVariants.{Nodes, Edges, Events, Degree, Hops, Weak, OutComponent, InComponent, Core, CoreNumbers, Arrival, NodeHistory, EdgeHistory, NodeValue, EdgeValue, EdgeAlive, Materialise, Updates}
use Rattle.graph_model.specs.Names.{name_cmp}
use Rattle.graph_model.specs.Rising.{Rises}
use Rattle.graph_model.specs.Interval.{Interval}
use Rattle.graph_model.specs.Entity.{is_deletion}
use Rattle.graph_model.specs.World.{World, events_of}
use Rattle.graph_model.specs.Compare.{value_of}
use Rattle.graph_model.specs.Presence.{node_present, edge_present, alive_at}
use Rattle.graph_model.specs.Neighbours.{neighbours}
use Rattle.graph_model.specs.Keep.{is_named}
use Rattle.graph_model.specs.Walk.{IsDistance, IsLabel, IsOutOf, IsInTo}
use Rattle.graph_model.specs.Core.{IsInCore, IsCoreNumber}
use Rattle.graph_model.specs.Journey.{IsArrival}
use Rattle.graph_model.specs.Updates.{updates}
use Rattle.graph_model.specs.Windows.{last_time}
use Rattle.graph_model.specs.Record.{value_text, flag_text, edge_fields, event_fields, span_fields, type_fields}

-- one row of an answer
pub data Row : Type 0 where
  NodeRow : (node : List ℕ) → Row
  EdgeRow : (edge : EdgeName) → Row
  ExtentRow : (events : ℕ) → (times : Option (ℤ × ℤ)) → Row
  DegreeRow : (node : List ℕ) → (ins outs both : ℕ) → Row
  NumberRow : (node : List ℕ) → (number : ℕ) → Row
  LabelRow : (node : List ℕ) → (label : List ℕ) → Row
  SeedRow : (node : List ℕ) → Row
  ArrivalRow : (node : List ℕ) → (moment : ℤ) → Row
  MomentRow : (place : ℕ) → (time : ℤ) → (kind : List ℕ) → Row
  ValueRow : (value : Value) → Row
  AliveRow : (alive : Bool) → Row
  SpanRow : (bounds : Interval) → Row
  TypeRow : (node : List ℕ) → (name : List ℕ) → Row
  EventRow : (event : Event) → Row

-- the first and last time as they are printed, or `none` twice
abbrev pub extent_texts : Option (ℤ × ℤ) → List (List ℕ)
extent_texts None = codes "none" ∷ codes "none" ∷ []
extent_texts (Some times) = signed_decimal times.0 ∷ signed_decimal times.1 ∷ []

-- the fields that a row prints
abbrev pub row_fields : Row → List (List ℕ)
row_fields (NodeRow node) = node ∷ []
row_fields (EdgeRow edge) = edge_fields edge
row_fields (ExtentRow events times) = decimal events ∷ extent_texts times
row_fields (DegreeRow node ins outs both) = node ∷ decimal ins ∷ decimal outs ∷ decimal both ∷ []
row_fields (NumberRow node number) = node ∷ decimal number ∷ []
row_fields (LabelRow node label) = node ∷ label ∷ []
row_fields (SeedRow node) = node ∷ codes "start" ∷ []
row_fields (ArrivalRow node moment) = node ∷ signed_decimal moment ∷ []
row_fields (MomentRow place time kind) = decimal place ∷ signed_decimal time ∷ kind ∷ []
row_fields (ValueRow value) = value_text value ∷ []
row_fields (AliveRow alive) = flag_text alive ∷ []
row_fields (SpanRow bounds) = span_fields bounds
row_fields (TypeRow node name) = type_fields node name
row_fields (EventRow event) = event_fields event

-- what rows are ordered by: names, and the place in a history
abbrev pub row_names : Row → List (List ℕ)
row_names (NodeRow node) = node ∷ []
row_names (EdgeRow edge) = edge_fields edge
row_names (DegreeRow node ins outs both) = node ∷ []
row_names (NumberRow node number) = node ∷ []
row_names (LabelRow node label) = node ∷ []
row_names (SeedRow node) = node ∷ []
row_names (ArrivalRow node moment) = node ∷ []
row_names _ = []

-- the place of an event in a history
abbrev pub row_place : Row → ℕ
row_place (MomentRow place time kind) = place
row_place _ = 0

-- rows by their names, and then by their places
abbrev pub row_cmp : Row → Row → Ordering
row_cmp a b = ordering_then (slice_cmp name_cmp (row_names a) (row_names b)) (nat_cmp (row_place a) (row_place b))

-- each row is less than all after it
abbrev pub RowsRise : List Row → Type 0
RowsRise rows = Rises row_cmp rows

-- the number of events, and the first and last time
abbrev pub extent_row : List Event → Row
extent_row [] = ExtentRow 0 None
extent_row (x ∷ xs) = ExtentRow (length (x ∷ xs)) (Some (x.time, last_time x.time xs))

-- the numbers of neighbours of a node: inward, outward, and both ways
abbrev pub degree_row : World → List ℕ → Row
degree_row w node = DegreeRow node (length (neighbours w Inward node)) (length (neighbours w Outward node)) (length (neighbours w Both node))

-- the number of updates of a node
abbrev pub update_row : World → List ℕ → Row
update_row w node = NumberRow node (updates w node)

-- how an event of an edge is printed in a history
abbrev pub edge_kind : Event → List ℕ
edge_kind x = if is_deletion x then codes "delete" else codes "edge"

-- the rows of a history, from a place on
abbrev pub history_rows : (Event → List ℕ) → ℕ → List Event → List Row
history_rows kind k [] = []
history_rows kind k (x ∷ xs) = MomentRow k x.time (kind x) ∷ history_rows kind (suc k) xs

-- the row of a value, if there is one
abbrev pub value_rows : Option Value → List Row
value_rows None = []
value_rows (Some v) = ValueRow v ∷ []

-- the row of a present seed, or of a node that is no seed and is reached
abbrev pub IsArrivalRow : World → ℤ → List (List ℕ) → List ℕ → Row → Type 0
IsArrivalRow w start seeds node row =
    (IsTrue (node_present w node) × IsTrue (is_named seeds node) × (row ≡ SeedRow node))
    ⊎ (IsFalse (is_named seeds node) × ((moment : ℤ) × IsArrival w seeds start node moment × (row ≡ ArrivalRow node moment)))

-- the records of a world: its bounds, its types, and its events in order
abbrev pub world_rows : World → List Row
world_rows w = SpanRow w.bounds ∷ (map (λ (t : List ℕ × List ℕ). TypeRow t.0 t.1) w.types ++ map EventRow w.events)

-- a row that holds of a world, for each question
abbrev pub IsFact : World → Ask → Row → Type 0
IsFact w Nodes row = (node : List ℕ) × IsTrue (node_present w node) × (row ≡ NodeRow node)
IsFact w Edges row = (edge : EdgeName) × IsTrue (edge_present w edge) × (row ≡ EdgeRow edge)
IsFact w Events row = row ≡ extent_row w.events
IsFact w Degree row = (node : List ℕ) × IsTrue (node_present w node) × (row ≡ degree_row w node)
IsFact w (Hops from direction) row = (node : List ℕ) × ((n : ℕ) × IsDistance w direction from node n × (row ≡ NumberRow node n))
IsFact w Weak row = (node : List ℕ) × ((label : List ℕ) × IsLabel w node label × (row ≡ LabelRow node label))
IsFact w (OutComponent from) row = (node : List ℕ) × IsOutOf w from node × (row ≡ NodeRow node)
IsFact w (InComponent from) row = (node : List ℕ) × IsInTo w from node × (row ≡ NodeRow node)
IsFact w (Core k) row = (node : List ℕ) × IsInCore w k node × (row ≡ NodeRow node)
IsFact w CoreNumbers row = (node : List ℕ) × ((k : ℕ) × IsCoreNumber w node k × (row ≡ NumberRow node k))
IsFact w (Arrival start seeds) row = (node : List ℕ) × IsArrivalRow w start seeds node row
IsFact w (NodeHistory node) row = (k : ℕ) × ((x : Event) × (slice_get (events_of w (Node node)) k ≡ Some x) × (row ≡ MomentRow k x.time (codes "node")))
IsFact w (EdgeHistory edge) row = (k : ℕ) × ((x : Event) × (slice_get (events_of w (Edge edge)) k ≡ Some x) × (row ≡ MomentRow k x.time (edge_kind x)))
IsFact w (NodeValue node key) row = (v : Value) × (value_of key (events_of w (Node node)) ≡ Some v) × (row ≡ ValueRow v)
IsFact w (EdgeValue edge key) row = (v : Value) × (value_of key (events_of w (Edge edge)) ≡ Some v) × (row ≡ ValueRow v)
IsFact w (EdgeAlive edge moment) row = row ≡ AliveRow (alive_at w edge moment)
IsFact w Updates row = (node : List ℕ) × (0 < updates w node) × (row ≡ update_row w node)
IsFact w Materialise row = Contains (world_rows w) row

-- rows that rise strictly, and are exactly the facts
pub record AreTheFacts (w : World) (ask : Ask) (rows : List Row) : Type 0 where
  pub rise : RowsRise rows
  pub exact : (row : Row) → Contains rows row ↔ IsFact w ask row

-- the rows that answer a question: for `materialise` the records of the world, else the facts
abbrev pub IsAnswer : World → Ask → List Row → Type 0
IsAnswer w Materialise rows = rows ≡ world_rows w
IsAnswer w ask rows = AreTheFacts w ask rows
