-- The rows of accepted events.
use Rattle.std.specs.Prelude.{ℕ, ℤ, List, [], ◌∷◌, ◌++◌, ◌≡◌, ◌<◌, length, ⊤}
use Rattle.graph_model.specs.declared.events.Event.{Event}
use Rattle.graph_model.specs.declared.events.Model.{Model}
use Rattle.graph_model.specs.declared.events.Model.TheVariants.{Event as Instants, Persistent}
use Rattle.graph_store.specs.declared.taking.Filed.{Filed}
use Rattle.graph_store.specs.declared.taking.Filed.TheVariants.{Node as FiledNode, Edge as FiledEdge}
use Rattle.graph_store.specs.Contents.{Contents}
use Rattle.graph_store.specs.EdgeParts.{parts_at}
use Rattle.graph_store.specs.FiledAs.{IsFiledAs}
use Rattle.lane_scan.specs.declared.hits.Hit.{Hit}

-- a number that a store has given to a node or an edge
abbrev pub IsGiven : Contents → Filed → Type 0
IsGiven c (FiledNode n) = n.0 < length c.nodes
IsGiven c (FiledEdge e) = e.0 < length c.edges

-- the row of what happened to a node, which has the code 64, or to an edge, which has its layer's
abbrev pub row_of : Contents → ℤ → Filed → Hit
row_of c time (FiledNode n) = record { time = time; code = 64; number = n.0 }
row_of c time (FiledEdge e) = record { time = time; code = (parts_at c.edges e.0).layer; number = e.0 }

-- rows of a model with the row of an event more, where the model has rows
abbrev pub with_row : Model → List Hit → Hit → List Hit
with_row Instants rows row = rows ++ row ∷ []
with_row Persistent rows row = rows

-- the row of an event, by the number of its entity
abbrev pub IsRowFor : Contents → Event → Hit → Type 0
IsRowFor c x row = (filed : Filed) × IsFiledAs c x filed × (row ≡ row_of c x.time filed)

-- the rows of events, in their order
abbrev pub AreRowsFor : Contents → List Event → List Hit → Type 0
AreRowsFor c [] [] = ⊤
AreRowsFor c [] (row ∷ rows) = ⊥
AreRowsFor c (x ∷ xs) [] = ⊥
AreRowsFor c (x ∷ xs) (row ∷ rows) = IsRowFor c x row × AreRowsFor c xs rows

-- in the event model the rows of the accepted events, and in the persistent model none
abbrev pub HasRows : Model → Contents → List Hit → Type 0
HasRows Instants c rows = AreRowsFor c c.accepted rows
HasRows Persistent c rows = rows ≡ []

-- the rows that go with a store
abbrev pub IsTimeline : Contents → List Hit → Type 0
IsTimeline c rows = HasRows c.model c rows
