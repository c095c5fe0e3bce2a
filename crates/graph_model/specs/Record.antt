-- The records of events, as the fields of a row.
use Rattle.std.specs.Prelude.{codes, ℕ, zero, suc, List, [], ◌∷◌, ◌++◌, Bool, true, false, map}
use Rattle.std.specs.Fmt.{decimal, signed_decimal}
use Rattle.graph_model.specs.declared.properties.Value.{Value}
use Rattle.graph_model.specs.declared.properties.Value.TheVariants.{Int, Flag, Text}
use Rattle.graph_model.specs.declared.events.EdgeName.{EdgeName}
use Rattle.graph_model.specs.declared.events.What.{What}
use Rattle.graph_model.specs.declared.events.What.TheVariants.{Node as Update, Add, Delete}
use Rattle.graph_model.specs.declared.events.Event.{Event}
use Rattle.graph_model.specs.Interval.{Interval}

-- true or false
abbrev pub flag_text : Bool → List ℕ
flag_text true = codes "true"
flag_text false = codes "false"

-- the type of a value, an equals sign, and the value
abbrev pub value_text : Value → List ℕ
value_text (Int n) = codes "i=" ++ signed_decimal n
value_text (Flag b) = codes "b=" ++ flag_text b
value_text (Text t) = codes "s=" ++ t

-- a key, a colon, and the value with its type
abbrev pub prop_text : List ℕ × Value → List ℕ
prop_text p = p.0 ++ codes ":" ++ value_text p.1

-- the source, the destination and the layer of an edge
abbrev pub edge_fields : EdgeName → List (List ℕ)
edge_fields edge = edge.src ∷ edge.dst ∷ edge.layer ∷ []

-- its fields, with the text of its time
abbrev pub what_fields : List ℕ → What → List (List ℕ)
what_fields time (Update name props) = codes "node" ∷ time ∷ name ∷ map prop_text props
what_fields time (Add edge props) = (codes "edge" ∷ time ∷ edge_fields edge) ++ map prop_text props
what_fields time (Delete edge) = codes "delete" ∷ time ∷ edge_fields edge

-- a time is followed by its order, where that is not 0
abbrev pub order_text : ℕ → List ℕ
order_text zero = []
order_text (suc k) = codes "@" ++ decimal (suc k)

-- the time of an event, with its order
abbrev pub time_text : Event → List ℕ
time_text x = signed_decimal x.time ++ order_text x.order

-- the fields of the record of an event
abbrev pub event_fields : Event → List (List ℕ)
event_fields x = what_fields (time_text x) x.what

-- the fields of the record of bounds
abbrev pub span_fields : Interval → List (List ℕ)
span_fields i = codes "span" ∷ signed_decimal i.lo ∷ signed_decimal i.hi ∷ []

-- the fields of the record of a node's type
abbrev pub type_fields : List ℕ → List ℕ → List (List ℕ)
type_fields node name = codes "type" ∷ node ∷ name ∷ []
