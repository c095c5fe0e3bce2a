-- Small worlds and what they show, to see the definitions at work.
use Rattle.std.specs.Prelude.{ℕ, ℤ, pos, List, [], ◌∷◌, true, map}
use Rattle.std.specs.List.{repeat}
use Rattle.graph_model.specs.declared.properties.Value.TheVariants.{Int, Flag, Text}
use Rattle.graph_model.specs.declared.events.EdgeName.{EdgeName}
use Rattle.graph_model.specs.declared.events.What.TheVariants.{Node as Update, Add, Delete}
use Rattle.graph_model.specs.declared.events.Event.{Event}
use Rattle.graph_model.specs.declared.events.Model.{Model}
use Rattle.graph_model.specs.declared.events.Model.TheVariants.{Event as Instants, Persistent}
use Rattle.graph_model.specs.World.{World, base}
use Rattle.graph_model.specs.declared.queries.Op.TheVariants.{Window, Layers, ExcludeNodes}
use Rattle.graph_model.specs.Stack.{apply}
use Rattle.graph_model.specs.Interval.{Interval, earliest, latest}
use Rattle.graph_model.specs.Answer.{Row, extent_row}

-- short names
abbrev pub a : List ℕ
a = 97 ∷ []

abbrev pub b : List ℕ
b = 98 ∷ []

abbrev pub c : List ℕ
c = 99 ∷ []

abbrev pub d : List ℕ
d = 100 ∷ []

abbrev pub l : List ℕ
l = 108 ∷ []

abbrev pub n : List ℕ
n = 110 ∷ []

abbrev pub w : List ℕ
w = 119 ∷ []

abbrev pub x : List ℕ
x = 120 ∷ []

abbrev pub y : List ℕ
y = 121 ∷ []

abbrev pub z : List ℕ
z = 122 ∷ []

-- an edge in the layer l
abbrev pub edge_in_l : List ℕ → List ℕ → EdgeName
edge_in_l from to = record { src = from; dst = to; layer = l }

abbrev pub added : ℕ → List ℕ → List ℕ → Event
added t from to = record { time = pos t; order = 0; what = Add (edge_in_l from to) [] }

abbrev pub added_with : ℕ → List ℕ → List ℕ → ℕ → Event
added_with t from to v = record { time = pos t; order = 0; what = Add (edge_in_l from to) ((w, Int (pos v)) ∷ []) }

abbrev pub deleted : ℕ → List ℕ → List ℕ → Event
deleted t from to = record { time = pos t; order = 0; what = Delete (edge_in_l from to) }

-- the same, with an order within the time
abbrev pub added_in : ℕ → ℕ → List ℕ → List ℕ → Event
added_in t k from to = record { time = pos t; order = k; what = Add (edge_in_l from to) [] }

abbrev pub deleted_in : ℕ → ℕ → List ℕ → List ℕ → Event
deleted_in t k from to = record { time = pos t; order = k; what = Delete (edge_in_l from to) }

-- the base world of events in the order of their arrival
abbrev pub example_base : Model → List Event → World
example_base model xs = base model (record { lo = earliest; hi = latest }) [] xs

-- two edges, at 1 and at 5
abbrev pub two_edges : World
two_edges = example_base Instants (added 1 a b ∷ added 5 b c ∷ [])

-- an edge that is never deleted
abbrev pub lasting : World
lasting = example_base Persistent (added 1 a b ∷ [])

-- an edge that is added at 1, deleted at 5 and added again at 9
abbrev pub added_again : World
added_again = example_base Persistent (added 1 a b ∷ deleted 5 a b ∷ added 9 a b ∷ [])

-- an edge with a value that its deletion at 3 forgets
abbrev pub forgotten : World
forgotten = example_base Persistent (added_with 1 a b 7 ∷ deleted 3 a b ∷ added 4 a b ∷ [])

-- an edge whose value falls
abbrev pub falling : World
falling = example_base Instants (added_with 1 a b 9 ∷ added_with 5 a b 1 ∷ [])

-- the same, in a graph whose edges last
abbrev pub lasting_value : World
lasting_value = example_base Persistent (added_with 1 a b 9 ∷ added_with 5 a b 1 ∷ [])

-- an edge with two values at one moment
abbrev pub twice : World
twice = example_base Instants (added_with 1 a b 7 ∷ added_with 1 a b 3 ∷ [])

-- an edge at each moment from 0 to 6
abbrev pub seven_moments : World
seven_moments = example_base Instants (added 0 a b ∷ added 1 a b ∷ added 2 a b ∷ added 3 a b ∷ added 4 a b ∷ added 5 a b ∷ added 6 a b ∷ [])

-- what windows show: their bounds, how many events they have, and the first and last time
abbrev pub extents : List World → List (Interval × Row)
extents ws = map (λ (v : World). (v.bounds, extent_row v.events)) ws

abbrev pub between : ℤ → ℤ → Interval
between lo hi = record { lo = lo; hi = hi }

-- an edge that is added at 4, and added and deleted at 5
abbrev pub ordered : World
ordered = example_base Persistent (deleted_in 5 2 a b ∷ added_in 5 1 a b ∷ added 4 a b ∷ [])

-- two nodes of type x and one of type y, and a type of a node without events
abbrev pub typed : World
typed = base Instants (record { lo = earliest; hi = latest }) ((a, x) ∷ (b, y) ∷ (c, x) ∷ (z, x) ∷ []) (added 1 a b ∷ added 2 a c ∷ [])

-- a triangle, and a node that hangs on it
abbrev pub triangle : World
triangle = example_base Instants (added 1 a b ∷ added 1 b c ∷ added 1 c a ∷ added 1 c d ∷ [])

-- two edges at one moment
abbrev pub chain : Model → World
chain model = example_base model (added 1 a b ∷ added 1 b c ∷ [])

-- a deleted edge, one that lasts, and a node with a value
abbrev pub mixed : World
mixed = example_base Persistent (added 1 a b ∷ deleted 5 a b ∷ added 2 b c ∷ record { time = pos 3; order = 0; what = Update b ((n, Flag true) ∷ []) } ∷ [])

-- one edge in two layers, at two moments
abbrev pub layered : World
layered = example_base Instants (record { time = pos 1; order = 0; what = Add (record { src = a; dst = b; layer = x }) [] } ∷ record { time = pos 2; order = 0; what = Add (record { src = a; dst = b; layer = y }) [] } ∷ [])

-- a loop, and a node of its own
abbrev pub loop : World
loop = example_base Instants (added 1 a a ∷ record { time = pos 2; order = 0; what = Update b [] } ∷ [])

-- three edges, of which two came late
abbrev pub arrived_late : World
arrived_late = example_base Instants (added 5 a b ∷ added 1 a b ∷ added 3 a b ∷ [])

-- no event, but a type
abbrev pub type_alone : World
type_alone = base Instants (record { lo = earliest; hi = latest }) ((z, x) ∷ []) []

-- an edge that is deleted at the moment of its addition, and one that lasts
abbrev pub deleted_at_once : World
deleted_at_once = example_base Persistent (added 1 a b ∷ deleted 1 a b ∷ added 2 c d ∷ [])

-- a node and an edge with values
abbrev pub valued : World
valued = example_base Persistent (record { time = pos 1; order = 0; what = Update b ((n, Text d) ∷ []) } ∷ added_with 2 a b 3 ∷ [])

-- an edge whose value falls after the end of a window
abbrev pub falls_late : World
falls_late = example_base Persistent (added_with 1 a b 9 ∷ added_with 6 a b 1 ∷ [])

-- two edges of one node in a layer, and one in another
abbrev pub in_two_layers : World
in_two_layers = example_base Instants (record { time = pos 1; order = 0; what = Add (record { src = a; dst = b; layer = x }) [] } ∷ record { time = pos 2; order = 0; what = Add (record { src = a; dst = b; layer = y }) [] } ∷ record { time = pos 3; order = 0; what = Add (record { src = b; dst = c; layer = x }) [] } ∷ [])

-- a window in a window, without a layer and a node
abbrev pub nested : World → World
nested v = apply (Window (pos 0) (pos 9) ∷ Window (pos 2) (pos 9) ∷ Layers (x ∷ []) ∷ ExcludeNodes (a ∷ []) ∷ []) v

-- each of three nodes with the others
abbrev pub three_edges : World
three_edges = example_base Instants (added 1 a b ∷ added 2 b c ∷ added 3 a c ∷ [])

-- two edges, one after the other
abbrev pub path : World
path = example_base Instants (added 1 a b ∷ added 2 b c ∷ [])

-- a world that spans ten moments
abbrev pub ten_moments : World
ten_moments = base Persistent (record { lo = pos 0; hi = pos 10 }) [] (added 1 a b ∷ added 9 a b ∷ [])

-- the same view, as often as a query may have views
abbrev pub sixty_four : {X : Type 0} → X → List X
sixty_four op = repeat 64 (op ∷ [])
