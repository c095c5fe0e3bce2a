-- The forms of views, questions and windows: tables of words, each with what stands in the places behind the word and what it makes.
use Rattle.std.specs.Prelude.{ℕ, ◌==◌, List, [], ◌∷◌, length, codes, Option, Some, None, Result, Ok, Err, if◌then◌else◌}
use Rattle.std.specs.Str.{bytes_eq}
use Rattle.serde_json.specs.Data.{Data}
use Rattle.graph_model.specs.declared.events.EdgeName.{EdgeName}
use Rattle.graph_model.specs.declared.queries.Direction.TheVariants.{Outward}
use Rattle.graph_model.specs.declared.queries.Op.{Op}
use Rattle.graph_model.specs.declared.queries.Op.TheVariants.{Window, At, Before, After, Layers, ExcludeLayers, Subgraph, ExcludeNodes, NodeTypes, EdgesWhere, NodesWhere, Valid}
use Rattle.graph_model.specs.declared.queries.Each.{Each}
use Rattle.graph_model.specs.declared.queries.Each.TheVariants.{Rolling, Expanding}
use Rattle.graph_model.specs.declared.queries.Ask.{Ask}
use Rattle.graph_model.specs.declared.queries.Ask.TheVariants.{Nodes, Edges, Events, Degree, Hops, Weak, OutComponent, InComponent, Core, CoreNumbers, Arrival, NodeHistory, EdgeHistory, NodeValue, EdgeValue, EdgeAlive, Materialise}
use Rattle.graph_model.specs.QueryOutcome.{both, map_outcome}
use Rattle.graph_model.specs.QueryPlaces.{place, word_of, as_list, bound, moment, step, core_number, name, names, comparison, direction, value}
use Rattle.graph_model.specs.Script.{QueryRefusal, Shape}

-- what stands behind the word: nothing
abbrev pub alone : {A : Type 0} → A → List Data → Result A QueryRefusal
alone a items = if length items == 1 then Ok a else Err Shape

-- one place
abbrev pub one : {A : Type 0} → (Data → Result A QueryRefusal) → List Data → Result A QueryRefusal
one f items = if length items == 2 then f (place 1 items) else Err Shape

-- two places
abbrev pub two : {A B : Type 0} → (Data → Result A QueryRefusal) → (Data → Result B QueryRefusal) → List Data → Result (A × B) QueryRefusal
two f g items = if length items == 3 then both (f (place 1 items)) (g (place 2 items)) else Err Shape

-- three places
abbrev pub three : {A B C : Type 0} → (Data → Result A QueryRefusal) → (Data → Result B QueryRefusal) → (Data → Result C QueryRefusal) → List Data → Result ((A × B) × C) QueryRefusal
three f g h items = if length items == 4 then both (both (f (place 1 items)) (g (place 2 items))) (h (place 3 items)) else Err Shape

-- four places
abbrev pub four : {A B C D : Type 0} → (Data → Result A QueryRefusal) → (Data → Result B QueryRefusal) → (Data → Result C QueryRefusal) → (Data → Result D QueryRefusal) → List Data → Result (((A × B) × C) × D) QueryRefusal
four f g h k items = if length items == 5 then both (both (both (f (place 1 items)) (g (place 2 items))) (h (place 3 items))) (k (place 4 items)) else Err Shape

-- the edge of a source, a destination and a layer
abbrev pub edge_from : (List ℕ × List ℕ) × List ℕ → EdgeName
edge_from p = record { src = p.0.0; dst = p.0.1; layer = p.1 }

-- a form is a word, and what is read behind it
abbrev pub Forms : Type 0 → Type 0
Forms A = List (List ℕ × (List Data → Result A QueryRefusal))

-- what is read by the form of a word
abbrev pub by_word : {A : Type 0} → Forms A → List ℕ → List Data → Result A QueryRefusal
by_word [] word items = Err Shape
by_word (form ∷ forms) word items = if bytes_eq word form.0 then form.1 items else by_word forms word items

-- what is read of an array by the form of its word
abbrev pub by_forms : {A : Type 0} → Forms A → Option (List Data) → Result A QueryRefusal
by_forms forms None = Err Shape
by_forms forms (Some items) = by_word forms (word_of items) items

-- the views
abbrev pub view_forms : Forms Op
view_forms =
    (codes "window", λ items. map_outcome (λ p. Window p.0 p.1) (two bound bound items))
    ∷ (codes "at", λ items. map_outcome At (one moment items))
    ∷ (codes "before", λ items. map_outcome Before (one bound items))
    ∷ (codes "after", λ items. map_outcome After (one moment items))
    ∷ (codes "layers", λ items. map_outcome Layers (one names items))
    ∷ (codes "exclude_layers", λ items. map_outcome ExcludeLayers (one names items))
    ∷ (codes "subgraph", λ items. map_outcome Subgraph (one names items))
    ∷ (codes "exclude_nodes", λ items. map_outcome ExcludeNodes (one names items))
    ∷ (codes "node_types", λ items. map_outcome NodeTypes (one names items))
    ∷ (codes "edges_where", λ items. map_outcome (λ p. EdgesWhere p.0.0 p.0.1 p.1) (three name comparison value items))
    ∷ (codes "nodes_where", λ items. map_outcome (λ p. NodesWhere p.0.0 p.0.1 p.1) (three name comparison value items))
    ∷ (codes "valid", λ items. alone Valid items)
    ∷ []

-- hops go outward where no direction is given
abbrev pub hops : List Data → Result Ask QueryRefusal
hops items = if length items == 2 then map_outcome (λ n. Hops n Outward) (one name items) else map_outcome (λ p. Hops p.0 p.1) (two name direction items)

-- the questions
abbrev pub ask_forms : Forms Ask
ask_forms =
    (codes "nodes", λ items. alone Nodes items)
    ∷ (codes "edges", λ items. alone Edges items)
    ∷ (codes "events", λ items. alone Events items)
    ∷ (codes "degree", λ items. alone Degree items)
    ∷ (codes "hops", hops)
    ∷ (codes "weak", λ items. alone Weak items)
    ∷ (codes "out_component", λ items. map_outcome OutComponent (one name items))
    ∷ (codes "in_component", λ items. map_outcome InComponent (one name items))
    ∷ (codes "core", λ items. map_outcome Core (one core_number items))
    ∷ (codes "core_numbers", λ items. alone CoreNumbers items)
    ∷ (codes "arrival", λ items. map_outcome (λ p. Arrival p.0 p.1) (two moment names items))
    ∷ (codes "node_history", λ items. map_outcome NodeHistory (one name items))
    ∷ (codes "edge_history", λ items. map_outcome (λ p. EdgeHistory (edge_from p)) (three name name name items))
    ∷ (codes "node_value", λ items. map_outcome (λ p. NodeValue p.0 p.1) (two name name items))
    ∷ (codes "edge_value", λ items. map_outcome (λ p. EdgeValue (edge_from p.0) p.1) (four name name name name items))
    ∷ (codes "edge_alive", λ items. map_outcome (λ p. EdgeAlive (edge_from p.0) p.1) (four name name name moment items))
    ∷ (codes "materialise", λ items. alone Materialise items)
    ∷ []

-- the width is the step too where no step is given
abbrev pub rolling : List Data → Result Each QueryRefusal
rolling items = if length items == 2 then map_outcome (λ w. Rolling w w) (one step items) else map_outcome (λ p. Rolling p.0 p.1) (two step step items)

-- the windows
abbrev pub each_forms : Forms Each
each_forms = (codes "rolling", rolling) ∷ (codes "expanding", λ items. map_outcome Expanding (one step items)) ∷ []

-- what a value says as a view, as a question, and as windows
abbrev pub view_said : Data → Result Op QueryRefusal
view_said d = by_forms view_forms (as_list d)

abbrev pub ask_said : Data → Result Ask QueryRefusal
ask_said d = by_forms ask_forms (as_list d)

abbrev pub each_said : Data → Result Each QueryRefusal
each_said d = by_forms each_forms (as_list d)
