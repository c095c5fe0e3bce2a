-- The query that a line of a script says, by serde_json's reading of the line.
use Rattle.std.specs.Prelude.{ℕ, Bool, false, ◌||◌, nat_le, List, [], ◌∷◌, length, codes, Option, Some, None, Result, Ok, Err, ⊤, if◌then◌else◌}
use Rattle.std.specs.Str.{bytes_eq, is_utf8}
use Rattle.std.specs.List.{list_all}
use Rattle.serde_json.specs.Data.{Data, Members, no_members, member}
use Rattle.serde_json.specs.Find.{as_object, get}
use Rattle.serde_json.specs.Read.{read}
use Rattle.graph_model.specs.declared.queries.Ask.{Ask}
use Rattle.graph_model.specs.declared.queries.Each.{Each}
use Rattle.graph_model.specs.declared.queries.Op.{Op}
use Rattle.graph_model.specs.declared.queries.Query.{Query}
use Rattle.graph_model.specs.Limits.{most_views}
use Rattle.graph_model.specs.QueryForms.{ask_said, each_said, view_said}
use Rattle.graph_model.specs.QueryOutcome.{all_of, both, map_outcome}
use Rattle.graph_model.specs.QueryPlaces.{as_list}
use Rattle.graph_model.specs.Script.{QueryRefusal, Json, Shape, Depth}
use Rattle.graph_model.specs.World.{World}

-- the keys of an object
abbrev pub keys_of : Members → List (List ℕ)
keys_of no_members = []
keys_of (member key d members) = key ∷ keys_of members

-- a key that a query may have
abbrev pub is_query_key : List ℕ → Bool
is_query_key key =
    bytes_eq key (codes "ask") || (bytes_eq key (codes "views") || bytes_eq key (codes "each"))

-- an object without other keys
abbrev pub has_query_keys : Option Members → Bool
has_query_keys None = false
has_query_keys (Some members) = list_all is_query_key (keys_of members)

-- the question, which is never missing
abbrev pub ask_in : Option Data → Result Ask QueryRefusal
ask_in None = Err Shape
ask_in (Some d) = ask_said d

-- no more views than a query may have
abbrev pub depth_of : List Data → Result ⊤ QueryRefusal
depth_of ds = if nat_le (length ds) most_views then Ok tt else Err Depth

abbrev pub views_listed : Option (List Data) → Result (List Op) QueryRefusal
views_listed None = Err Shape
views_listed (Some ds) = map_outcome (λ p. p.0) (both (all_of view_said ds) (depth_of ds))

-- the views, which are none where they are missing
abbrev pub views_in : Option Data → Result (List Op) QueryRefusal
views_in None = Ok []
views_in (Some d) = views_listed (as_list d)

-- the windows, where there are some
abbrev pub each_in : Option Data → Result (Option Each) QueryRefusal
each_in None = Ok None
each_in (Some d) = map_outcome Some (each_said d)

abbrev pub query_from : (Ask × List Op) × Option Each → Query
query_from p = record { ask = p.0.0; views = p.0.1; each = p.1 }

-- what stands behind the three keys
abbrev pub parts_said : Data → Result ((Ask × List Op) × Option Each) QueryRefusal
parts_said d = both (both (ask_in (get (codes "ask") d)) (views_in (get (codes "views") d)))
    (each_in (get (codes "each") d))

-- the query that a value says
abbrev pub value_said : Data → Result Query QueryRefusal
value_said d = if has_query_keys (as_object d) then map_outcome query_from (parts_said d) else Err Shape

abbrev pub reading_said : Option Data → Result Query QueryRefusal
reading_said None = Err Json
reading_said (Some d) = value_said d

-- the query that a line says, or the first cause that refuses it
abbrev pub query_said : List ℕ → Result Query QueryRefusal
query_said line = if is_utf8 line then reading_said (read line) else Err Json

-- a query, unless a cause refuses it
abbrev pub unless_refused : Option QueryRefusal → Query → Result Query QueryRefusal
unless_refused None query = Ok query
unless_refused (Some refusal) query = Err refusal

-- a query that is refused where it is asked of a world is refused after every other cause
abbrev pub asked_of : (World → Query → Option QueryRefusal) → World → Result Query QueryRefusal
    → Result Query QueryRefusal
asked_of refuses w (Ok query) = unless_refused (refuses w query) query
asked_of refuses w (Err refusal) = Err refusal

-- the query of a line, or why it is refused, asked of a world where some queries are refused
abbrev pub query_of : (World → Query → Option QueryRefusal) → World → List ℕ
    → Result Query QueryRefusal
query_of refuses w line = asked_of refuses w (query_said line)
