-- Where a line is refused: the causes, and the parts in which they lie.
use Rattle.std.specs.Prelude.{nat_le, Bool, true, false, ◌||◌, List, codes, Option, Some, None, Result, Ok, Err, if◌then◌else◌}
use Rattle.std.specs.List.{list_any}
use Rattle.serde_json.specs.Data.{Data}
use Rattle.serde_json.specs.Find.{as_object, get}
use Rattle.graph_model.specs.QueryForms.{view_said}
use Rattle.graph_model.specs.QueryLine.{ask_in, depth_of, each_in, has_query_keys}
use Rattle.graph_model.specs.QueryOutcome.{judged_as}
use Rattle.graph_model.specs.QueryPlaces.{as_list}
use Rattle.graph_model.specs.Script.{QueryRefusal, Json, Shape, Number, Depth, Windows}

-- whether something is refused for a cause, or for one that is judged before it
abbrev pub is_refused_by : {A : Type 0} → QueryRefusal → Result A QueryRefusal → Bool
is_refused_by why (Ok a) = false
is_refused_by why (Err refusal) = nat_le (judged_as refusal) (judged_as why)

-- whether the views are: they are no array, one of them is refused so, or there are too many
abbrev pub are_refused_by : QueryRefusal → Option (List Data) → Bool
are_refused_by why None = nat_le (judged_as Shape) (judged_as why)
are_refused_by why (Some ds) = list_any (λ d. is_refused_by why (view_said d)) ds || is_refused_by why (depth_of ds)

abbrev pub views_refused_by : QueryRefusal → Option Data → Bool
views_refused_by why None = false
views_refused_by why (Some d) = are_refused_by why (as_list d)

-- whether one of the three parts is
abbrev pub parts_refused_by : QueryRefusal → Data → Bool
parts_refused_by why d = (is_refused_by why (ask_in (get (codes "ask") d)) || views_refused_by why (get (codes "views") d)) || is_refused_by why (each_in (get (codes "each") d))

-- whether a value is: it is no object of the three keys alone, or one of the three parts is refused so
abbrev pub value_refused_by : QueryRefusal → Data → Bool
value_refused_by why d = if has_query_keys (as_object d) then parts_refused_by why d else nat_le (judged_as Shape) (judged_as why)

-- the causes that lie in a value
abbrev pub lies_in_value : QueryRefusal → Bool
lies_in_value Json = false
lies_in_value Shape = true
lies_in_value Number = true
lies_in_value Depth = true
lies_in_value Windows = false

-- whether what is read passes a test, or is refused for a cause that lies in the value
abbrev pub is_kept : {A : Type 0} → (A → Bool) → Result A QueryRefusal → Bool
is_kept passes (Ok a) = passes a
is_kept passes (Err refusal) = lies_in_value refusal
