-- The worlds that a query asks about, and why it is refused where it is.
use Rattle.std.specs.Prelude.{◌≡◌, ◌<◌, ⊤, Bool, List, length, nat_lt, Option, None, Some, if◌then◌else◌}
use Rattle.graph_model.specs.declared.queries.Query.{Query}
use Rattle.graph_model.specs.Limits.{most_windows}
use Rattle.graph_model.specs.Script.{QueryRefusal}
use Rattle.graph_model.specs.Script as refusal
use Rattle.graph_model.specs.Stack.{apply}
use Rattle.graph_model.specs.Windows.{windows}
use Rattle.graph_model.specs.World.{World}
use Rattle.query_answers.specs.declared.answer_fault.AnswerFault.{AnswerFault}
use Rattle.query_answers.specs.declared.answer_fault.AnswerFault.TheVariants.{Windows, Memory}

-- the worlds that a query asks about: what its views leave of a world, or the windows of that
abbrev pub asked_worlds : World → Query → List World
asked_worlds w query = windows (apply query.views w) query.each

-- whether these are more windows than there may be
abbrev pub are_too_many : List World → Bool
are_too_many worlds = nat_lt most_windows (length worlds)

-- why a query is refused that is asked of a world, if it is: because there are too many windows
abbrev pub asked_refusal : World → Query → Option QueryRefusal
asked_refusal w query = if are_too_many (asked_worlds w query) then Some refusal.Windows else None

-- a fault says that these worlds are too many windows, and how many they are, or that memory was wanting
abbrev pub AreTooMany : List World → AnswerFault → Type 0
AreTooMany worlds (Windows count) = (count ≡ length worlds) × (most_windows < count)
AreTooMany worlds Memory = ⊤
