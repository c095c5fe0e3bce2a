-- The rows of histories, by the times and kinds of events.
use Rattle.std.specs.Prelude.{codes, ℕ, suc, List, [], ◌∷◌}
use Rattle.graph_model.specs.Answer.{Row, MomentRow}
use Rattle.time_history.specs.declared.updates.Kind.{Kind}
use Rattle.time_history.specs.declared.updates.Kind.TheVariants.{Node, Add, Delete}
use Rattle.view_lists.specs.declared.moments.Moment.{Moment}

-- how an event of a kind is printed
abbrev pub kind_word : Kind → List ℕ
kind_word Node = codes "node"
kind_word Add = codes "edge"
kind_word Delete = codes "delete"

-- the rows of events, of which the first has this place
abbrev pub moment_rows : ℕ → List Moment → List Row
moment_rows k [] = []
moment_rows k (m ∷ ms) = MomentRow k m.time (kind_word m.kind) ∷ moment_rows (suc k) ms
