-- The updates of histories.
use Rattle.std.specs.Prelude.{List, false, map, length}
use Rattle.time_history.specs.declared.updates.Update.{Update}
use Rattle.time_history.specs.declared.span.Span.{Span}
use Rattle.time_history.specs.History.{UpdateList}

abbrev pub updates_in : List UpdateList → List (List Update)
updates_in hs = map (λ (h : UpdateList). h.updates) hs

-- all updates of a history
abbrev pub span_of_all : List Update → Span
span_of_all us = record { from = 0; to = length us; carried = false }
