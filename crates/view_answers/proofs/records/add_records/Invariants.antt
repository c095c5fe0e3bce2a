use Rattle.std.proofs.Common.{◌≡◌, ◌++◌, drop, map}
use Rattle.graph_model.specs.Answer.{EventRow, row_fields}
use Rattle.graph_model.specs.RowText.{rows_text}
use Rattle.view_lists.specs.Listing.{event_placed}
use Rattle.view_answers.proofs.records.add_records.Given as goal

abbrev pub invariant-loop-place : goal.invariant-loop-place
invariant-loop-place g l =
    l.out ++ rows_text (map row_fields (map (λ p. EventRow (event_placed (g.V.View.world l.view) l.shown p)) (drop l.place-index l.places)))
    ≡ l.initial.out ++ rows_text (map row_fields (map (λ p. EventRow (event_placed (g.V.View.world l.view) l.shown p)) l.places))
