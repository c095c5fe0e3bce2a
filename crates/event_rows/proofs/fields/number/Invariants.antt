use Rattle.std.proofs.Common.{◌≡◌, ◌<◌, ◌^◌, true, take}
use Rattle.std.specs.Char.{is_ascii_digit}
use Rattle.std.specs.List.{list_all}
use Rattle.graph_model.specs.WholeNumber.{number_of}
use Rattle.event_rows.proofs.fields.number.Given as goal

abbrev pub invariant-loop-digit : goal.invariant-loop-digit
invariant-loop-digit l = (l.n ≡ number_of (take l.digit-index l.digits)) × (l.n < 10 ^ l.digit-index) × (list_all is_ascii_digit (take l.digit-index l.digits) ≡ true)
