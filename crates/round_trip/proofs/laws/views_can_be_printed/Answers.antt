use Rattle.round_trip.proofs.Shown.{stack_printable, view_printable, windows_printable}
use Rattle.round_trip.proofs.laws.views_can_be_printed.Goals as goal

pub returns-clause-view : goal.returns-clause-view
returns-clause-view c = view_printable

pub returns-clause-stack : goal.returns-clause-stack
returns-clause-stack c = stack_printable

pub returns-clause-windows : goal.returns-clause-windows
returns-clause-windows c = windows_printable
