use Rattle.world_laws.proofs.each_laws.windows_stand_in_their_places.Goals as goal
use Rattle.world_laws.proofs.Each.{count_of_windows, place_of_window}

pub returns-clause-counted : goal.returns-clause-counted
returns-clause-counted c = count_of_windows

pub returns-clause-placed : goal.returns-clause-placed
returns-clause-placed c = place_of_window
