use Rattle.world_laws.proofs.view_laws.window_and_name_view_change_places.Goals as goal
use Rattle.world_laws.proofs.Kept.{keep-window}

pub returns : goal.returns
returns c = λ w a b p h. keep-window p w a b h
