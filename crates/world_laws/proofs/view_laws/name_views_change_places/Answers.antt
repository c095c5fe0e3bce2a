use Rattle.world_laws.proofs.view_laws.name_views_change_places.Goals as goal
use Rattle.world_laws.proofs.Kept.{keep_comm, keep_both}

pub returns-clause-places : goal.returns-clause-places
returns-clause-places c = λ w p q. keep_comm p q w

pub returns-clause-merged : goal.returns-clause-merged
returns-clause-merged c = λ w p q. keep_both p q w
