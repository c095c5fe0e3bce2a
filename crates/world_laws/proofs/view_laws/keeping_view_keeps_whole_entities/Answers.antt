use Rattle.world_laws.proofs.view_laws.keeping_view_keeps_whole_entities.Goals as goal
use Rattle.world_laws.proofs.Kept.{about-kept}

pub returns : goal.returns
returns c = λ w p e. about-kept p e w.events
