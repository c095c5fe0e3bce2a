use Rattle.world_laws.proofs.window_laws.carried_span_spells_one_event_first.Goals as goal
use Rattle.world_laws.proofs.Spelled.{spell_carried}

pub returns : goal.returns
returns c = spell_carried
