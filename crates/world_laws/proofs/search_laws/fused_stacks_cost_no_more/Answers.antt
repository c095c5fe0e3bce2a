use Rattle.world_laws.proofs.search_laws.fused_stacks_cost_no_more.Goals as goal
use Rattle.world_laws.proofs.Fused.{fused_no_more}

pub returns : goal.returns
returns c = fused_no_more
