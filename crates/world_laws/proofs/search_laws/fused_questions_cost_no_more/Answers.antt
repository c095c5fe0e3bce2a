use Rattle.world_laws.proofs.search_laws.fused_questions_cost_no_more.Goals as goal
use Rattle.world_laws.proofs.Fused.{point_no_more, list_no_more}

pub returns-clause-point : goal.returns-clause-point
returns-clause-point c = point_no_more

pub returns-clause-listed : goal.returns-clause-listed
returns-clause-listed c = list_no_more
