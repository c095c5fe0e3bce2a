use Rattle.world_laws.proofs.view_laws.views_are_lawful.Goals as goal
use Rattle.world_laws.proofs.Lawful.{IsLawful-view, IsLawful-apply}
use Rattle.world_laws.proofs.Counts.{length_view, length_apply}

pub returns-clause-lawful : goal.returns-clause-lawful
returns-clause-lawful c = IsLawful-view

pub returns-clause-no_more : goal.returns-clause-no_more
returns-clause-no_more c = length_view

pub returns-clause-stacks : goal.returns-clause-stacks
returns-clause-stacks c = IsLawful-apply

pub returns-clause-stacks_no_more : goal.returns-clause-stacks_no_more
returns-clause-stacks_no_more c = length_apply
