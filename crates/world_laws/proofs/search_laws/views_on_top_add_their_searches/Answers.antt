use Rattle.world_laws.proofs.search_laws.views_on_top_add_their_searches.Goals as goal
use Rattle.world_laws.proofs.Fused.{searches-push}

pub returns : goal.returns
returns c = searches-push
