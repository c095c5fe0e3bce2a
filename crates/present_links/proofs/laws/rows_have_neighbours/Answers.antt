use Rattle.present_links.proofs.NamedRows.{rows_are_neighbours}
use Rattle.present_links.proofs.laws.rows_have_neighbours.Goals as goal

pub returns : goal.returns
returns c = rows_are_neighbours
