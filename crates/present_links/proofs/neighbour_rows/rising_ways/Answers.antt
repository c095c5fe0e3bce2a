use Rattle.std.proofs.Common.{◌∙◌, ap}
use Rattle.graph_model.specs.Rising.{rising}
use Rattle.present_links.specs.Links.{ends_cmp}
use Rattle.present_links.proofs.neighbour_rows.rising_ways.Goals as goal

pub returns : goal.returns
returns c = c.into_vec.ensures ∙ (c.from_vec.ensures ∙ ap (rising ends_cmp) c.in_ok-ways.ensures)
