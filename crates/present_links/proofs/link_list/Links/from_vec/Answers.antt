use Rattle.present_links.proofs.Order.{links_settled}
use Rattle.present_links.proofs.link_list.Links.from_vec.Goals as goal

pub returns : goal.returns
returns c =
    links_settled c.args.links.items c.sort_unstable.new.self.items c.drop_repeated.new.links.items c.drop_repeated.ensures c.sort_unstable.ensures.permutation c.sort_unstable.ensures.sorted
