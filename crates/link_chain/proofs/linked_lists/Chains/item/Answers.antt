use Rattle.std.proofs.Common.{ap, arith}
use Rattle.link_chain.proofs.ChainResults.{link_in, item_is}
use Rattle.link_chain.proofs.linked_lists.Chains.item.Goals as goal

pub index-requires : goal.index-requires
index-requires c =
    let s = c.self.inside in
    omega (arith, s.links.ok.0, link_in s.heads.items s.links.items c.args.self.now.lists c.args.link (ap (λ v. v.lists) c.self.view_is) c.self.invariant c.requires.link)

pub returns : goal.returns
returns c =
    let s = c.self.inside in
    item_is s.heads.items s.links.items c.args.self.now.lists c.args.link c.index.result.now (ap (λ v. v.lists) c.self.view_is) c.self.invariant c.requires.link c.index.ensures
