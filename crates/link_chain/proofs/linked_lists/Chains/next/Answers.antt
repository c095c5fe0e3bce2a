use Rattle.std.proofs.Common.{ap, arith}
use Rattle.link_chain.specs.Chains.{first_link}
use Rattle.link_chain.proofs.ChainResults.{link_in, next_is_found, next_is_none}
use Rattle.link_chain.proofs.linked_lists.Chains.next.Goals as goal

pub index-requires : goal.index-requires
index-requires c =
    let s = c.self.inside in
    omega (arith, s.links.ok.0, link_in s.heads.items s.links.items c.args.self.now.lists c.args.link (ap (λ v. v.lists) c.self.view_is) c.self.invariant c.requires.link)

pub returns-then-next-clause-next : goal.returns-then-next-clause-next
returns-then-next-clause-next c =
    let s = c.self.inside in
    ap first_link (next_is_none s.heads.items s.links.items c.args.self.now.lists c.args.link c.index.result.now (ap (λ v. v.lists) c.self.view_is) c.self.invariant c.requires.link c.index.ensures c.if-next.true)

pub returns-then-next-clause-walk : goal.returns-then-next-clause-walk
returns-then-next-clause-walk c =
    let s = c.self.inside in
    next_is_none s.heads.items s.links.items c.args.self.now.lists c.args.link c.index.result.now (ap (λ v. v.lists) c.self.view_is) c.self.invariant c.requires.link c.index.ensures c.if-next.true

pub returns-else-next-clause-next : goal.returns-else-next-clause-next
returns-else-next-clause-next c =
    let s = c.self.inside in
    (next_is_found s.heads.items s.links.items c.args.self.now.lists c.args.link c.index.result.now (ap (λ v. v.lists) c.self.view_is) c.self.invariant c.requires.link c.index.ensures c.if-next.false).first

pub returns-else-next-clause-walk : goal.returns-else-next-clause-walk
returns-else-next-clause-walk c =
    let s = c.self.inside in
    (next_is_found s.heads.items s.links.items c.args.self.now.lists c.args.link c.index.result.now (ap (λ v. v.lists) c.self.view_is) c.self.invariant c.requires.link c.index.ensures c.if-next.false).walk

pub returns-else-next-clause-exists : goal.returns-else-next-clause-exists
returns-else-next-clause-exists c =
    let s = c.self.inside in
    (next_is_found s.heads.items s.links.items c.args.self.now.lists c.args.link c.index.result.now (ap (λ v. v.lists) c.self.view_is) c.self.invariant c.requires.link c.index.ensures c.if-next.false).exists
