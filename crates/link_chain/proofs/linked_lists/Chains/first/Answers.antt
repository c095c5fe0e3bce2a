use Rattle.std.proofs.Common.{ap}
use Rattle.link_chain.specs.Chains.{first_link}
use Rattle.link_chain.proofs.ChainResults.{once_is, first_is_found, first_is_none}
use Rattle.link_chain.proofs.linked_lists.Chains.first.Goals as goal

pub returns-then-first-clause-first : goal.returns-then-first-clause-first
returns-then-first-clause-first c =
    let s = c.self.inside in
    ap first_link (first_is_none s.heads.items s.links.items c.args.self.now.lists c.args.head c.index.result.now (ap (λ v. v.lists) c.self.view_is) c.self.invariant c.requires.head c.index.ensures c.if-first.true)

pub returns-then-first-clause-walk : goal.returns-then-first-clause-walk
returns-then-first-clause-walk c =
    let s = c.self.inside in
    first_is_none s.heads.items s.links.items c.args.self.now.lists c.args.head c.index.result.now (ap (λ v. v.lists) c.self.view_is) c.self.invariant c.requires.head c.index.ensures c.if-first.true

pub returns-then-first-clause-once : goal.returns-then-first-clause-once
returns-then-first-clause-once c =
    let s = c.self.inside in
    once_is s.heads.items s.links.items c.args.self.now.lists (ap (λ v. v.lists) c.self.view_is) c.self.invariant

pub returns-else-first-clause-first : goal.returns-else-first-clause-first
returns-else-first-clause-first c =
    let s = c.self.inside in
    (first_is_found s.heads.items s.links.items c.args.self.now.lists c.args.head c.index.result.now (ap (λ v. v.lists) c.self.view_is) c.self.invariant c.requires.head c.index.ensures c.if-first.false).first

pub returns-else-first-clause-walk : goal.returns-else-first-clause-walk
returns-else-first-clause-walk c =
    let s = c.self.inside in
    (first_is_found s.heads.items s.links.items c.args.self.now.lists c.args.head c.index.result.now (ap (λ v. v.lists) c.self.view_is) c.self.invariant c.requires.head c.index.ensures c.if-first.false).walk

pub returns-else-first-clause-exists : goal.returns-else-first-clause-exists
returns-else-first-clause-exists c =
    let s = c.self.inside in
    (first_is_found s.heads.items s.links.items c.args.self.now.lists c.args.head c.index.result.now (ap (λ v. v.lists) c.self.view_is) c.self.invariant c.requires.head c.index.ensures c.if-first.false).exists

pub returns-else-first-clause-once : goal.returns-else-first-clause-once
returns-else-first-clause-once c =
    let s = c.self.inside in
    once_is s.heads.items s.links.items c.args.self.now.lists (ap (λ v. v.lists) c.self.view_is) c.self.invariant
