use Rattle.std.proofs.Common.{◌++◌, ◌∷◌, [], List, length, ap, ◌∙◌, subst, arith}
use Rattle.std.proofs.lemmas.List.{length_push}
use Rattle.link_chain.specs.Chains.{link_count}
use Rattle.link_chain.proofs.ChainLaws.{link_count-add_head}
use Rattle.link_chain.specs.declared.linked_lists.Head.{Head}
use Rattle.link_chain.specs.Indexes.{nowhere}
use Rattle.link_chain.specs.HeadsAndLinks.{AreChains}
use Rattle.link_chain.proofs.ChainResults.{added_is}
use Rattle.link_chain.proofs.linked_lists.Chains.add_head.Goals as goal

pub invariant_of-self-2 : goal.invariant_of-self-2
invariant_of-self-2 c =
    let s = c.self.inside in
    (added_is s.heads.items c.push_reserved.new.self.items s.links.items c.args.self.now.lists (ap (λ v. v.lists) c.self.view_is) c.self.invariant
    (c.push_reserved.ensures.items ∙ ap (λ (hs : List Head). hs ++ record { first = nowhere; last = nowhere } ∷ []) c.reserve.ensures.items)).chains

pub returns-clause-head : goal.returns-clause-head
returns-clause-head c =
    let s = c.self.inside in
    let here : AreChains s.heads.items s.links.items c.args.self.now.lists = subst (AreChains s.heads.items s.links.items) (ap (λ v. v.lists) c.self.view_is) c.self.invariant in
    omega (arith, c.len-head.ensures, c.reserve.ensures.len, s.heads.ok.0, here.same)

pub returns-clause-lists : goal.returns-clause-lists
returns-clause-lists c =
    let s = c.self.inside in
    (added_is s.heads.items c.push_reserved.new.self.items s.links.items c.args.self.now.lists (ap (λ v. v.lists) c.self.view_is) c.self.invariant
    (c.push_reserved.ensures.items ∙ ap (λ (hs : List Head). hs ++ record { first = nowhere; last = nowhere } ∷ []) c.reserve.ensures.items)).lists

pub returns-clause-head_count : goal.returns-clause-head_count
returns-clause-head_count c = ap length (returns-clause-lists c) ∙ length_push c.args.self.now.lists []

pub returns-clause-link_count : goal.returns-clause-link_count
returns-clause-link_count c = ap link_count (returns-clause-lists c) ∙ link_count-add_head c.args.self.now.lists
