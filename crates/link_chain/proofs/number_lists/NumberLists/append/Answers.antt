use Rattle.std.proofs.Common.{◌<◌, ◌++◌, ◌∷◌, [], length, ap, sym, ◌∙◌, subst, arith}
use Rattle.std.proofs.lemmas.List.{length-set}
use Rattle.link_chain.specs.NumberLists.{ListsOfNumbers, numbers_at}
use Rattle.link_chain.proofs.NumberResults.{list_within, first_appended, chain_appended, sure}
use Rattle.link_chain.proofs.number_lists.NumberLists.append.Goals as goal

pub index-firsts-requires : goal.index-firsts-requires
index-firsts-requires c =
    let s = c.self.inside in
    omega (arith, s.firsts.ok.0, list_within s.firsts.items s.more.lists c.args.self.now.lists c.args.list c.self.invariant (ap (λ (v : ListsOfNumbers). v.lists) c.self.view_is) c.requires.list)

pub index_mut-requires : goal.index_mut-requires
index_mut-requires c =
    let s = c.self.inside in
    omega (arith, s.firsts.ok.0, list_within s.firsts.items s.more.lists c.args.self.now.lists c.args.list c.self.invariant (ap (λ (v : ListsOfNumbers). v.lists) c.self.view_is) c.requires.list)

pub invariant_of-self : goal.invariant_of-self
invariant_of-self c =
    let s = c.self.inside in
    (first_appended s.firsts.items s.more.lists c.args.self.now.lists c.args.list c.args.number c.index-firsts.result.now c.in-Some.longer c.self.invariant
    (ap (λ (v : ListsOfNumbers). v.lists) c.self.view_is) c.requires.list c.index-firsts.ensures c.in-Some.ensures).kept

pub returns-in-Some-clause-lists : goal.returns-in-Some-clause-lists
returns-in-Some-clause-lists c =
    let s = c.self.inside in
    (first_appended s.firsts.items s.more.lists c.args.self.now.lists c.args.list c.args.number c.index-firsts.result.now c.in-Some.longer c.self.invariant
    (ap (λ (v : ListsOfNumbers). v.lists) c.self.view_is) c.requires.list c.index-firsts.ensures c.in-Some.ensures).lists

pub returns-in-Some-clause-list_count : goal.returns-in-Some-clause-list_count
returns-in-Some-clause-list_count c = ap length (returns-in-Some-clause-lists c) ∙ length-set c.args.self.now.lists c.args.list (numbers_at c.args.self.now.lists c.args.list ++ c.args.number ∷ [])

pub append-requires-clause-head : goal.append-requires-clause-head
append-requires-clause-head c =
    let s = c.self.inside in
    omega (arith, c.self.invariant.same, list_within s.firsts.items s.more.lists c.args.self.now.lists c.args.list c.self.invariant (ap (λ (v : ListsOfNumbers). v.lists) c.self.view_is) c.requires.list)

pub invariant_of-self-in-None : goal.invariant_of-self-in-None
invariant_of-self-in-None c =
    let s = c.self.inside in
    let room : 0 < s.more.spare_links = subst (λ (v : ListsOfNumbers). 0 < v.spare_links) (sym c.self.view_is) c.requires.room in
    (chain_appended s.firsts.items s.more.lists c.append.new.self.lists c.args.self.now.lists c.args.list c.args.number c.index-firsts.result.now c.self.invariant
    (ap (λ (v : ListsOfNumbers). v.lists) c.self.view_is) c.requires.list c.index-firsts.ensures c.in-None.ensures (sure c.append.result (c.append.ensures.room room) c.append.ensures.lists)).kept

pub returns-in-None-clause-lists : goal.returns-in-None-clause-lists
returns-in-None-clause-lists c =
    let s = c.self.inside in
    let room : 0 < s.more.spare_links = subst (λ (v : ListsOfNumbers). 0 < v.spare_links) (sym c.self.view_is) c.requires.room in
    (chain_appended s.firsts.items s.more.lists c.append.new.self.lists c.args.self.now.lists c.args.list c.args.number c.index-firsts.result.now c.self.invariant
    (ap (λ (v : ListsOfNumbers). v.lists) c.self.view_is) c.requires.list c.index-firsts.ensures c.in-None.ensures (sure c.append.result (c.append.ensures.room room) c.append.ensures.lists)).lists

pub returns-in-None-clause-list_count : goal.returns-in-None-clause-list_count
returns-in-None-clause-list_count c = ap length (returns-in-None-clause-lists c) ∙ length-set c.args.self.now.lists c.args.list (numbers_at c.args.self.now.lists c.args.list ++ c.args.number ∷ [])
