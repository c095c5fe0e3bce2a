use Rattle.std.proofs.Common.{◌≡◌, ◌<◌, ◌-◌, ◌++◌, ◌∷◌, [], length, min, vec_len, vec_capacity, ap, sym, subst, arith}
use Rattle.link_chain.specs.NumberLists.{ListsOfNumbers}
use Rattle.link_chain.proofs.NumberResults.{IsNow, length-numbers_from, list_added, sure}
use Rattle.link_chain.proofs.number_lists.NumberLists.add_list.Goals as goal

pub overflow_cast-list : goal.overflow_cast-list
overflow_cast-list c =
    let s = c.self.inside in
    record { fits = omega (arith, c.requires.few, c.len-list.ensures, s.firsts.ok.0, ap (λ (v : ListsOfNumbers). length v.lists) c.self.view_is, length-numbers_from s.firsts.items s.more.lists c.self.invariant.same) }

pub add_head-requires : goal.add_head-requires
add_head-requires c =
    let s = c.self.inside in
    record { few = omega (arith, c.requires.few, c.self.invariant.same, ap (λ (v : ListsOfNumbers). length v.lists) c.self.view_is, length-numbers_from s.firsts.items s.more.lists c.self.invariant.same) }

added : (c : goal.After-add_head) → IsNow c.push_reserved.new.self.items c.add_head.new.self.lists (c.args.self.now.lists ++ [] ∷ [])
added c =
    let s = c.self.inside in
    let room : 0 < min (vec_capacity s.firsts - vec_len s.firsts) s.more.spare_heads = subst (λ (v : ListsOfNumbers). 0 < v.spare_lists) (sym c.self.view_is) c.requires.room in
    let chains : c.add_head.new.self.lists ≡ s.more.lists ++ [] ∷ [] = sure c.add_head.result (c.add_head.ensures.room (omega arith)) c.add_head.ensures.lists in
    list_added s.firsts.items c.push_reserved.new.self.items s.more.lists c.add_head.new.self.lists c.args.self.now.lists c.none.result c.self.invariant
    (ap (λ (v : ListsOfNumbers). v.lists) c.self.view_is) c.none.ensures c.push_reserved.ensures.items chains

pub invariant_of-self : goal.invariant_of-self
invariant_of-self c = (added c).kept

pub returns-clause-number : goal.returns-clause-number
returns-clause-number c =
    let s = c.self.inside in
    omega (arith, c.len-list.ensures, s.firsts.ok.0, ap (λ (v : ListsOfNumbers). length v.lists) c.self.view_is, length-numbers_from s.firsts.items s.more.lists c.self.invariant.same)

pub returns-clause-lists : goal.returns-clause-lists
returns-clause-lists c = (added c).lists
