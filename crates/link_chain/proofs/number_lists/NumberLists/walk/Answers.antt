use Rattle.std.proofs.Common.{ap, ◌∙◌, arith}
use Rattle.link_chain.specs.NumberLists.{ListsOfNumbers}
use Rattle.link_chain.proofs.NumberResults.{list_within, walked_full, walked_firsts}
use Rattle.link_chain.proofs.number_lists.NumberLists.walk.Goals as goal
use Rattle.link_chain.proofs.number_lists.NumberLists.walk.Goals.{then-is_full, else-is_full}

pub index-firsts-requires : goal.index-firsts-requires
index-firsts-requires c =
    let s = c.self.inside in
    omega (arith, s.firsts.ok.0, list_within s.firsts.items s.more.lists c.args.self.now.lists c.args.list c.self.invariant (ap (λ (v : ListsOfNumbers). v.lists) c.self.view_is) c.requires)

pub along-more-requires : goal.along-more-requires
along-more-requires c =
    let s = c.self.inside in
    omega (arith, c.self.invariant.same, list_within s.firsts.items s.more.lists c.args.self.now.lists c.args.list c.self.invariant (ap (λ (v : ListsOfNumbers). v.lists) c.self.view_is) c.requires)

pub returns : goal.returns
returns c =
    let s = c.self.inside in
    elim c.if-is_full.branch [
      | then-is_full w ↦ walked_full s.firsts.items s.more.lists c.args.self.now.lists c.args.list c.index-firsts.result.now c.if-is_full.more c.self.invariant
          (ap (λ (v : ListsOfNumbers). v.lists) c.self.view_is) c.requires c.index-firsts.ensures (w.more-is ∙ w.along-more.ensures)
      | else-is_full w ↦ walked_firsts s.firsts.items s.more.lists c.args.self.now.lists c.args.list c.index-firsts.result.now c.if-is_full.more c.self.invariant
          (ap (λ (v : ListsOfNumbers). v.lists) c.self.view_is) c.requires c.index-firsts.ensures w.if-is_full.ensures (w.more-is ∙ w.nothing-more.ensures)
    ]
