use Rattle.std.proofs.Common.{◌≡◌, ◌∙◌, ap, arith, set, subst, sym}
use Rattle.std.proofs.Math.ListN.{length-set}
use Rattle.std.proofs.lemmas.Grind.{get_or_default_zero}
use Rattle.disjoint_sets.specs.Sets.{AreParents, least_numbers}
use Rattle.disjoint_sets.proofs.Forest.{found, halved, halved_next, halved_parents, least, own, parent, second, second_below}
use Rattle.disjoint_sets.proofs.sets.find.Goals as goal

pub loop-at-preserved : goal.loop-at-preserved
loop-at-preserved c =
    let ps = c.loop-at.parents.items in
    let at = c.loop-at.at in
    let first = c.index-in-loop-at.result.now in
    let next = c.index-next.result.now in
    let lt = c.loop-at.invariant.below in
    let h = c.loop-at.invariant.parents in
    let low = h at lt in
    let first_is : first ≡ parent ps at = c.index-in-loop-at.ensures ∙ get_or_default_zero ps at first lt in
    let is : next ≡ second ps h at lt = c.index-next.ensures ∙ (get_or_default_zero ps first next (omega arith) ∙ ap (parent ps) first_is) in
    let below = second_below ps h at lt in
    let long = length-set ps at next in
    record {
      below = omega (arith, is, below, long, lt);
      parents = subst (λ n. AreParents (set ps at n)) (sym is) (halved_parents ps h at lt);
      same = ap (λ n. least_numbers (set ps at n)) is ∙ (halved ps h at lt ∙ c.loop-at.invariant.same);
      least = ap (λ n. least (set ps at n) n) is ∙ (halved_next ps h at lt ∙ c.loop-at.invariant.least);
    }

pub returns-clause-least : goal.returns-clause-least
returns-clause-least c =
    let ps = c.loop-at.parents.items in
    let at = c.loop-at.at in
    let here = c.index.result.now in
    let alone : parent ps at ≡ at = sym (c.index.ensures ∙ get_or_default_zero ps at here c.loop-at.invariant.below) ∙ c.loop-at-test.false in
    found c.args.parents.now.items c.args.number at c.requires.number (sym c.loop-at.invariant.least ∙ own ps at at alone)
