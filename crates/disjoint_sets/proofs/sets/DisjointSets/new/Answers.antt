use Rattle.std.proofs.Common.{◌≡◌, ◌∙◌, ◌++◌, [], ◌∷◌, ap, arith, sym}
use Rattle.std.specs.List.{range_with_len}
use Rattle.disjoint_sets.proofs.Forest.{alone_least, alone_parents, range_more}
use Rattle.disjoint_sets.proofs.sets.DisjointSets.new.Goals as goal

pub loop-number-preserved : goal.loop-number-preserved
loop-number-preserved c = record {
  parents = c.in_ok-push.ensures.items ∙ (ap (λ ns. ns ++ c.loop-number.number ∷ []) c.loop-number.invariant.parents ∙ sym (range_more c.loop-number.number));
}

pub invariant_of-result : goal.invariant_of-result
invariant_of-result c = alone_parents c.loop-number.number c.loop-number.parents.items c.loop-number.invariant.parents

pub returns : goal.returns
returns c =
    let all : c.loop-number.number ≡ c.args.count = (let low = c.loop-number-test.false in let high = c.loop-number.auto.number-end in omega arith) in
    alone_least c.loop-number.number c.loop-number.parents.items c.loop-number.invariant.parents ∙ ap (range_with_len 0) all
