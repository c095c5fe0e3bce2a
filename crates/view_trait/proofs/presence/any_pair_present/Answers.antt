use Rattle.std.proofs.Common.{◌≡◌, ◌<◌, ◌+◌, ◌-◌, ◌||◌, true, length, refl, sym, ap, subst, ◌∙◌, arith}
use Rattle.std.specs.List.{AllByRecursion}
use Rattle.std.proofs.lemmas.Bool.{or_left}
use Rattle.std.proofs.lemmas.List.Sums.{sum_by-cons}
use Rattle.view_trait.specs.Present.{pair_leads, any_pair_leads, edge_count, edge_count_of}
use Rattle.view_trait.proofs.Costs.{StepsWithin-part, StepsWithin-times}
use Rattle.view_trait.proofs.presence.any_pair_present.Goals as goal

pub loop-p-init : goal.loop-p-init
loop-p-init g c = record {
  within = c.requires;
  left = refl;
  few = omega arith;
  cost = λ h. omega arith;
}

pub loop-p-preserved : goal.loop-p-preserved
loop-p-preserved g c =
    let contents = g.V.View.contents c.args.view.now in
    let world = g.V.View.world c.args.view.now in
    let rest = c.next.new.self in
    let more : edge_count_of contents c.loop-p.pairs ≡ edge_count contents c.in-Some.p.0 + edge_count_of contents rest = ap (edge_count_of contents) c.in-Some.ensures.steps ∙ sum_by-cons (edge_count contents) c.in-Some.p.0 rest in
    record {
      within = (subst (AllByRecursion (λ p. p < length contents.pairs)) c.in-Some.ensures.steps c.loop-p.invariant.within).1;
      left = c.loop-p.invariant.left ∙ (ap (any_pair_leads contents world) c.in-Some.ensures.steps ∙ ap (λ b. b || any_pair_leads contents world rest) (sym c.pair_present.ensures.present ∙ c.if-pair_present.false));
      few = (let n = c.loop-p.invariant.few in omega (arith, n, more));
      cost = λ h. StepsWithin-part _ _ _ _ _ _ _ _ _ more c.loop-p.invariant.few (c.loop-p.invariant.cost h) (c.pair_present.ensures.cost h);
    }

pub returns-then-pair_present-clause-present : goal.returns-then-pair_present-clause-present
returns-then-pair_present-clause-present g c =
    let contents = g.V.View.contents c.args.view.now in
    let world = g.V.View.world c.args.view.now in
    let here : pair_leads contents world c.in-Some.p.0 ≡ true = sym c.pair_present.ensures.present ∙ c.if-pair_present.true in
    sym (c.loop-p.invariant.left ∙ (ap (any_pair_leads contents world) c.in-Some.ensures.steps ∙ or_left (pair_leads contents world c.in-Some.p.0) (any_pair_leads contents world c.next.new.self) here))

pub returns-then-pair_present-clause-cost : goal.returns-then-pair_present-clause-cost
returns-then-pair_present-clause-cost g c = λ h.
    let contents = g.V.View.contents c.args.view.now in
    let all = edge_count_of contents c.args.pairs in
    let left = edge_count_of contents c.next.new.self in
    let more : edge_count_of contents c.loop-p.pairs ≡ edge_count contents c.in-Some.p.0 + left = ap (edge_count_of contents) c.in-Some.ensures.steps ∙ sum_by-cons (edge_count contents) c.in-Some.p.0 c.next.new.self in
    let made = StepsWithin-part _ _ _ all _ _ _ _ _ more c.loop-p.invariant.few (c.loop-p.invariant.cost h) (c.pair_present.ensures.cost h) in
    StepsWithin-times _ _ (all - left) all _ _ (omega arith) made

pub returns-clause-cost : goal.returns-clause-cost
returns-clause-cost g c = λ h.
    let contents = g.V.View.contents c.args.view.now in
    let all = edge_count_of contents c.args.pairs in
    StepsWithin-times _ _ (all - edge_count_of contents c.loop-p.pairs) all _ _ (omega arith) (c.loop-p.invariant.cost h)
