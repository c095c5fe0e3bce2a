use Rattle.std.proofs.Common.{arith, inl, inr, subst, sym}
use Rattle.walk_algorithms.specs.Counted.{CountsWays}
use Rattle.present_links.specs.Links.{ends_in}
use Rattle.walk_algorithms.proofs.Counted.{counted_all, counted_none, dst_few, src_few, step_counted}
use Rattle.walk_algorithms.proofs.link_ways.count_links.Goals.{then-paired, else-paired, then-paired-2, else-paired-2}
use Rattle.walk_algorithms.proofs.link_ways.count_links.Goals as goal

pub loop-i-init : goal.loop-i-init
loop-i-init c = record {
  counted = subst (CountsWays _ _) (sym c.new-ways.ensures) (counted_none (ends_in c.args.links.now));
  cut = λ j k first. absurd (omega arith);
}

pub count-requires-clause-at_src : goal.count-requires-clause-at_src
count-requires-clause-at_src c =
    src_few c.args.links.now c.requires.paired c.loop-i.i c.loop-i-test.true c.loop-i.invariant.cut c.next_leads_back-paired.ensures.far c.loop-i.ways c.loop-i.invariant.counted c.next_leads_back-paired.result c.next_leads_back-paired.ensures.next c.if-paired.back
    (elim c.if-paired.branch [ then-paired w ↦ inl (w.if-paired.true, w.back-is) | else-paired w ↦ inr (w.if-paired.false, w.back-is) ]) c.requires.few

pub count-requires-clause-at_dst : goal.count-requires-clause-at_dst
count-requires-clause-at_dst c =
    dst_few c.args.links.now c.requires.paired c.loop-i.i c.loop-i-test.true c.loop-i.invariant.cut c.next_leads_back-paired.ensures.far c.loop-i.ways c.loop-i.invariant.counted c.next_leads_back-paired.result c.next_leads_back-paired.ensures.next c.if-paired.back
    (elim c.if-paired.branch [ then-paired w ↦ inl (w.if-paired.true, w.back-is) | else-paired w ↦ inr (w.if-paired.false, w.back-is) ]) c.requires.few

pub loop-i-preserved : goal.loop-i-preserved
loop-i-preserved c =
    let step = step_counted c.args.links.now c.requires.paired c.loop-i.i c.loop-i-test.true c.loop-i.invariant.cut c.next_leads_back-paired.ensures.far c.loop-i.ways c.loop-i.invariant.counted c.next_leads_back-paired.result c.next_leads_back-paired.ensures.next c.if-paired.back
    (elim c.if-paired.branch [ then-paired w ↦ inl (w.if-paired.true, w.back-is) | else-paired w ↦ inr (w.if-paired.false, w.back-is) ])
    c.count.new.self c.in_ok-count.ensures c.if-paired-2.i
    (elim c.if-paired-2.branch [ then-paired-2 w ↦ inl (w.if-paired-2.true, w.i-is) | else-paired-2 w ↦ inr (w.if-paired-2.false, w.i-is) ]) in
    record { counted = step.0; cut = step.1 }

pub returns : goal.returns
returns c = counted_all c.args.links.now c.loop-i.i c.loop-i-test.false c.loop-i.ways c.loop-i.invariant.counted
