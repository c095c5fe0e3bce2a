use Rattle.std.proofs.Common.{◌<◌, length, refl, ◌∙◌, ap, arith}
use Rattle.view_trait.specs.Numbered.{is_listed}
use Rattle.view_trait.proofs.NodeSets.{first_more, second_more}
use Rattle.view_trait.proofs.node_sets.all_nodes.Goals.{then-i-first_count, else-i-first_count+then-j-second_count}
use Rattle.view_trait.proofs.node_sets.all_nodes.Goals as goal

pub loop-i-preserved-then-is_first_next : goal.loop-i-preserved-then-is_first_next
loop-i-preserved-then-is_first_next c =
    let first = c.args.first.now in
    let second = c.args.second.now in
    let lt : c.loop-i.i < length first = c.if-is_first_next.ensures.first refl in
    record {
      first = omega (arith, lt);
      second = c.loop-i.invariant.second;
      listed = λ n. ap (λ xs. is_listed xs n) c.in_ok-push.ensures.ok ∙ first_more first second c.loop-i.nodes c.loop-i.i c.loop-i.j c.item.result.0 n lt c.item.ensures (c.loop-i.invariant.listed n);
    }

pub loop-i-preserved : goal.loop-i-preserved
loop-i-preserved c =
    let first = c.args.first.now in
    let second = c.args.second.now in
    let lt : c.loop-i.j < length second = elim c.if-i-first_count.branch [
      | then-i-first_count w ↦ (let left = w.if-i-first_count.true in c.if-is_first_next.ensures.second refl (omega (arith, left, c.len-first_count.ensures.len)))
      | else-i-first_count+then-j-second_count w ↦ (let left = w.if-j-second_count.true in omega (arith, left, c.len-second_count.ensures.len))
    ] in
    record {
      first = c.loop-i.invariant.first;
      second = omega (arith, lt);
      listed = λ n. ap (λ xs. is_listed xs n) c.in_ok-push-2.ensures.ok ∙ second_more first second c.loop-i.nodes c.loop-i.i c.loop-i.j c.item-else-is_first_next.result.0 n lt c.item-else-is_first_next.ensures (c.loop-i.invariant.listed n);
    }
