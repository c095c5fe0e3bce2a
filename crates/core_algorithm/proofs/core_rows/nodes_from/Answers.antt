use Rattle.std.proofs.Common.{◌<◌, ◌∙◌, ap, arith, length}
use Rattle.core_algorithm.proofs.CoreRows.{one_kept, one_left_out}
use Rattle.core_algorithm.proofs.core_rows.nodes_from.Goals.{then-k-core+in_ok-push, else-k-core}
use Rattle.core_algorithm.proofs.core_rows.nodes_from.Goals as goal

pub loop-i-preserved : goal.loop-i-preserved
loop-i-preserved c =
    let below : c.loop-i.i < length c.args.cores.now = (let lt = c.loop-i-test.true in let long = c.len-i-end.ensures in omega (arith, lt, long)) in
    record {
      nodes = elim c.if-k-core.branch [
        | then-k-core+in_ok-push w ↦ one_kept c.args.k c.args.cores.now c.loop-i.i c.item-core.result.now below c.item-core.ensures c.loop-i.nodes.items c.if-k-core.nodes.items c.loop-i.invariant.nodes w.if-k-core.true (ap (λ v. v.items) w.nodes-is ∙ w.in_ok-push.ensures.items)
        | else-k-core w ↦ one_left_out c.args.k c.args.cores.now c.loop-i.i c.item-core.result.now below c.item-core.ensures c.loop-i.nodes.items c.if-k-core.nodes.items c.loop-i.invariant.nodes w.if-k-core.false (ap (λ v. v.items) w.nodes-is)
      ];
    }
