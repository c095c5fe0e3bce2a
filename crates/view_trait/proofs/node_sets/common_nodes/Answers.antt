use Rattle.std.proofs.Common.{◌<◌, length, sym, ◌∙◌, ap, arith}
use Rattle.view_trait.specs.Numbered.{is_listed}
use Rattle.view_trait.proofs.NodeSets.{common_more, common_same}
use Rattle.view_trait.proofs.node_sets.common_nodes.Goals.{then-contains+in_ok-push, else-contains}
use Rattle.view_trait.proofs.node_sets.common_nodes.Goals as goal

pub loop-i-preserved : goal.loop-i-preserved
loop-i-preserved c n =
    let first = c.args.first.now in
    let second = c.args.second.now in
    let i = c.loop-i.i in
    let p = c.item-n.result.0 in
    let lt : i < length first = omega (arith, c.loop-i-test.true, c.len-i-end.ensures.len) in
    elim c.if-contains.branch [
      | then-contains+in_ok-push w ↦
          ap (λ xs. is_listed xs n) (w.nodes-is ∙ w.in_ok-push.ensures.ok) ∙ common_more first second c.loop-i.nodes i p n lt c.item-n.ensures (sym c.contains.ensures ∙ w.if-contains.true) (c.loop-i.invariant n)
      | else-contains w ↦ ap (λ xs. is_listed xs n) w.nodes-is ∙ common_same first second c.loop-i.nodes i p n lt c.item-n.ensures (sym c.contains.ensures ∙ w.if-contains.false) (c.loop-i.invariant n)
    ]
