use Rattle.std.proofs.Common.{◌∷◌, ◌++◌, ◌<◌, [], length, sym, ◌∙◌, ap, arith, take}
use Rattle.view_trait.proofs.Selected.{take_push}
use Rattle.view_trait.proofs.ready_ops.ReadyOps.copy.Goals as goal

pub loop-i-preserved : goal.loop-i-preserved
loop-i-preserved c =
    let given = c.args.self.now in
    let i = c.loop-i.i in
    let lt : i < length given = omega (arith, c.loop-i-test.true, c.len-i-end.ensures) in
    c.in_ok-push.ensures.ok
    ∙ (ap (λ ops. ops ++ c.in_ok-copy.field-0 ∷ []) c.loop-i.invariant
    ∙ (ap (λ op. take i given ++ op ∷ []) c.in_ok-copy.ensures ∙ sym (take_push given i c.item.result.now lt c.item.ensures)))
