use Rattle.std.proofs.Common.{◌≡◌, ◌∙◌, ◌<◌, List, length, map, take, sym, ap, subst, arith}
use Rattle.std.specs.Prelude.{Some, slice_get}
use Rattle.graph_model.specs.Searches.{searches}
use Rattle.view_trait.specs.declared.ready_ops.ReadyOp.{ReadyOp}
use Rattle.view_trait.specs.Ready.{ready_kind}
use Rattle.fused_view.specs.Counts.{counted}
use Rattle.fused_view.proofs.Counting.{searches_push}
use Rattle.fused_view.proofs.view.FusedView.searches.Goals as goal

pub loop-i-preserved : goal.loop-i-preserved
loop-i-preserved c =
    let ops = c.args.self.now.ops.now.merged in
    let i = c.loop-i.i in
    let op = c.item.result.now in
    let same : c.merged-ops.result.now ≡ ops = c.merged-ops.ensures.value in
    let count = ap length same in
    let test = c.loop-i-test.true in
    let lt : i < length ops = omega (arith, test, c.len-i-end.ensures, count) in
    let at : slice_get ops i ≡ Some op = subst (λ (l : List ReadyOp). slice_get l i ≡ Some op) same c.item.ensures in
    c.with-all.ensures (searches (map ready_kind (take i ops))) c.loop-i.invariant ∙ sym (ap counted (searches_push ops i op lt at))
