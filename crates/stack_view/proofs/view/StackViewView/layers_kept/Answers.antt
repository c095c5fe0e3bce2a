use Rattle.std.proofs.Common.{◌≡◌, length, sym, subst, arith}
use Rattle.std.specs.Prelude.{bit_and}
use Rattle.graph_store.specs.Contents.{base_of}
use Rattle.view_trait.specs.Meaning.{HasLayers}
use Rattle.view_trait.proofs.Whole.{HasLayers-all}
use Rattle.stack_view.specs.Below.{below}
use Rattle.stack_view.proofs.Stacked.{IsShown-below, HasLayers-after, below_more, below_all}
use Rattle.stack_view.proofs.view.StackViewView.layers_kept.Goals as goal

pub loop-i-init : goal.loop-i-init
loop-i-init c = HasLayers-all c.args.self.now.store.now (base_of c.args.self.now.store.now) c.args.self.now.shown

pub loop-i-preserved : goal.loop-i-preserved
loop-i-preserved c =
    let contents = c.args.self.now.store.now in
    let ops = c.args.self.now.ops.now in
    let op = c.item.result.now in
    let w = below contents ops c.loop-i.i in
    subst (λ v. HasLayers contents v (bit_and c.loop-i.kept c.layers-kept.result)) (sym (below_more contents ops c.loop-i.i op c.item.ensures))
    (HasLayers-after contents w op c.loop-i.kept c.layers-kept.result (IsShown-below contents ops c.loop-i.i c.args.self.now.shown) c.loop-i.invariant c.layers-kept.ensures)

pub returns : goal.returns
returns c =
    let contents = c.args.self.now.store.now in
    let all : c.loop-i.i ≡ length c.args.self.now.ops.now = omega (arith, c.len-i-end.ensures, c.loop-i-test.false, c.loop-i.auto.i-end) in
    subst (λ w. HasLayers contents w c.loop-i.kept) (below_all contents c.args.self.now.ops.now c.loop-i.i all) c.loop-i.invariant
