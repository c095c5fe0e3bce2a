use Rattle.std.proofs.Common.{sym, ap, ◌∙◌}
use Rattle.graph_model.specs.World.{World}
use Rattle.stack_view.specs.Below.{below, bounds_with}
use Rattle.stack_view.proofs.Stacked.{below_more, bounds_after, item_in_range}
use Rattle.stack_view.proofs.bounded_spans.bounds_below.Goals as goal

pub bounds_with-bounds-requires : goal.bounds_with-bounds-requires
bounds_with-bounds-requires c = item_in_range c.args.ops.now c.loop-i.i c.item.result.now c.item.ensures c.requires.in_range

pub loop-i-preserved : goal.loop-i-preserved
loop-i-preserved c =
    let contents = c.args.store.now in
    let ops = c.args.ops.now in
    let op = c.item.result.now in
    c.bounds_with-bounds.ensures ∙ (ap (λ b. bounds_with b op) c.loop-i.invariant
    ∙ (sym (bounds_after contents (below contents ops c.loop-i.i) op) ∙ ap (λ (w : World). w.bounds) (sym (below_more contents ops c.loop-i.i op c.item.ensures))))
