use Rattle.std.proofs.Common.{◌≡◌, ◌∙◌, ap}
use Rattle.fused_view.specs.Fused.{Fused}
use Rattle.query_answers.proofs.QueryBlocks.{asked-in_range}
use Rattle.query_answers.proofs.QueryCosts.{seen-steps}
use Rattle.query_answers.proofs.SweepCosts.{seen-windows}
use Rattle.query_answers.proofs.query_block.add_seen_block.Goals as goal

pub returns-clause-cost : goal.returns-clause-cost
returns-clause-cost g c =
    let view = c.new-view.result in
    seen-steps c.args.store.now view.store.now c.in_ok-ops.ops view.ops.now.given c.args.query.now c.args.steps.now c.add_block.new.steps
    c.new-view.ensures.store (ap (λ (f : Fused). f.given) c.new-view.ensures.ops ∙ c.in_ok-fused.ensures.given) c.in_ok-ops.ensures.kinds view.shown c.add_block.ensures.cost

pub add_block-requires-clause-asked : goal.add_block-requires-clause-asked
add_block-requires-clause-asked g c = asked-in_range c.args.query.now c.requires

pub returns-clause-windows_cost : goal.returns-clause-windows_cost
returns-clause-windows_cost g c =
    let view = c.new-view.result in
    seen-windows c.args.store.now view.store.now c.in_ok-ops.ops view.ops.now.given c.args.query.now c.args.steps.now c.add_block.new.steps
    c.new-view.ensures.store (ap (λ (f : Fused). f.given) c.new-view.ensures.ops ∙ c.in_ok-fused.ensures.given) c.in_ok-ops.ensures.kinds view.shown c.in_ok-ops.ensures.base c.add_block.ensures.windows_cost
