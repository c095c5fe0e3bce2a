use Rattle.std.proofs.Common.{◌∙◌, rules, w64}
use Rattle.std.proofs.lemmas.Int.{to_z-of_z}
use mir.Val.{SFits}
use Rattle.graph_model.specs.Window.{window}
use Rattle.view_trait.proofs.Covered.{Covers-whole}
use Rattle.query_answers.proofs.QueryBlocks.{AddsRest-more, AddsRest-none}
use Rattle.query_answers.proofs.windows_block.add_each.Goals as goal

pub loop-ends-preserved : goal.loop-ends-preserved
loop-ends-preserved g c =
    let w = g.V.View.world c.args.view.now in
    let seen = c.window-seen.result in
    let fits_from : SFits w64 c.in-Some.ends.from = search rules in
    let fits_to : SFits w64 c.in-Some.ends.to = search rules in
    let from = c.window-seen.ensures.from ∙ to_z-of_z w64 c.in-Some.ends.from fits_from in
    let to = c.window-seen.ensures.to ∙ to_z-of_z w64 c.in-Some.ends.to fits_to in
    AddsRest-more w (window (g.V.View.world seen.inner.now) seen.from seen.to) c.args.ask.now c.loop-ends.ends-iterator c.next.new.self c.args.windows c.in-Some.ends c.args.out.now c.loop-ends.out c.add_part.new.out
    c.in-Some.ensures.steps.0 (λ k. window (g.V.View.world (c.window-seen.ensures.inner k).now) (from k) (to k)) c.in_ok-add_part.ensures.part c.loop-ends.invariant

pub add_part-requires-clause-covers : goal.add_part-requires-clause-covers
add_part-requires-clause-covers g c = Covers-whole _ _

pub returns : goal.returns
returns g c =
    AddsRest-none (g.V.View.world c.args.view.now) c.args.ask.now c.loop-ends.ends-iterator c.args.windows c.args.out.now c.loop-ends.out
    c.in-None.ensures.steps.0 c.loop-ends.invariant
