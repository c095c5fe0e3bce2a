use Rattle.std.proofs.Common.{◌∙◌, ◌+◌, ◌≤◌, length, rules, arith, subst, sym, w64, to_z, of_z}
use Rattle.std.proofs.lemmas.Int.{to_z-of_z}
use mir.Val.{SFits}
use Rattle.graph_model.specs.Searches.{Searches, searches_with}
use Rattle.graph_model.specs.Searches.ViewKind.{IsWindow}
use Rattle.graph_model.specs.Window.{window}
use Rattle.graph_model.specs.World.{World}
use Rattle.graph_store.specs.Contents.{Contents}
use Rattle.view_trait.specs.Coverage.{Covers, edge_count_on, node_count_on}
use Rattle.query_answers.specs.Asks.{IsPaid}
use Rattle.query_answers.specs.Cost.{event_steps}
use Rattle.query_answers.proofs.QueryBlocks.{AddsRest-more, AddsRest-none}
use Rattle.query_answers.proofs.SweepCosts.{part-swept, swept-model, swept-more}
use Rattle.query_answers.proofs.windows_block.add_swept.Goals as goal

pub loop-ends-preserved : goal.loop-ends-preserved
loop-ends-preserved g c =
    let w = g.V.View.world c.args.view.now in
    let seen = c.window-seen.result in
    let fits_from : SFits w64 c.in-Some.ends.from = search rules in
    let fits_to : SFits w64 c.in-Some.ends.to = search rules in
    let from = c.window-seen.ensures.from ∙ to_z-of_z w64 c.in-Some.ends.from fits_from in
    let to = c.window-seen.ensures.to ∙ to_z-of_z w64 c.in-Some.ends.to fits_to in
    record {
      rest =
          AddsRest-more w (window (g.V.View.world seen.inner.now) seen.from seen.to) c.args.ask.now c.loop-ends.ends-iterator c.next.new.self c.args.windows c.in-Some.ends c.args.out.now c.loop-ends.out c.add_part.new.out
          c.in-Some.ensures.steps.0 (λ k. window (g.V.View.world (c.window-seen.ensures.inner k).now) (from k) (to k)) c.in_ok-add_part.ensures.part c.loop-ends.invariant.rest;
      over = c.move_to.ensures.over (g.V.View.contents c.args.view.now) w c.loop-ends.invariant.over;
      cost = λ swept.
          let contents = g.V.View.contents c.args.view.now in
          let s = g.V.View.searches c.args.view.now in
          let roster = c.roster.result in
          let inner = c.window-seen.ensures.inner in
          let part : World = window w (to_z w64 (of_z w64 c.in-Some.ends.from)) (to_z w64 (of_z w64 c.in-Some.ends.to)) in
          let few = c.in_ok-move_to.ensures.few contents w (g.met.V.View.shown c.args.view.now).lawful (swept-model w.model c.args.ask.now swept) c.loop-ends.invariant.over in
          let nodes = c.roster.ensures.nodes contents in
          let edges = c.roster.ensures.edges contents in
          let on : node_count_on contents roster + edge_count_on contents roster ≤ length part.events = omega (arith, few, nodes, edges) in
          let paid = subst (λ (v : Contents × World × Searches). IsPaid v.0 roster v.1 v.2 c.args.ask.now c.loop-ends.steps c.add_part.new.steps)
          (λ k. (g.V.View.contents (inner k).now, window (g.V.View.world (inner k).now) (c.window-seen.ensures.from k) (c.window-seen.ensures.to k), searches_with (g.V.View.searches (inner k).now) IsWindow)) c.add_part.ensures.cost in
          swept-more w part c.loop-ends.ends-iterator c.next.new.self c.in-Some.ends (event_steps s (length contents.accepted)) c.loop-ends.steps c.add_part.new.steps _
          c.in-Some.ensures.steps.0 (λ k. window w (to_z-of_z w64 c.in-Some.ends.from fits_from k) (to_z-of_z w64 c.in-Some.ends.to fits_to k))
          (part-swept contents roster part s c.args.ask.now (length part.events) c.loop-ends.steps c.add_part.new.steps paid swept on) (c.loop-ends.invariant.cost swept);
    }

pub add_part-requires-clause-covers : goal.add_part-requires-clause-covers
add_part-requires-clause-covers g c =
    let contents = g.V.View.contents c.args.view.now in
    let w = g.V.View.world c.args.view.now in
    let lawful = (g.met.V.View.shown c.args.view.now).lawful in
    let on = c.in_ok-move_to.ensures.covers contents w lawful c.loop-ends.invariant.over in
    let covers = c.roster.ensures.covers contents _ on in
    subst (λ (v : Contents × World). Covers v.0 v.1 c.roster.result)
    (λ k. (g.V.View.contents (sym c.window-seen.ensures.inner k).now, window (g.V.View.world (sym c.window-seen.ensures.inner k).now) (sym c.window-seen.ensures.from k) (sym c.window-seen.ensures.to k))) covers

pub returns-clause-parts : goal.returns-clause-parts
returns-clause-parts g c =
    AddsRest-none (g.V.View.world c.args.view.now) c.args.ask.now c.loop-ends.ends-iterator c.args.windows c.args.out.now c.loop-ends.out
    c.in-None.ensures.steps.0 c.loop-ends.invariant.rest

pub returns-in_err-add_part-clause-cost : goal.returns-in_err-add_part-clause-cost
returns-in_err-add_part-clause-cost g c = λ swept.
    let w = g.V.View.world c.args.view.now in
    let fits_from : SFits w64 c.in-Some.ends.from = search rules in
    let fits_to : SFits w64 c.in-Some.ends.to = search rules in
    let contents = g.V.View.contents c.args.view.now in
    let s = g.V.View.searches c.args.view.now in
    let roster = c.roster.result in
    let inner = c.window-seen.ensures.inner in
    let part : World = window w (to_z w64 (of_z w64 c.in-Some.ends.from)) (to_z w64 (of_z w64 c.in-Some.ends.to)) in
    let few = c.in_ok-move_to.ensures.few contents w (g.met.V.View.shown c.args.view.now).lawful (swept-model w.model c.args.ask.now swept) c.loop-ends.invariant.over in
    let nodes = c.roster.ensures.nodes contents in
    let edges = c.roster.ensures.edges contents in
    let on : node_count_on contents roster + edge_count_on contents roster ≤ length part.events = omega (arith, few, nodes, edges) in
    let paid = subst (λ (v : Contents × World × Searches). IsPaid v.0 roster v.1 v.2 c.args.ask.now c.loop-ends.steps c.add_part.new.steps)
    (λ k. (g.V.View.contents (inner k).now, window (g.V.View.world (inner k).now) (c.window-seen.ensures.from k) (c.window-seen.ensures.to k), searches_with (g.V.View.searches (inner k).now) IsWindow)) c.add_part.ensures.cost in
    let all = swept-more w part c.loop-ends.ends-iterator c.next.new.self c.in-Some.ends (event_steps s (length contents.accepted)) c.loop-ends.steps c.add_part.new.steps _
    c.in-Some.ensures.steps.0 (λ k. window w (to_z-of_z w64 c.in-Some.ends.from fits_from k) (to_z-of_z w64 c.in-Some.ends.to fits_to k))
    (part-swept contents roster part s c.args.ask.now (length part.events) c.loop-ends.steps c.add_part.new.steps paid swept on) (c.loop-ends.invariant.cost swept) in
    omega (arith, all)
