use Rattle.std.proofs.Common.{◌≡◌, ◌-◌, refl, sym, subst, arith, length}
use Rattle.graph_model.specs.World.{events_of}
use Rattle.graph_store.specs.Contents.{base_of}
use Rattle.view_trait.specs.Meaning.{StepsWithin, node_at}
use Rattle.view_trait.proofs.Found.{IsFound, node_tells, taken_found, span_fits}
use Rattle.view_trait.proofs.Costs.{StepsWithin-more}
use Rattle.stack_view.specs.Below.{below, searches_below, own_searches}
use Rattle.stack_view.specs.Stands.{StandsFor}
use Rattle.stack_view.proofs.Stacked.{below_more, IsShown-below, item_in_range, node_searches_more}
use Rattle.stack_view.proofs.Stood.{StandsFor-whole, part_found}
use Rattle.stack_view.proofs.nodes.node_span_below.Given.{Over}
use Rattle.stack_view.proofs.nodes.node_span_below.Goals.{After-passes_node-keeps}
use Rattle.stack_view.proofs.nodes.node_span_below.Goals as goal

found : (g : Over) (c : After-passes_node-keeps g) → IsFound c.args.store.now (below c.args.store.now c.args.ops.now c.loop-i.i) (node_at c.args.store.now c.args.n.0) c.model-model.result c.loop-i.part.bounds c.node_history-history.result.now.updates c.loop-i.part.span
found g c =
    let contents = c.args.store.now in
    let us = c.node_history-history.result.now.updates in
    part_found contents (below contents c.args.ops.now c.loop-i.i) (node_at contents c.args.n.0) c.model-model.result us c.loop-i.part (IsShown-below contents c.args.ops.now c.loop-i.i c.requires.shown) c.model-model.ensures
    (node_tells contents contents c.args.n.0 us refl c.node_history-history.ensures.told c.node_history-history.ensures.fits) c.loop-i.invariant.stands

pub passes_node-keeps-requires-clause-span : goal.passes_node-keeps-requires-clause-span
passes_node-keeps-requires-clause-span g c = c.loop-i.invariant.stands.shows.span

pub loop-i-init : goal.loop-i-init
loop-i-init g c =
    let contents = c.args.store.now in
    let us = c.node_history-history.result.now.updates in
    record {
      stands = StandsFor-whole contents (node_at contents c.args.n.0) us c.whole.result c.bounds.result (node_tells contents contents c.args.n.0 us refl c.node_history-history.ensures.told c.node_history-history.ensures.fits) c.whole.ensures c.node_history-history.ensures.whole c.bounds.ensures;
      cost = omega arith;
    }

pub span_with-part-requires-clause-in_range : goal.span_with-part-requires-clause-in_range
span_with-part-requires-clause-in_range g c = item_in_range c.args.ops.now c.loop-i.i c.item-op.result.now c.item-op.ensures c.requires.in_range

pub span_with-part-requires-clause-taken : goal.span_with-part-requires-clause-taken
span_with-part-requires-clause-taken g c = taken_found _ _ _ _ _ _ _ (found g (goal.at.span_with-part-requires-clause-taken g c).After-passes_node-keeps)

pub loop-i-preserved : goal.loop-i-preserved
loop-i-preserved g c =
    let f = found g (goal.at.loop-i-preserved g c).After-passes_node-keeps in
    let contents = c.args.store.now in
    let ops = c.args.ops.now in
    let i = c.loop-i.i in
    let op = c.item-op.result.now in
    let w = below contents ops i in
    let x = node_at contents c.args.n.0 in
    let among = length (events_of (base_of contents) x) in
    record {
      stands =
          subst (λ v. StandsFor contents v x c.span_with-part.result) (sym (below_more contents ops i op c.item-op.ensures))
          (c.span_with-part.ensures.stands contents w x f.shown (sym f.model_is) f.tells (c.passes_node-keeps.ensures w f.shows) c.loop-i.invariant.stands);
      cost =
          subst (λ k. StepsWithin c.args.steps.now c.span_with-part.new.steps k among) (sym (node_searches_more ops i op c.item-op.ensures))
          (StepsWithin-more c.args.steps.now c.loop-i.steps c.span_with-part.new.steps (searches_below ops i).nodes (own_searches op) among (c.loop-i.part.span.to - c.loop-i.part.span.from) c.loop-i.invariant.cost c.span_with-part.ensures.cost (span_fits _ _ _ _ _ _ _ f));
    }

pub returns-clause-stands : goal.returns-clause-stands
returns-clause-stands g c =
    let contents = c.args.store.now in
    let all : c.loop-i.i ≡ c.args.count = omega (arith, c.loop-i-test.false, c.loop-i.auto.i-end) in
    subst (λ k. StandsFor contents (below contents c.args.ops.now k) (node_at contents c.args.n.0) c.loop-i.part) all c.loop-i.invariant.stands
