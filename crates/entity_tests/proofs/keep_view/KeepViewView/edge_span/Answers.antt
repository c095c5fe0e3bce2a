use Rattle.std.proofs.Common.{length, sym, subst, ◌∙◌}
use Rattle.view_trait.specs.Meaning.{StepsWithin, edge_at}
use Rattle.view_trait.proofs.Shown.{Shows-kept, Shows-nothing}
use Rattle.view_trait.proofs.Costs.{StepsWithin-then}
use Rattle.entity_tests.proofs.Searches.{edge_searches_kept}
use Rattle.entity_tests.proofs.keep_view.KeepViewView.edge_span.Goals as goal

pub returns-then-edge_passes_in-clause-shows : goal.returns-then-edge_passes_in-clause-shows
returns-then-edge_passes_in-clause-shows g c =
    let view = c.args.self.now in
    let contents = g.V.View.contents view.inner in
    let w = g.V.View.world view.inner in
    Shows-kept (g.T.EntityTest.passes view.test contents w) contents w (edge_at contents c.args.e.0) c.edge_span-span.result
    (sym c.edge_passes_in.ensures.passes ∙ c.if-edge_passes_in.true) c.edge_span-span.ensures.shows

pub returns-else-edge_passes_in-clause-shows : goal.returns-else-edge_passes_in-clause-shows
returns-else-edge_passes_in-clause-shows g c =
    let view = c.args.self.now in
    let contents = g.V.View.contents view.inner in
    let w = g.V.View.world view.inner in
    Shows-nothing (g.T.EntityTest.passes view.test contents w) contents w (edge_at contents c.args.e.0) c.nothing.result
    (sym c.edge_passes_in.ensures.passes ∙ c.if-edge_passes_in.false) c.nothing.ensures

pub returns-then-edge_passes_in-clause-cost : goal.returns-then-edge_passes_in-clause-cost
returns-then-edge_passes_in-clause-cost g c =
    let view = c.args.self.now in
    let among = length (g.V.View.contents view.inner).accepted in
    subst (λ k. StepsWithin c.args.steps.now c.edge_passes_in.new.steps k among) (sym (edge_searches_kept (g.T.EntityTest.by_ends view.test) (g.V.View.searches view.inner)))
    (StepsWithin-then _ _ _ _ _ _ c.edge_span-span.ensures.cost c.edge_passes_in.ensures.cost)

pub returns-else-edge_passes_in-clause-cost : goal.returns-else-edge_passes_in-clause-cost
returns-else-edge_passes_in-clause-cost g c =
    let view = c.args.self.now in
    let among = length (g.V.View.contents view.inner).accepted in
    subst (λ k. StepsWithin c.args.steps.now c.edge_passes_in.new.steps k among) (sym (edge_searches_kept (g.T.EntityTest.by_ends view.test) (g.V.View.searches view.inner)))
    (StepsWithin-then _ _ _ _ _ _ c.edge_span-span.ensures.cost c.edge_passes_in.ensures.cost)
