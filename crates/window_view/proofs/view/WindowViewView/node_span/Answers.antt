use Rattle.std.proofs.Common.{ℕ, ◌-◌, ℤ, sym, subst, to_z, of_z, w64, rules}
use Rattle.std.proofs.lemmas.Int.{to_z-of_z}
use mir.Val.{SFits}
use Rattle.graph_model.specs.Window.{window}
use Rattle.time_history.specs.Spans.{IsAllowed}
use Rattle.view_trait.specs.Meaning.{Shows, node_at}
use Rattle.view_trait.proofs.Found.{IsFound, node_tells, model_found, span_found, taken_found, span_fits}
use Rattle.view_trait.proofs.Costs.{StepsWithin-more}
use Rattle.window_view.proofs.view.WindowViewView.node_span.Given.{Over}
use Rattle.window_view.proofs.view.WindowViewView.node_span.Goals.{After-model}
use Rattle.window_view.proofs.view.WindowViewView.node_span.Goals as goal

found : (g : Over) (c : After-model g) → IsFound (g.V.View.contents c.args.self.now.inner) (g.V.View.world c.args.self.now.inner) (node_at (g.V.View.contents c.args.self.now.inner) c.args.n.0) c.model.result c.bounds-bounds.result c.node_history-history.result.now.updates c.node_span-span.result
found g c = record {
  shown = g.met.V.View.shown c.args.self.now.inner;
  model_is = model_found c.store-store.result.now (g.V.View.contents c.args.self.now.inner) (g.V.View.world c.args.self.now.inner) c.model.result c.store-store.ensures (g.met.V.View.shown c.args.self.now.inner) c.model.ensures;
  bounds_are = c.bounds-bounds.ensures;
  tells = node_tells c.store-store.result.now (g.V.View.contents c.args.self.now.inner) c.args.n.0 c.node_history-history.result.now.updates c.store-store.ensures c.node_history-history.ensures.told c.node_history-history.ensures.fits;
  shows = c.node_span-span.ensures.shows;
}

pub window_span-requires-clause-span : goal.window_span-requires-clause-span
window_span-requires-clause-span g c = span_found _ _ _ _ _ _ _ (found g (goal.at.window_span-requires-clause-span g c).After-model)

pub window_span-requires-clause-taken : goal.window_span-requires-clause-taken
window_span-requires-clause-taken g c = taken_found _ _ _ _ _ _ _ (found g (goal.at.window_span-requires-clause-taken g c).After-model)

pub window_span-requires-clause-allowed : goal.window_span-requires-clause-allowed
window_span-requires-clause-allowed g c = subst (λ m. IsAllowed m c.node_history-history.result.now.updates) (sym c.model.ensures) c.node_history-history.ensures.allowed

pub returns-clause-shows : goal.returns-clause-shows
returns-clause-shows g c =
    let f = found g (goal.at.returns-clause-shows g c).After-model in
    let contents = g.V.View.contents c.args.self.now.inner in
    let world = g.V.View.world c.args.self.now.inner in
    let from = c.args.self.now.from in
    let to = c.args.self.now.to in
    let fits_from : SFits w64 from = search rules in
    let fits_to : SFits w64 to = search rules in
    subst (λ (t : ℤ). Shows contents (window world t to) (node_at contents c.args.n.0) c.window_span.result) (to_z-of_z w64 from fits_from)
    (subst (λ (t : ℤ). Shows contents (window world (to_z w64 (of_z w64 from)) t) (node_at contents c.args.n.0) c.window_span.result) (to_z-of_z w64 to fits_to)
    (c.window_span.ensures.shows contents world (node_at contents c.args.n.0) f.shown (sym f.model_is) (sym f.bounds_are) f.tells f.shows))

pub returns-clause-cost : goal.returns-clause-cost
returns-clause-cost g c =
    let f = found g (goal.at.returns-clause-cost g c).After-model in
    StepsWithin-more _ c.node_span-span.new.steps _ _ 2 _ (c.node_span-span.result.to - c.node_span-span.result.from) c.node_span-span.ensures.cost c.window_span.ensures.cost (span_fits _ _ _ _ _ _ _ f)
