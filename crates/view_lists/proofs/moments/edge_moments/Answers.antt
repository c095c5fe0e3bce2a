use Rattle.std.proofs.Common.{◌≡◌, ◌∙◌, ap, subst, rules, to_z, of_z, w64}
use Rattle.std.specs.Prelude.{IfOk}
use Rattle.std.proofs.lemmas.Int.{to_z-of_z}
use Rattle.graph_model.specs.Interval.{Interval}
use Rattle.view_trait.specs.Meaning.{edge_at}
use Rattle.view_trait.proofs.Found.{edge_tells}
use Rattle.view_lists.proofs.Spelled.{shown_moments}
use Rattle.view_lists.proofs.moments.edge_moments.Goals as goal

pub returns : goal.returns
returns g c =
    let contents = g.V.View.contents c.args.view.now in
    let world = g.V.View.world c.args.view.now in
    let us = c.edge_history-history.result.now.updates in
    let tells = edge_tells c.store.result.now contents c.args.e.0 us c.store.ensures c.edge_history-history.ensures.told c.edge_history-history.ensures.fits in
    let lo : to_z w64 (of_z w64 c.lo.result) ≡ world.bounds.lo = to_z-of_z w64 c.lo.result (search rules) ∙ (c.lo.ensures.value ∙ ap (λ (i : Interval). i.lo) c.bounds.ensures) in
    subst (λ ms. IfOk c.moments_of.result (λ moments. moments ≡ ms)) (shown_moments contents world (edge_at contents c.args.e.0) us c.edge_span-span.result (to_z w64 (of_z w64 c.lo.result)) tells c.edge_span-span.ensures.shows lo) c.moments_of.ensures
