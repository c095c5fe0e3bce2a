use Rattle.std.proofs.Common.{◌≡◌, ◌∙◌, ap, subst, rules, to_z, of_z, w64}
use Rattle.std.specs.Prelude.{IfOk}
use Rattle.std.proofs.lemmas.Int.{to_z-of_z}
use Rattle.graph_model.specs.Interval.{Interval}
use Rattle.view_trait.specs.Meaning.{node_at}
use Rattle.view_trait.proofs.Found.{node_tells}
use Rattle.view_lists.proofs.Spelled.{shown_moments}
use Rattle.view_lists.proofs.moments.node_moments.Goals as goal

pub returns : goal.returns
returns g c =
    let contents = g.V.View.contents c.args.view.now in
    let world = g.V.View.world c.args.view.now in
    let us = c.node_history-history.result.now.updates in
    let tells = node_tells c.store.result.now contents c.args.n.0 us c.store.ensures c.node_history-history.ensures.told c.node_history-history.ensures.fits in
    let lo : to_z w64 (of_z w64 c.lo.result) ≡ world.bounds.lo = to_z-of_z w64 c.lo.result (search rules) ∙ (c.lo.ensures.value ∙ ap (λ (i : Interval). i.lo) c.bounds.ensures) in
    subst (λ ms. IfOk c.moments_of.result (λ moments. moments ≡ ms)) (shown_moments contents world (node_at contents c.args.n.0) us c.node_span-span.result (to_z w64 (of_z w64 c.lo.result)) tells c.node_span-span.ensures.shows lo) c.moments_of.ensures
