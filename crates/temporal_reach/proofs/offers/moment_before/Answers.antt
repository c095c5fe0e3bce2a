use Rattle.std.proofs.Common.{◌≡◌, ◌≤ℤ◌, ◌<ℤ◌, ◌-ℤ◌, pos, refl, sym, ap, subst, ◌∙◌, to_z, of_z, w64, FitsSigned}
use Rattle.std.proofs.lemmas.Int.{to_z-of_z}
use Rattle.graph_model.specs.Interval.{earliest}
use Rattle.world_laws.proofs.Times.{ge_from_test}
use Rattle.temporal_reach.proofs.Inside.{contact_from, from_low, low_fits}
use Rattle.temporal_reach.proofs.offers.moment_before.Goals as goal

pub returns-else-start-lo : goal.returns-else-start-lo
returns-else-start-lo g c = λ edge t contact.
    let world = g.V.View.world c.args.view.now in
    let lo = c.lo-lo.result in
    let from : lo ≤ℤ t = subst (λ z. z ≤ℤ t) (sym c.lo-lo.ensures.value) (contact_from world edge t c.bounds.result (g.met.V.View.shown c.args.view.now).lawful c.bounds.ensures contact) in
    let plain : to_z w64 (of_z w64 lo) ≡ lo = to_z-of_z w64 lo (record { sfits = c.lo-lo.type_inv }) in
    let le : c.args.start ≤ℤ lo = subst (λ z. z ≤ℤ lo) (to_z-of_z w64 c.args.start c.ranges.start) (subst (λ z. to_z w64 (of_z w64 c.args.start) ≤ℤ z) plain (ge_from_test (to_z w64 (of_z w64 lo)) (to_z w64 (of_z w64 c.args.start)) c.if-start-lo.false)) in
    let low = c.lo-lo.ensures.low in
    let value = c.lo-lo.ensures.value in
    let fits : FitsSigned w64 (lo -ℤ pos 1) = low_fits lo (lo -ℤ pos 1) refl (subst (λ z. earliest ≤ℤ z) (sym value) low) (record { sfits = c.lo-lo.type_inv }) in
    let is : to_z w64 (of_z w64 (to_z w64 (of_z w64 lo) -ℤ pos 1)) ≡ lo -ℤ pos 1 = ap (λ z. to_z w64 (of_z w64 (z -ℤ pos 1))) plain ∙ to_z-of_z w64 (lo -ℤ pos 1) fits in
    subst (λ z. (z <ℤ t → c.args.start ≤ℤ t) × (c.args.start ≤ℤ t → z <ℤ t)) (sym is) (from_low c.args.start lo t le from)
