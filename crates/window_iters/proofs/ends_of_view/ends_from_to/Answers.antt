use Rattle.std.proofs.Common.{◌≤ℤ◌, Some, refl, sym, ap, ◌∙◌, w64, rules, arith, subst}
use Rattle.std.proofs.lemmas.Int.{ints, to_z-of_z}
use mir.Val.{SFits}
use Rattle.graph_model.specs.Interval.{Interval, latest}
use Rattle.window_iters.proofs.Spanned.{spanned, ends_windows, ends_counted}
use Rattle.window_iters.proofs.ends_of_view.ends_from_to.Goals as goal

pub ends_between-requires-clause-order : goal.ends_between-requires-clause-order
ends_between-requires-clause-order g c =
    let fits_first : SFits w64 c.in-Some-Some.first = search rules in
    let fits_last : SFits w64 c.in-Some-Some.last = search rules in
    (spanned (g.V.View.world c.args.view.now) c.args.each (g.V.View.world c.args.view.now).events _ _ (g.met.V.View.shown c.args.view.now).lawful refl
    (sym c.requires.first ∙ c.in-Some-Some.is-0 ∙ ap Some (sym (to_z-of_z w64 c.in-Some-Some.first fits_first))) (sym c.requires.last ∙ c.in-Some-Some.is-1 ∙ ap Some (sym (to_z-of_z w64 c.in-Some-Some.last fits_last)))).order

pub ends_between-requires-clause-ends : goal.ends_between-requires-clause-ends
ends_between-requires-clause-ends g c =
    let fits_first : SFits w64 c.in-Some-Some.first = search rules in
    let fits_last : SFits w64 c.in-Some-Some.last = search rules in
    let s = spanned (g.V.View.world c.args.view.now) c.args.each (g.V.View.world c.args.view.now).events _ _ (g.met.V.View.shown c.args.view.now).lawful refl
    (sym c.requires.first ∙ c.in-Some-Some.is-0 ∙ ap Some (sym (to_z-of_z w64 c.in-Some-Some.first fits_first))) (sym c.requires.last ∙ c.in-Some-Some.is-1 ∙ ap Some (sym (to_z-of_z w64 c.in-Some-Some.last fits_last))) in
    let below = s.ends in
    let high = subst (λ (i : Interval). i.hi ≤ℤ latest) c.bounds-bounds.ensures c.hi-hi.ensures.high in
    omega (arith, ints, below, high)

pub returns-in-Some-Some-clause-windows : goal.returns-in-Some-Some-clause-windows
returns-in-Some-Some-clause-windows g c =
    let fits_first : SFits w64 c.in-Some-Some.first = search rules in
    let fits_last : SFits w64 c.in-Some-Some.last = search rules in
    ends_windows (g.V.View.world c.args.view.now) c.args.each _ _ c.ends_between.result
    (spanned (g.V.View.world c.args.view.now) c.args.each (g.V.View.world c.args.view.now).events _ _ (g.met.V.View.shown c.args.view.now).lawful refl
    (sym c.requires.first ∙ c.in-Some-Some.is-0 ∙ ap Some (sym (to_z-of_z w64 c.in-Some-Some.first fits_first))) (sym c.requires.last ∙ c.in-Some-Some.is-1 ∙ ap Some (sym (to_z-of_z w64 c.in-Some-Some.last fits_last)))) c.ends_between.ensures.ends

pub returns-in-Some-Some-clause-count : goal.returns-in-Some-Some-clause-count
returns-in-Some-Some-clause-count g c =
    let fits_first : SFits w64 c.in-Some-Some.first = search rules in
    let fits_last : SFits w64 c.in-Some-Some.last = search rules in
    ends_counted (g.V.View.world c.args.view.now) c.args.each _ _ c.ends_between.result
    (spanned (g.V.View.world c.args.view.now) c.args.each (g.V.View.world c.args.view.now).events _ _ (g.met.V.View.shown c.args.view.now).lawful refl
    (sym c.requires.first ∙ c.in-Some-Some.is-0 ∙ ap Some (sym (to_z-of_z w64 c.in-Some-Some.first fits_first))) (sym c.requires.last ∙ c.in-Some-Some.is-1 ∙ ap Some (sym (to_z-of_z w64 c.in-Some-Some.last fits_last)))) c.ends_between.ensures.count
