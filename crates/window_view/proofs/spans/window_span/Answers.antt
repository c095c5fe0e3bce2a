use Rattle.std.proofs.Common.{◌≡◌, ℤ, ◌∙◌, sym, ap, subst, to_z, of_z, w64, rules}
use Rattle.std.proofs.lemmas.Int.{to_z-of_z}
use mir.Val.{SFits}
use Rattle.graph_model.specs.Interval.{Interval, cut}
use Rattle.time_history.specs.Spans.{IsEmptyOrInside}
use Rattle.view_trait.proofs.Shown.{IsEmptyOrInside-cut, Shows-clipped}
use Rattle.window_view.proofs.spans.window_span.Given.{Over}
use Rattle.window_view.proofs.spans.window_span.Goals.{After-cut}
use Rattle.window_view.proofs.spans.window_span.Goals as goal

-- the bounds that the call cuts
cut_is : (g : Over) (c : After-cut g) → c.cut.result ≡ cut c.args.bounds c.args.from c.args.to
cut_is g c =
    let fits_from : SFits w64 c.args.from = search rules in
    let fits_to : SFits w64 c.args.to = search rules in
    c.cut.ensures ∙ (ap (λ t. cut c.args.bounds t (to_z w64 (of_z w64 c.args.to))) (to_z-of_z w64 c.args.from fits_from) ∙ ap (λ t. cut c.args.bounds c.args.from t) (to_z-of_z w64 c.args.to fits_to))

pub clip-requires-clause-part : goal.clip-requires-clause-part
clip-requires-clause-part g c = subst (IsEmptyOrInside c.args.bounds) (sym c.cut.ensures) (IsEmptyOrInside-cut c.args.bounds _ _)

pub returns-clause-shows : goal.returns-clause-shows
returns-clause-shows g c = λ contents w x shown model bounds tells shows.
    Shows-clipped contents w c.args.from c.args.to x c.args.history.now.updates c.args.span c.clip.result c.args.model c.args.bounds c.cut.result shown model bounds (cut_is g (goal.at.returns-clause-shows g c).After-cut) tells shows c.clip.ensures.span c.clip.ensures.taken c.clip.ensures.clipped
