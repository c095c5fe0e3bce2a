use Rattle.std.proofs.Common.{◌≡◌, ◌≤◌, ◌+◌, ◌-◌, ◌*◌, ℤ, Some, refl, sym, subst, ap, ◌∙◌, to_z, of_z, w64, rules}
use Rattle.std.proofs.lemmas.Int.{to_z-of_z}
use mir.Val.{SFits}
use Rattle.graph_model.specs.Interval.{cut}
use Rattle.graph_model.specs.Searches.{digits}
use Rattle.graph_model.specs.Window.{window}
use Rattle.view_trait.specs.Meaning.{Shows}
use Rattle.view_trait.specs.declared.ready_ops.ReadyOp.{ReadyOp}
use Rattle.view_trait.specs.declared.ready_ops.ReadyOp.TheVariants.{Window}
use Rattle.entity_tests.specs.Ready.{keeps_entity}
use Rattle.stack_view.specs.Below.{moments_of, own_searches}
use Rattle.stack_view.specs.Stands.{StandsFor}
use Rattle.stack_view.proofs.Stacked.{is_window, is_keep}
use Rattle.stack_view.proofs.bounded_spans.span_with.Goals as goal

pub returns-in-Some-clause-stands : goal.returns-in-Some-clause-stands
returns-in-Some-clause-stands g c = λ contents w x shown model tells keeps stands.
    let from = c.in-Some.from in
    let to = c.in-Some.to in
    let fits_from : SFits w64 from = search rules in
    let fits_to : SFits w64 to = search rules in
    let same_from = to_z-of_z w64 from fits_from in
    let same_to = to_z-of_z w64 to fits_to in
    let is : moments_of c.args.op.now ≡ Some (from, to) = (cc) in
    subst (λ v. StandsFor contents v x (record { span = c.window_span.result; bounds = c.cut.result })) (sym (is_window contents w c.args.op.now from to is)) (record {
      shows =
          subst (λ (t : ℤ). Shows contents (window w t to) x c.window_span.result) same_from
          (subst (λ (t : ℤ). Shows contents (window w (to_z w64 (of_z w64 from)) t) x c.window_span.result) same_to
          (c.window_span.ensures.shows contents w x shown model (sym stands.bounds) tells stands.shows));
      bounds =
          c.cut.ensures ∙ (ap (λ t. cut c.args.part.bounds t (to_z w64 (of_z w64 to))) same_from ∙ (ap (λ t. cut c.args.part.bounds from t) same_to ∙ ap (λ i. cut i from to) stands.bounds));
    })

pub returns-in-None-clause-stands : goal.returns-in-None-clause-stands
returns-in-None-clause-stands g c = λ contents w x shown model tells keeps stands.
    subst (λ v. StandsFor contents v x c.kept.result) (sym (is_keep contents w c.args.op.now (sym c.in-None.ensures)))
    (c.kept.ensures (keeps_entity contents w c.args.op.now) contents w x keeps stands)

window_searches : (op : ReadyOp) (ends : ℤ × ℤ) → moments_of op ≡ Some ends → own_searches op ≡ 2
window_searches (Window a b) ends h = refl
window_searches _ ends h = cc

pub returns-in-Some-clause-cost : goal.returns-in-Some-clause-cost
returns-in-Some-clause-cost g c =
    let is : moments_of c.args.op.now ≡ Some (c.in-Some.from, c.in-Some.to) = (cc) in
    subst (λ n. c.window_span.new.steps ≤ c.args.steps.now + n * digits (c.args.part.span.to - c.args.part.span.from)) (sym (window_searches c.args.op.now (c.in-Some.from, c.in-Some.to) is)) c.window_span.ensures.cost
