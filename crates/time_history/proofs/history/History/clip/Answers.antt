use Rattle.std.proofs.Common.{arith, rules, IsTrue, ◌≡◌, ℕ, ◌-◌, List, refl, sym, subst, true, false, inr, ◌<ℤ◌, ◌≤ℤ◌, ◌∙◌, w64}
use Rattle.std.proofs.lemmas.Int.{to_z-of_z}
use Rattle.std.proofs.lemmas.Bool.{true≢false}
use Rattle.world_laws.proofs.Times.{not_empty}
use Rattle.graph_model.specs.declared.events.Model.{Model}
use Rattle.graph_model.specs.declared.events.Model.TheVariants.{Event as Instants, Persistent}
use Rattle.time_history.specs.declared.updates.Update.{Update}
use Rattle.time_history.specs.Updates.{update_at}
use Rattle.time_history.specs.Spans.{carries}
use Rattle.time_history.specs.declared.span.Span.{Span}
use Rattle.world_laws.proofs.Digits.{digits-le}
use Rattle.time_history.proofs.Clips.{IsClipped-empty, IsClipped-found, IsCut-found, IsFound, cut_of_taken}
use Rattle.time_history.proofs.history.History.clip.Goals as goal

pub returns-then-is_empty-clause-clipped : goal.returns-then-is_empty-clause-clipped
returns-then-is_empty-clause-clipped g c = IsClipped-empty c.args.model c.args.bounds c.args.cut c.args.self.now.updates c.args.span (record { from = c.args.span.from; to = c.args.span.from; carried = false }) (sym c.if-is_empty.ensures) (refl, refl)

false_is_true : IsTrue false → ⊥
false_is_true h = search rules

pub returns-clause-taken : goal.returns-clause-taken
returns-clause-taken g c =
    let us = c.args.self.now.updates in
    let f = c.first_from-from.ensures in
    let t = c.first_from-to.ensures in
    let lo = to_z-of_z w64 c.lo.result (record { sfits = c.lo.type_inv }) ∙ c.lo.ensures.value in
    let hi = to_z-of_z w64 c.hi.result (record { sfits = c.hi.type_inv }) ∙ c.hi.ensures.value in
    let r : Span = record { from = c.first_from-from.result; to = c.first_from-to.result; carried = c.carries_over-carried.result } in
    let found : IsFound c.args.bounds c.args.cut us c.args.span r = record {
      from = f.from;
      order = t.from;
      to = t.to;
      early = λ k a b. subst (λ m. (update_at us k).time <ℤ m) lo (f.before k a b);
      begun = λ k a b. subst (λ m. m ≤ℤ (update_at us k).time) lo (f.after k a b);
      unended = λ k a b. subst (λ m. (update_at us k).time <ℤ m) hi (t.before k a b);
      late = λ k a b. subst (λ m. m ≤ℤ (update_at us k).time) hi (t.after k a b);
    } in
    let cut = cut_of_taken (λ b. false_is_true (c.if-is_empty-2.ensures.1 b)) c.requires.taken in
    let part = cut_of_taken (λ e. true≢false (sym e ∙ sym c.if-is_empty.ensures)) c.requires.part in
    inr (IsCut-found c.args.model c.args.bounds c.args.cut us c.args.span r c.requires.span cut (not_empty c.args.cut (sym c.if-is_empty.ensures)) part.0 part.1 found c.carries_over-carried.ensures)

pub returns-clause-clipped : goal.returns-clause-clipped
returns-clause-clipped g c =
    let us = c.args.self.now.updates in
    let f = c.first_from-from.ensures in
    let t = c.first_from-to.ensures in
    let lo = to_z-of_z w64 c.lo.result (record { sfits = c.lo.type_inv }) ∙ c.lo.ensures.value in
    let hi = to_z-of_z w64 c.hi.result (record { sfits = c.hi.type_inv }) ∙ c.hi.ensures.value in
    let r : Span = record { from = c.first_from-from.result; to = c.first_from-to.result; carried = c.carries_over-carried.result } in
    let found : IsFound c.args.bounds c.args.cut us c.args.span r = record {
      from = f.from;
      order = t.from;
      to = t.to;
      early = λ k a b. subst (λ m. (update_at us k).time <ℤ m) lo (f.before k a b);
      begun = λ k a b. subst (λ m. m ≤ℤ (update_at us k).time) lo (f.after k a b);
      unended = λ k a b. subst (λ m. (update_at us k).time <ℤ m) hi (t.before k a b);
      late = λ k a b. subst (λ m. m ≤ℤ (update_at us k).time) hi (t.after k a b);
    } in
    let cut = cut_of_taken (λ b. false_is_true (c.if-is_empty-2.ensures.1 b)) c.requires.taken in
    let part = cut_of_taken (λ e. true≢false (sym e ∙ sym c.if-is_empty.ensures)) c.requires.part in
    IsClipped-found c.args.model c.args.bounds c.args.cut us c.args.span r c.requires.span cut (not_empty c.args.cut (sym c.if-is_empty.ensures)) part.0 found c.carries_over-carried.ensures

carries_lasting : (model : Model) (us : List Update) (from : ℕ) → carries model us from ≡ true → carries Persistent us from ≡ true
carries_lasting Instants us from h = absurd (true≢false (sym h))
carries_lasting Persistent us from h = h

pub returns-clause-span : goal.returns-clause-span
returns-clause-span g c = record {
  order = c.first_from-to.ensures.from;
  end = omega (arith, c.first_from-to.ensures.to, c.requires.span.end);
  carried = λ e. carries_lasting c.args.model c.args.self.now.updates c.first_from-from.result (sym c.carries_over-carried.ensures ∙ e);
}

pub returns-clause-cost : goal.returns-clause-cost
returns-clause-cost g c = omega (arith, c.first_from-from.ensures.cost, c.first_from-to.ensures.cost, digits-le (c.args.span.to - c.first_from-from.result) (c.args.span.to - c.args.span.from) (omega (arith, c.first_from-from.ensures.from)))
