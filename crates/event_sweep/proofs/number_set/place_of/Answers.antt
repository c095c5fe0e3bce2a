use Rattle.std.proofs.Common.{◌∙◌, arith}
use Rattle.std.proofs.lemmas.Grind.{get_or_default_zero}
use Rattle.std.proofs.lemmas.Bool.Decides.{nat_tests}
use Rattle.event_sweep.proofs.Places.{missing_past, missing_there}
use Rattle.event_sweep.proofs.number_set.place_of.Goals as goal
use Rattle.event_sweep.proofs.number_set.place_of.Goals.{else-place-numbers-via-then-place-numbers+else-numbers-place, else-place-numbers-via-else-place-numbers}

pub returns-in_err-place-clause-none : goal.returns-in_err-place-clause-none
returns-in_err-place-clause-none c = λ none.
    missing_past c.args.numbers.now c.args.places.now c.args.n c.requires (let past = c.in_err-place.ensures.lookup.0 in grind (arith, nat_tests))

pub returns-else-place-numbers-clause-none : goal.returns-else-place-numbers-clause-none
returns-else-place-numbers-clause-none c = λ none.
    missing_there c.args.numbers.now c.args.places.now c.args.n c.in_ok-place.field-0.now c.requires (let h = c.in_ok-place.ensures.lookup.0 in c.in_ok-place.ensures.lookup.1 ∙ get_or_default_zero c.args.places.now c.args.n c.in_ok-place.field-0.now (grind (arith, nat_tests)))
    (λ within is. elim c.else-place-numbers.branch [
      | else-place-numbers-via-then-place-numbers+else-numbers-place w ↦ w.if-numbers-place.false is
      | else-place-numbers-via-else-place-numbers w ↦ (let past = w.if-place-numbers.false in omega (arith, past, within))
    ])
