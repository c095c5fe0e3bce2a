use Rattle.std.proofs.Common.{◌-◌, ◌∙◌, ap, arith}
use Rattle.std.specs.Prelude.{slice_index}
use Rattle.event_sweep.proofs.Places.{others_left}
use Rattle.event_sweep.proofs.number_set.take_away.Goals as goal

pub returns-then-place-len-clause-others : goal.returns-then-place-len-clause-others
returns-then-place-len-clause-others c =
    let e = c.swap_remove.ensures in
    let before = c.args.numbers.now.ok in
    let after = c.swap_remove.new.self.ok in
    let shorter = e.len in
    others_left c.args.numbers.now.items c.args.places.now.items c.swap_remove.new.self.items c.args.place c.swap_remove.result c.requires.placed c.requires.place e.value e.items
    (record {
      long = omega (arith, before, after, shorter);
      there = λ more. e.by_index.0 0 (omega (arith, before, more)) ∙ ap (λ n. slice_index c.args.numbers.now.items (n - 1)) before.0;
      others = λ k other more. e.by_index.1 k 0 other (omega (arith, before, more));
    })

pub returns-else-place-len-clause-others : goal.returns-else-place-len-clause-others
returns-else-place-len-clause-others c =
    let e = c.swap_remove.ensures in
    let before = c.args.numbers.now.ok in
    let after = c.swap_remove.new.self.ok in
    let shorter = e.len in
    others_left c.args.numbers.now.items c.args.places.now.items c.swap_remove.new.self.items c.args.place c.swap_remove.result c.requires.placed c.requires.place e.value e.items
    (record {
      long = omega (arith, before, after, shorter);
      there = λ more. e.by_index.0 0 (omega (arith, before, more)) ∙ ap (λ n. slice_index c.args.numbers.now.items (n - 1)) before.0;
      others = λ k other more. e.by_index.1 k 0 other (omega (arith, before, more));
    })
