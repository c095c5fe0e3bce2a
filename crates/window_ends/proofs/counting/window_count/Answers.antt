use Rattle.std.proofs.Common.{◌≡◌, ◌+◌, ◌/◌, ap, ◌∙◌, to_z, of_z, w64, rules, ◌-ℤ◌}
use Rattle.std.specs.Prelude.{unsigned_abs}
use Rattle.std.proofs.lemmas.Int.{to_z-of_z}
use mir.Val.{SFits}
use Rattle.graph_model.specs.Windows.{step_of}
use Rattle.window_ends.proofs.counting.window_count.Goals as goal

pub returns : goal.returns
returns c =
    let first_fits : SFits w64 c.args.first = search rules in
    let last_fits : SFits w64 c.args.last = search rules in
    let fits : SFits w64 (c.args.last -ℤ c.args.first) = search rules in
    let step_fits : SFits w64 c.step_of.result = search rules in
    let first = to_z-of_z w64 c.args.first first_fits in
    let last = to_z-of_z w64 c.args.last last_fits in
    let difference : to_z w64 (of_z w64 (to_z w64 (of_z w64 c.args.last) -ℤ to_z w64 (of_z w64 c.args.first))) ≡ c.args.last -ℤ c.args.first = (λ k. to_z w64 (of_z w64 (last k -ℤ first k))) ∙ to_z-of_z w64 _ fits in
    let span : c.unsigned_abs.result ≡ unsigned_abs (c.args.last -ℤ c.args.first) = c.unsigned_abs.ensures.value ∙ ap unsigned_abs difference in
    let step : c.unsigned_abs-2.result ≡ unsigned_abs (step_of c.args.each) = c.unsigned_abs-2.ensures.value ∙ (ap unsigned_abs (to_z-of_z w64 _ step_fits) ∙ ap unsigned_abs c.step_of.ensures.value) in
    (λ k. span k / step k + 1)
