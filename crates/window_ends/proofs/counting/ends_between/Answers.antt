use Rattle.std.proofs.Common.{◌≡◌, ◌∙◌, ℤ, length, sym, subst, ap, to_z, of_z, w64, rules, arith}
use Rattle.std.proofs.lemmas.Int.{to_z-of_z}
use mir.Val.{SFits}
use Rattle.graph_model.specs.Windows.{window_count}
use Rattle.window_ends.specs.Ends.{HaveEnds}
use Rattle.window_ends.proofs.Reckoned.{HaveEnds-counted, length-ends_from}
use Rattle.window_ends.proofs.counting.ends_between.Goals as goal

pub all-requires : goal.all-requires
all-requires c =
    let fits : SFits w64 c.args.first = search rules in
    let fits_last : SFits w64 c.args.last = search rules in
    let first = to_z-of_z w64 c.args.first fits in
    let last = to_z-of_z w64 c.args.last fits_last in
    subst (λ (t : ℤ). HaveEnds c.args.each t 0 c.window_count-count.result) (sym first)
    (HaveEnds-counted c.args.each c.args.first c.args.last c.window_count-count.result c.requires.in_range c.requires.begins c.requires.order c.requires.ends (c.window_count-count.ensures ∙ (λ k. window_count c.args.each (first k) (last k))))

pub returns-clause-few : goal.returns-clause-few
returns-clause-few c =
    let counted : length c.all.result ≡ c.window_count-count.result = ap length c.all.ensures ∙ length-ends_from c.args.each (to_z w64 (of_z w64 c.args.first)) 0 c.window_count-count.result in
    omega (arith, counted, c.if-count.false)
