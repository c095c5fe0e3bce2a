use Rattle.std.proofs.Common.{◌≡◌, ◌∙◌, ◌+◌, ◌≤◌, ◌++◌, ◌∷◌, arith, drop, length, map, subst}
use Rattle.graph_model.specs.Answer.{MomentRow, row_fields}
use Rattle.graph_model.specs.RowText.{rows_text}
use Rattle.graph_model.specs.Output.{world_row}
use Rattle.view_answers.specs.Moments.{kind_word, moment_rows}
use Rattle.answer_parts.proofs.Written.{part_written, row_written}
use Rattle.view_answers.proofs.MomentRows.{moments_end, moments_left}
use Rattle.view_answers.proofs.histories.add_moments.Goals as goal

pub loop-i-preserved : goal.loop-i-preserved
loop-i-preserved c =
    let ms = c.args.moments.now in
    let m = c.item.result.now in
    let i = c.loop-i.i in
    row_written (MomentRow i m.time (kind_word m.kind)) (moment_rows i (drop i ms)) (moment_rows (i + 1) (drop (i + 1) ms)) c.loop-i.out c.add_moment.new.out (moments_left ms i m c.item.ensures) c.in_ok-add_moment.ensures
    ∙ c.loop-i.invariant

pub returns : goal.returns
returns c =
    let ms = c.args.moments.now in
    let done : length ms ≤ c.loop-i.i = omega arith in
    subst (λ n. c.loop-i.out ≡ c.args.out.now ++ rows_text (world_row c.args.bounds n ∷ map row_fields (moment_rows 0 ms))) c.len.ensures
    (part_written c.args.out.now c.add_world.new.out c.loop-i.out (world_row c.args.bounds c.len.result) (moment_rows c.loop-i.i (drop c.loop-i.i ms)) (moment_rows 0 ms) c.in_ok-add_world.ensures c.loop-i.invariant (moments_end ms c.loop-i.i done))
