use Rattle.std.proofs.Common.{◌≡◌, ◌+◌, ◌*◌, ◌∙◌, ◌++◌, ap, sym, arith}
use Rattle.command_words.specs.Generator.{edge_fields, generated_file, record_line}
use Rattle.command_words.proofs.Draws.{generated_file-more, generated_file-none, number_at-first, number_at-reached, record_of_draws}
use Rattle.command_words.proofs.generator.generated.Goals as goal

pub loop-i-init : goal.loop-i-init
loop-i-init c = record { made = c.in_ok-file.ensures.items ∙ sym generated_file-none; reached = sym number_at-first }

pub loop-i-preserved : goal.loop-i-preserved
loop-i-preserved c =
    let i = c.loop-i.i in
    let first = number_at-reached (3 * i) (3 * i + 1) _ _ (omega arith) c.loop-i.invariant.reached c.draw-p.ensures.reached in
    let second = number_at-reached (3 * i + 1) (3 * i + 2) _ _ (omega arith) first c.draw-q.ensures.reached in
    let third = number_at-reached (3 * i + 2) (3 * i + 3) _ _ (omega arith) second c.draw-r.ensures.reached in
    let next : 3 * (i + 1) ≡ 3 * i + 3 = omega arith in
    let same = record_of_draws i _ _ _ _ _ _ first second third c.draw-p.ensures.value c.draw-q.ensures.value c.draw-r.ensures.value in
    record {
      made = c.in_ok-add_record.ensures ∙ (ap (λ xs. xs ++ record_line (edge_fields i c.draw-p.result c.draw-q.result c.draw-r.result)) c.loop-i.invariant.made ∙ (ap (λ xs. generated_file i ++ xs) same ∙ sym (generated_file-more i)));
      reached = rw next third;
    }
