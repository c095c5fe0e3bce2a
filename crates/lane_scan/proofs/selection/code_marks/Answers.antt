use Rattle.std.proofs.Common.{slice_index, slice_set, ap, sym, ◌∙◌, arith, inl, inr, length-set}
use Rattle.std.proofs.lemmas.Bool.{cases_eq}
use Rattle.std.proofs.lemmas.List.{get_or-set_same, get_or-set_other}
use Rattle.lane_scan.specs.Marks.{code_mark}
use Rattle.lane_scan.proofs.selection.code_marks.Goals as goal

pub loop-code-preserved : goal.loop-code-preserved
loop-code-preserved c =
    let code = c.loop-code.code in
    let kept = c.loop-code.kept in
    let inv = c.loop-code.invariant in
    record {
      len = length-set kept code c.code_mark.result ∙ inv.len;
      so_far = λ k below. elim (cases_eq k code) [
        | inl same ↦ ap (slice_index (slice_set kept code c.code_mark.result)) same ∙ (get_or-set_same kept code c.code_mark.result 0 (omega (arith, inv.len)) ∙ (c.code_mark.ensures ∙ ap (code_mark c.args.mask) (sym same)))
        | inr other ↦ get_or-set_other kept code k c.code_mark.result 0 other ∙ inv.so_far k (omega (arith, other))
      ];
    }
