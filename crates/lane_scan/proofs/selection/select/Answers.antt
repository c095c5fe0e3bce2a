use Rattle.std.proofs.Common.{◌≡◌, ◌≤◌, ◌-◌, ◌+◌, ◌++◌, ap, ap₂, sym, subst, ◌∙◌, pos, ◌<◌, length, arith, [], ◌∷◌, take, drop, to_z, of_z, w64, get_or, rules, slice_index, bit_and}
use mir.Val.{SFits}
use lib.Lanes.{zip2, Each1, chunk}
use Rattle.std.proofs.lemmas.Int.{to_z-of_z}
use Rattle.std.proofs.lemmas.List.{take_more_set}
use Rattle.std.proofs.lemmas.Simd.{Each1-from_get_or, length-chunk, get_or-chunk, take_more_put_chunk}
use Rattle.lane_scan.specs.Marks.{mark, marks, code_mark}
use Rattle.lane_scan.proofs.MarkLaws.{length-marks, marks_more, marks_chunk}
use Rattle.lane_scan.proofs.LaneLaws.{lanes_marked}
use Rattle.lane_scan.proofs.selection.select.Goals as goal

pub loop-at-preserved : goal.loop-at-preserved
loop-at-preserved c =
    let at = c.loop-at.at in
    let out = c.loop-at.out in
    let inv = c.loop-at.invariant in
    let times = c.args.times.now in
    let codes = c.args.codes.now in
    let mask = c.args.mask in
    let lo = to_z w64 (of_z w64 c.args.lo) in
    let hi = to_z w64 (of_z w64 c.args.hi) in
    let table = c.code_marks-table.result in
    let room : at + 8 ≤ length times = omega arith in
    let codes_room : at + 8 ≤ length codes = omega arith in
    let ts = chunk at 8 times in
    let cs = chunk at 8 codes in
    let ts_len : length ts ≡ 8 = length-chunk at 8 times room in
    let cs_len : length cs ≡ 8 = length-chunk at 8 codes codes_room in
    let same : length cs ≡ length ts = omega arith in
    let known : Each1 (λ x. slice_index table x ≡ code_mark mask x) cs = Each1-from_get_or (λ x. slice_index table x ≡ code_mark mask x) cs 0 (λ i within.
    let below : i < 8 = omega arith in
    let there : at + i < length codes = omega arith in
    subst (λ x. slice_index table x ≡ code_mark mask x) (sym (get_or-chunk at 8 codes i 0 below)) (c.code_marks-table.ensures (get_or codes (at + i) 0) (c.requires.small (at + i) 0 there))) in
    let new = ap₂ (zip2 bit_and) c.time_lanes.ensures c.code_lanes.ensures ∙ lanes_marked lo hi mask table ts cs same known in
    let long : length (zip2 bit_and c.time_lanes.result c.code_lanes.result) ≡ 8 = ap length new ∙ (length-marks lo hi mask ts cs same ∙ ts_len) in
    let eight : at + 8 - at ≡ 8 = omega arith in
    record {
      within = room;
      so_far = take_more_put_chunk at out (zip2 bit_and c.time_lanes.result c.code_lanes.result) (at + 8) (omega arith) (omega arith)
          ∙ (ap₂ (λ xs ys. xs ++ ys) inv.so_far new
          ∙ sym (marks_chunk lo hi mask times codes at (at + 8) (omega arith) (omega arith)
          ∙ ap (λ n. marks lo hi mask (take at times) (take at codes) ++ marks lo hi mask (take n (drop at times)) (take n (drop at codes))) eight));
    }

pub loop-i-preserved : goal.loop-i-preserved
loop-i-preserved c =
    let i = c.loop-i.i in
    let times = c.args.times.now in
    let codes = c.args.codes.now in
    let lo = to_z w64 (of_z w64 c.args.lo) in
    let hi = to_z w64 (of_z w64 c.args.hi) in
    let room : i < length c.loop-i.out = omega arith in
    let t : i < length times = omega arith in
    let n : i < length codes = omega arith in
    let fits : SFits w64 (get_or times i (pos 0)) = search rules in
    take_more_set c.loop-i.out i c.mark.result room
    ∙ (ap (λ ms. ms ++ c.mark.result ∷ []) c.loop-i.invariant
    ∙ (ap (λ m. marks lo hi c.args.mask (take i times) (take i codes) ++ m ∷ []) c.mark.ensures
    ∙ (ap (λ x. marks lo hi c.args.mask (take i times) (take i codes) ++ mark lo hi c.args.mask x (get_or codes i 0) ∷ []) (to_z-of_z w64 (get_or times i (pos 0)) fits)
    ∙ sym (marks_more lo hi c.args.mask times codes i (pos 0) t n))))
