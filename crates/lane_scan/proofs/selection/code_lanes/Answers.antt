use Rattle.std.proofs.Common.{◌≡◌, ◌+◌, ◌++◌, ◌∷◌, [], map, take, drop, get_or, slice_index, ap, sym, ◌∙◌, arith, length-set}
use Rattle.std.proofs.lemmas.List.{take_more_set, take_all, map-append}
use Rattle.lane_scan.proofs.LaneLaws.{take_more_drop}
use Rattle.lane_scan.proofs.selection.code_lanes.Goals as goal

pub loop-i-preserved : goal.loop-i-preserved
loop-i-preserved c =
    let i = c.loop-i.i in
    let at = c.args.at in
    let lanes = c.loop-i.lanes in
    let codes = c.args.codes.now in
    let table = slice_index c.args.table.now in
    let code = get_or codes (at + i) 0 in
    record {
      len = length-set lanes i (table code) ∙ c.loop-i.invariant.len;
      so_far = take_more_set lanes i (table code) (omega (arith, c.loop-i.invariant.len))
          ∙ (ap (λ xs. xs ++ table code ∷ []) c.loop-i.invariant.so_far
          ∙ (sym (map-append table (take i (drop at codes)) (code ∷ []))
          ∙ ap (map table) (sym (take_more_drop codes at i 0 (omega arith)))));
    }

pub returns : goal.returns
returns c =
    let lanes = c.loop-i.lanes in
    let end : c.loop-i.i ≡ 8 = omega arith in
    sym (take_all c.loop-i.i lanes (omega (arith, c.loop-i.invariant.len)))
    ∙ (c.loop-i.invariant.so_far ∙ ap (λ n. map (slice_index c.args.table.now) (take n (drop c.args.at c.args.codes.now))) end)
