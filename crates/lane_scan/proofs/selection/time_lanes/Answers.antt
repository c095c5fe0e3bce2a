use Rattle.std.proofs.Common.{◌≡◌, ◌+◌, ◌<◌, ◌++◌, ◌∷◌, [], List, map, ℤ, pos, length, take, drop, set, get_or, w64, ap, sym, ◌∙◌, subst, arith, rules, to_z, of_z, length-set}
use mir.Val.{SFits}
use lib.Lanes.{Each1}
use Rattle.std.proofs.lemmas.Int.{to_z-of_z}
use Rattle.std.proofs.lemmas.List.{take_more_set, take_all}
use Rattle.lane_scan.specs.Marks.{time_mark}
use Rattle.lane_scan.proofs.LaneLaws.{masks_fit, times_marked, Each1-more, take_more_drop}
use Rattle.lane_scan.proofs.selection.time_lanes.Goals as goal

pub loop-i-preserved : goal.loop-i-preserved
loop-i-preserved c =
    let i = c.loop-i.i in
    let at = c.args.at in
    let chunk = c.loop-i.chunk in
    let times = c.args.times.now in
    let t = get_or times (at + i) (pos 0) in
    let fit : SFits w64 t = search rules in
    let same : to_z w64 (of_z w64 t) ≡ t = to_z-of_z w64 t fit in
    let room : i < length chunk = omega (arith, c.loop-i.invariant.len) in
    let more : take (i + 1) (set chunk i (to_z w64 (of_z w64 t))) ≡ take i chunk ++ t ∷ [] = take_more_set chunk i (to_z w64 (of_z w64 t)) room ∙ ap (λ x. take i chunk ++ x ∷ []) same in
    record {
      len = length-set chunk i (to_z w64 (of_z w64 t)) ∙ c.loop-i.invariant.len;
      so_far = more ∙ (ap (λ xs. xs ++ t ∷ []) c.loop-i.invariant.so_far ∙ sym (take_more_drop times at i (pos 0) (omega arith)));
      fits = subst (Each1 (SFits w64)) (sym more) (Each1-more (SFits w64) (take i chunk) t c.loop-i.invariant.fits fit);
    }

pub overflow_cast-result : goal.overflow_cast-result
overflow_cast-result c = masks_fit _ _

pub returns : goal.returns
returns c =
    let chunk = c.loop-i.chunk in
    let end : c.loop-i.i ≡ 8 = omega arith in
    let whole : take c.loop-i.i chunk ≡ chunk = take_all c.loop-i.i chunk (omega (arith, c.loop-i.invariant.len)) in
    let fits : Each1 (SFits w64) chunk = subst (Each1 (SFits w64)) whole c.loop-i.invariant.fits in
    let is : chunk ≡ take 8 (drop c.args.at c.args.times.now) = sym whole ∙ (c.loop-i.invariant.so_far ∙ ap (λ n. take n (drop c.args.at c.args.times.now)) end) in
    times_marked c.args.lo c.args.hi 8 chunk c.loop-i.invariant.len c.ranges.lo c.ranges.hi fits ∙ ap (λ (ts : List ℤ). map (time_mark c.args.lo c.args.hi) ts) is
