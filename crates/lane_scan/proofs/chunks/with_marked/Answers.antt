use Rattle.std.proofs.Common.{◌++◌, ◌<◌, ap, sym, ◌∙◌, [], ◌∷◌, pos, take, get_or, length, append_assoc, append-nil, arith, rules, w64}
use mir.Val.{SFits}
use Rattle.std.proofs.lemmas.Int.{to_z-of_z}
use Rattle.lane_scan.specs.Rows.{extent_of_times}
use Rattle.lane_scan.specs.Marks.{marked}
use Rattle.lane_scan.proofs.MarkLaws.{marked_none, marked_more_by, marked_more_not}
use Rattle.lane_scan.proofs.chunks.with_marked.Goals as goal
use Rattle.lane_scan.proofs.chunks.with_marked.Goals.{then-mark-eq1, else-mark-eq1}

pub returns-then-not-contains : goal.returns-then-not-contains
returns-then-not-contains c =
    let none = marked_none c.args.times.now c.args.marks.now (sym c.contains.ensures.value ∙ c.if-not-contains.true) in
    λ before is. is ∙ ap extent_of_times (sym (append-nil before) ∙ ap (λ ts. before ++ ts) (sym none))

pub loop-i-preserved : goal.loop-i-preserved
loop-i-preserved c =
    let i = c.loop-i.i in
    let times = c.args.times.now in
    let marks = c.args.marks.now in
    let m : i < length marks = omega arith in
    let t : i < length times = omega arith in
    let some = marked (take i times) (take i marks) in
    elim c.if-mark-eq1.branch [
      | then-mark-eq1 w ↦
          let fits : SFits w64 (get_or times i (pos 0)) = search rules in
          record {
            few = omega (arith, ap (λ e. e.events) w.all-is, w.with_time-all.ensures.events, c.loop-i.invariant.few);
            extent = λ before is. w.all-is ∙ (w.with_time-all.ensures.extent (before ++ some) (c.loop-i.invariant.extent before is)
                ∙ (ap (λ x. extent_of_times (before ++ some ++ x ∷ [])) (to_z-of_z w64 (get_or times i (pos 0)) fits)
                ∙ ap extent_of_times (append_assoc before some (get_or times i (pos 0) ∷ []) ∙ ap (λ ts. before ++ ts) (sym (marked_more_by times marks i (pos 0) t m w.if-mark-eq1.true)))));
          }
      | else-mark-eq1 w ↦ record {
        few = omega (arith, ap (λ e. e.events) w.all-is, c.loop-i.invariant.few);
        extent = λ before is. w.all-is ∙ (c.loop-i.invariant.extent before is ∙ ap (λ ts. extent_of_times (before ++ ts)) (sym (marked_more_not times marks i (pos 0) t m w.if-mark-eq1.false)));
      }
    ]
