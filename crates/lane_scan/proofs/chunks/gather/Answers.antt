use Rattle.std.proofs.Common.{◌≡◌, ◌++◌, ◌<◌, ap, sym, ◌∙◌, [], ◌∷◌, pos, take, get_or, length, append_assoc, append-nil, arith, ℤ, rules, w64}
use mir.Val.{SFits}
use Rattle.std.proofs.lemmas.Int.{to_z-of_z}
use Rattle.lane_scan.specs.declared.hits.Hit.{Hit}
use Rattle.lane_scan.specs.Marks.{marked, rows_of}
use Rattle.lane_scan.proofs.MarkLaws.{marked_none, rows_marked_by, rows_marked_not}
use Rattle.lane_scan.proofs.chunks.gather.Goals as goal
use Rattle.lane_scan.proofs.chunks.gather.Goals.{then-mark-eq1+in_ok-push, else-mark-eq1}

pub returns-then-not-contains : goal.returns-then-not-contains
returns-then-not-contains c =
    let none = marked_none (rows_of c.args.times.now c.args.codes.now c.args.numbers.now) c.args.marks.now (sym c.contains.ensures.value ∙ c.if-not-contains.true) in
    sym (append-nil c.args.rows.now.items) ∙ ap (λ rows. c.args.rows.now.items ++ rows) (sym none)

pub loop-i-preserved : goal.loop-i-preserved
loop-i-preserved c =
    let i = c.loop-i.i in
    let times = c.args.times.now in
    let codes = c.args.codes.now in
    let numbers = c.args.numbers.now in
    let marks = c.args.marks.now in
    let before = c.args.rows.now.items in
    let m : i < length marks = omega arith in
    let t : length marks ≡ length times = c.requires.marks in
    let some = marked (rows_of (take i times) (take i codes) (take i numbers)) (take i marks) in
    elim c.if-mark-eq1.branch [
      | then-mark-eq1+in_ok-push w ↦
          let row : Hit = record { time = get_or times i (pos 0); code = get_or codes i 0; number = get_or numbers i 0 } in
          let fits : SFits w64 (get_or times i (pos 0)) = search rules in
          let row_at : ℤ → Hit = λ t. record { time = t; code = get_or codes i 0; number = get_or numbers i 0 } in
          ap (λ rows. rows.items) w.rows-is ∙ (w.in_ok-push.ensures.items
          ∙ (ap (λ t. c.loop-i.rows.items ++ row_at t ∷ []) (to_z-of_z w64 (get_or times i (pos 0)) fits)
          ∙ (ap (λ rows. rows ++ row ∷ []) c.loop-i.invariant
          ∙ (append_assoc before some (row ∷ [])
          ∙ ap (λ rows. before ++ rows) (sym (rows_marked_by times codes numbers marks i m t c.requires.codes c.requires.numbers w.if-mark-eq1.true))))))
      | else-mark-eq1 w ↦
          ap (λ rows. rows.items) w.rows-is ∙ (c.loop-i.invariant
          ∙ ap (λ rows. before ++ rows) (sym (rows_marked_not times codes numbers marks i m t c.requires.codes c.requires.numbers w.if-mark-eq1.false)))
    ]
