use Rattle.std.proofs.Common.{◌++◌, ap, sym, ◌∙◌, [], ◌∷◌, w64}
use Rattle.std.proofs.lemmas.Int.{to_z-of_z}
use Rattle.lane_scan.specs.Marks.{rows_of}
use Rattle.lane_scan.proofs.MarkLaws.{rows_of-append, pushed}
use Rattle.lane_scan.proofs.timeline.Timeline.push.Goals as goal

pub returns-clause-ok : goal.returns-clause-ok
returns-clause-ok c =
    let times = c.self.inside.times.items in
    let codes = c.self.inside.codes.items in
    let numbers = c.self.inside.numbers.items in
    let code = pushed c.push-2.result c.push-2.new.self.items (codes ++ c.args.code ∷ []) codes (sym c.is_err.ensures.value ∙ c.if-is_err.false) c.push-2.ensures.items in
    let number = pushed c.push-3.result c.push-3.new.self.items (numbers ++ c.args.number ∷ []) numbers (sym c.is_err-2.ensures.value ∙ c.if-is_err-2.false) c.push-3.ensures.items in
    ap (λ xs. rows_of xs c.push-2.new.self.items c.push-3.new.self.items) (c.in_ok-push.ensures.items ∙ ap (λ t. times ++ t ∷ []) (to_z-of_z w64 c.args.time c.ranges.time))
    ∙ (ap (λ xs. rows_of (times ++ c.args.time ∷ []) xs c.push-3.new.self.items) code
    ∙ (ap (λ xs. rows_of (times ++ c.args.time ∷ []) (codes ++ c.args.code ∷ []) xs) number
    ∙ (rows_of-append times (c.args.time ∷ []) codes (c.args.code ∷ []) numbers (c.args.number ∷ []) c.self.invariant.codes_len c.self.invariant.numbers_len
    ∙ ap (λ rows. rows ++ record { time = c.args.time; code = c.args.code; number = c.args.number } ∷ []) c.self.view_is)))
