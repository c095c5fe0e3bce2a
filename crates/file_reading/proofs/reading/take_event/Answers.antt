use Rattle.std.proofs.Common.{◌≡◌, ◌≤◌, ◌+◌, ◌∷◌, ◌++◌, ◌∙◌, [], length, ap, sym, subst, arith, rules}
use mir.Syntax.{w64}
use mir.Val.{SFits}
use Rattle.std.proofs.lemmas.List.{length-append}
use Rattle.std.proofs.lemmas.Int.{to_z-of_z}
use Rattle.std.proofs.lemmas.Result.{on_ok_weaker}
use Rattle.graph_store.specs.Contents.{Contents}
use Rattle.file_reading.specs.Costs.{paid_steps}
use Rattle.file_reading.specs.Rows.{IsTimeline, row_of, with_row}
use Rattle.file_reading.proofs.Costs.{paid-more}
use Rattle.file_reading.proofs.Timelines.{event_added, on_any}
use Rattle.file_reading.proofs.reading.take_event.Goals as goal

pub returns-in-Ok-clause-paid : goal.returns-in-Ok-clause-paid
returns-in-Ok-clause-paid g c =
    let before = c.args.read.now.store.accepted in
    let size : length (before ++ c.args.event ∷ []) ≡ length before + 1 = length-append before (c.args.event ∷ []) in
    let more : length c.add_row.new.read.store.accepted ≡ length before + 1 = ap (λ (s : Contents). length s.accepted) c.add_row.ensures.store ∙ (ap length c.in-Ok.ensures.events ∙ size) in
    let cost = c.in-Ok.ensures.cost in
    on_any c.add_row.result
    (subst (λ n. c.apply.new.steps + paid_steps (length before) ≤ c.args.steps.now + paid_steps n) (sym more) (omega (arith, cost, paid-more (length before))))

pub returns-in-Ok-clause-rows : goal.returns-in-Ok-clause-rows
returns-in-Ok-clause-rows g c =
    let after = c.apply.new.self in
    let held = event_added c.args.read.now.store after c.args.read.now.timeline c.args.event c.in-Ok.filed c.nodes-indexed.ensures.indexed
    c.in-Ok.ensures.ok c.in-Ok.ensures.events c.in-Ok.ensures.model c.in-Ok.ensures.filed c.requires.rows in
    let fits : SFits w64 c.args.event.time = search rules in
    let same = ap (λ t. with_row after.model c.args.read.now.timeline (row_of after t c.in-Ok.filed)) (to_z-of_z w64 c.args.event.time fits) in
    on_ok_weaker c.add_row.result
    (λ row. subst (λ s. IsTimeline s c.add_row.new.read.timeline) (sym c.add_row.ensures.store) (subst (IsTimeline after) (sym (row ∙ same)) held))
    c.add_row.ensures.row
