use Rattle.std.proofs.Common.{◌≡◌, ◌∙◌, ◌≤◌, false, length, sym, subst, arith}
use Rattle.std.specs.Prelude.{Result, Ok, Err, is_err, OnOk}
use Rattle.file_reading.specs.Rows.{HasRows}
use Rattle.file_reading.proofs.Mirroring.{mirrored}
use Rattle.file_reading.proofs.reading.read_events.Goals as goal

-- what holds of a value, where there is no error
no_error : {A E P : Type 0} (r : Result A E) → is_err r ≡ false → OnOk r P → P
no_error (Ok x) e h = h
no_error (Err x) e h = cc

pub returns-clause-mirrors : goal.returns-clause-mirrors
returns-clause-mirrors g c = λ is.
    let read = c.take_all-taken.new.read in
    let rows = no_error c.take_all-taken.result (sym c.is_err.ensures.value ∙ c.if-is_err.false) c.take_all-taken.ensures.rows in
    let model = c.take_all-taken.ensures.model ∙ (c.new.ensures.model ∙ is) in
    let len = c.layers-few.ensures.len in
    let least = c.layers-few.ensures.few in
    let few : length read.store.layers ≤ 64 = omega arith in
    mirrored read.store c.nodes-indexed.ensures.indexed few read.timeline (subst (λ m. HasRows m read.store read.timeline) model rows)
