use Rattle.std.proofs.Common.{◌≤◌, length, rules}
use Rattle.property_values.proofs.Texts.{not-long, words_of-short}
use Rattle.property_values.proofs.property_fields.text_value.Goals as goal

pub returns-in-Ok-clause-value : goal.returns-in-Ok-clause-value
returns-in-Ok-clause-value c =
    let short : length c.args.text.now ≤ 4096 = not-long (length c.args.text.now) (λ h. cc (c.in-Ok.ensures.long.1 h)) in
    rw (words_of-short c.args.text.now c.utf8.text short) (search rules)

pub returns-in-Ok-clause-form : goal.returns-in-Ok-clause-form
returns-in-Ok-clause-form c =
    let short : length c.args.text.now ≤ 4096 = not-long (length c.args.text.now) (λ h. cc (c.in-Ok.ensures.long.1 h)) in
    rw (words_of-short c.args.text.now c.utf8.text short) (search rules)

pub returns-in-Err-Memory-clause-form : goal.returns-in-Err-Memory-clause-form
returns-in-Err-Memory-clause-form c =
    let short : length c.args.text.now ≤ 4096 = not-long (length c.args.text.now) (λ h. cc (c.in-Err-Memory.ensures.long.1 h)) in
    rw (words_of-short c.args.text.now c.utf8.text short) (search rules)
