use Rattle.std.proofs.Common.{◌≡◌, ◌<◌, ◌∙◌, true, false, length, sym, rules}
use Rattle.std.specs.Str.{is_utf8}
use Rattle.csv.specs.Records.{fields_of}
use Rattle.event_rows.proofs.Texts.{texts-step, texts-stop}
use Rattle.graph_model.specs.Said.{field_of}
use Rattle.event_rows.proofs.fields.all_text.Goals as goal

pub returns-then-not-is_text : goal.returns-then-not-is_text
returns-then-not-is_text c =
    let fields = fields_of c.args.fields.now in
    let within : c.loop-i.i < length fields = search rules in
    let other : is_utf8 (field_of fields c.loop-i.i) ≡ false = search rules in
    sym (texts-stop fields c.loop-i.i within other) ∙ c.loop-i.invariant

pub loop-i-preserved : goal.loop-i-preserved
loop-i-preserved c =
    let fields = fields_of c.args.fields.now in
    let within : c.loop-i.i < length fields = search rules in
    let text : is_utf8 (field_of fields c.loop-i.i) ≡ true = search rules in
    sym (texts-step fields c.loop-i.i within text) ∙ c.loop-i.invariant
