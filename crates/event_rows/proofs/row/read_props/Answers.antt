use Rattle.std.proofs.Common.{◌≡◌, ◌<◌, ◌∙◌, ◌+◌, length, drop, sym, rules}
use Rattle.csv.specs.Records.{fields_of}
use Rattle.event_rows.proofs.Texts.{with_properties-step, lacks-all}
use Rattle.graph_model.specs.Said.{props_from}
use Rattle.event_rows.specs.Gathering.{with_properties, on_some, put_field}
use Rattle.event_rows.proofs.Gathering.{with_properties-properties_in}
use Rattle.event_rows.proofs.row.read_props.Goals as goal

pub returns-in-Err-clause-err : goal.returns-in-Err-clause-err
returns-in-Err-clause-err c =
    let fields = fields_of c.args.fields.now in
    let within : c.loop-i.i < length fields = search rules in
    let all : on_some (put_field c.loop-i.props c.text_at.result.now) (λ more. with_properties more (drop (c.loop-i.i + 1) fields)) ≡ props_from c.args.start fields =
    rw c.text_at.ensures (sym (with_properties-step c.loop-i.props fields c.loop-i.i within) ∙ c.loop-i.invariant) in
    lacks-all c.in-Err.refusal (put_field c.loop-i.props c.text_at.result.now) (λ more. with_properties more (drop (c.loop-i.i + 1) fields)) (props_from c.args.start fields) all c.in-Err.ensures.err

pub loop-i-preserved : goal.loop-i-preserved
loop-i-preserved c =
    let fields = fields_of c.args.fields.now in
    let within : c.loop-i.i < length fields = search rules in
    let all : on_some (put_field c.loop-i.props c.text_at.result.now) (λ more. with_properties more (drop (c.loop-i.i + 1) fields)) ≡ props_from c.args.start fields =
    rw c.text_at.ensures (sym (with_properties-step c.loop-i.props fields c.loop-i.i within) ∙ c.loop-i.invariant) in
    rw c.in_default.ensures.ok at all

pub loop-i-init : goal.loop-i-init
loop-i-init c = rw c.new-props.ensures (with_properties-properties_in (drop c.args.start (fields_of c.args.fields.now)))
