use Rattle.std.proofs.Common.{◌++◌, map}
use Rattle.csv.specs.Records.{fields_of}
use Rattle.graph_model.specs.Record.{prop_text}
use Rattle.event_rows.proofs.Texts.{drop-prop, fields-more}
use Rattle.event_rows.proofs.row_text.add_props.Goals as goal

pub loop-i-preserved : goal.loop-i-preserved
loop-i-preserved c =
    let next = drop-prop c.args.props.now c.loop-i.i c.key_at.result.now c.value_at.result.now c.key_at.ensures c.value_at.ensures in (
      fields-more (fields_of c.loop-i.row) (fields_of c.add_property.new.row) (fields_of c.args.row.now ++ map prop_text c.args.props.now) c.args.props.now c.loop-i.i (c.key_at.result.now, c.value_at.result.now) next
          c.in_ok-add_property.ensures.fields c.loop-i.invariant.0,
      c.in_ok-add_property.ensures.whole,
    )
