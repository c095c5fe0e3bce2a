use Rattle.std.proofs.Common.{◌-◌, ◌<◌, length, arith}
use Rattle.graph_store.specs.Contents.{key_names_for}
use Rattle.view_lists.specs.Borrowed.{props_borrowed}
use Rattle.view_lists.specs.Listing.{entity_named}
use Rattle.view_lists.specs.Keyed.{key_count}
use Rattle.view_lists.proofs.LiveProps.{named_more, key_below}
use Rattle.view_lists.proofs.borrowed.set_values.Goals as goal

pub key_of-key-requires : goal.key_of-key-requires
key_of-key-requires c =
    let some = c.loop-i-test.true in
    let within = c.loop-i.invariant.within in
    let lt : c.loop-i.i - 1 < length c.args.values.now = omega (arith, some, within) in
    key_below c.args.values.now (c.loop-i.i - 1) c.key_at.result (key_count c.args.store.now (entity_named c.args.subject)) c.requires lt c.key_at.ensures

pub loop-i-preserved : goal.loop-i-preserved
loop-i-preserved c =
    let some = c.loop-i-test.true in
    let within = c.loop-i.invariant.within in
    let names = key_names_for c.args.store.now (entity_named c.args.subject) in
    record {
      within = omega (arith, some, within);
      props = named_more names c.args.values.now c.loop-i.i (props_borrowed c.loop-i.props.items) (props_borrowed c.put_value.new.props.items) c.key_at.result c.value_at.result.now c.key_of-key.result.now some within c.key_at.ensures c.value_at.ensures c.key_of-key.ensures c.loop-i.invariant.props c.in_ok-put_value.ensures;
    }
