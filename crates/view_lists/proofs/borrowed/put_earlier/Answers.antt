use Rattle.std.proofs.Common.{ℕ, ◌≡◌, ◌-◌, ◌<◌, length, drop, subst, sym, ap, ◌∙◌, arith}
use Rattle.std.specs.List.{All}
use Rattle.std.proofs.lemmas.List.Elements.{All-get_or}
use Rattle.graph_model.specs.declared.properties.Value.{Value}
use Rattle.graph_model.specs.Props.{overwrite}
use Rattle.time_history.specs.declared.updates.Update.{Update}
use Rattle.time_history.specs.Telling.{with_key_names}
use Rattle.time_history.specs.Updates.{no_update}
use Rattle.graph_store.specs.Contents.{key_names_for}
use Rattle.view_lists.specs.Borrowed.{props_borrowed}
use Rattle.view_lists.specs.Listing.{entity_named}
use Rattle.view_lists.specs.Keyed.{key_count}
use Rattle.view_lists.proofs.LiveProps.{key_below}
use Rattle.view_lists.proofs.BorrowedProps.{earlier_more}
use Rattle.view_lists.proofs.borrowed.put_earlier.Goals as goal

pub key_of-key-requires : goal.key_of-key-requires
key_of-key-requires c =
    let n = key_count c.args.store.now (entity_named c.args.subject) in
    let us = c.args.history.now.updates in
    let some = c.loop-j-test.true in
    let within = c.loop-j.invariant.within in
    let vs = c.values_at-values.result.now in
    let lt : c.loop-j.j - 1 < length vs = omega (arith, some, within) in
    let below = subst (All (λ (p : ℕ × Value). p.0 < n)) (sym c.values_at-values.ensures) (All-get_or (λ (u : Update). All (λ (p : ℕ × Value). p.0 < n) u.props) us c.args.i no_update c.requires.place c.requires.keys.below) in
    key_below vs (c.loop-j.j - 1) c.key_at.result n below lt c.key_at.ensures

pub loop-j-preserved : goal.loop-j-preserved
loop-j-preserved c =
    let names = key_names_for c.args.store.now (entity_named c.args.subject) in
    let n = key_count c.args.store.now (entity_named c.args.subject) in
    let us = c.args.history.now.updates in
    let some = c.loop-j-test.true in
    let within = c.loop-j.invariant.within in
    let vs = c.values_at-values.result.now in
    let below = subst (All (λ (p : ℕ × Value). p.0 < n)) (sym c.values_at-values.ensures) (All-get_or (λ (u : Update). All (λ (p : ℕ × Value). p.0 < n) u.props) us c.args.i no_update c.requires.place c.requires.keys.below) in
    record {
      within = omega (arith, some, within);
      props = earlier_more names n c.requires.keys.apart vs c.loop-j.j (props_borrowed c.args.props.now.items) (props_borrowed c.loop-j.props.items) (props_borrowed c.put_missing.new.props.items) c.key_at.result c.value_at.result.now c.key_of-key.result.now below c.len-j.ensures.rise c.requires.rise some within c.key_at.ensures c.value_at.ensures c.key_of-key.ensures c.loop-j.invariant.props c.in_ok-put_missing.ensures;
    }

pub returns : goal.returns
returns c =
    let names = key_names_for c.args.store.now (entity_named c.args.subject) in
    let past = c.loop-j-test.false in
    let vs = c.values_at-values.result.now in
    let start : c.loop-j.j ≡ 0 = omega (arith, past) in
    c.loop-j.invariant.props ∙ ap (λ ps. overwrite (with_key_names names ps) (props_borrowed c.args.props.now.items)) (ap (λ j. drop j vs) start ∙ c.values_at-values.ensures)
