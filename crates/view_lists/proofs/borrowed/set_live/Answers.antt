use Rattle.std.proofs.Common.{◌≡◌, ◌-◌, List, [], length, subst, sym, ap, ◌∙◌, arith}
use Rattle.std.specs.List.{AllByRecursion}
use Rattle.std.proofs.lemmas.List.{length-map}
use Rattle.graph_model.specs.declared.events.Entity.{Entity}
use Rattle.graph_model.specs.declared.events.Event.{Event}
use Rattle.graph_model.specs.Props.{KeysRise}
use Rattle.graph_model.specs.Entity.{props_of, is_about}
use Rattle.graph_model.specs.World.{IsLawful}
use Rattle.world_laws.proofs.Filters.{each_kept}
use Rattle.world_laws.proofs.Values.{KeysRise-overwrite}
use Rattle.time_history.specs.declared.updates.Update.{Update}
use Rattle.time_history.specs.Kinds.{is_delete}
use Rattle.time_history.specs.Updates.{update_at}
use Rattle.time_history.specs.Telling.{with_key_names, events_told}
use Rattle.graph_store.specs.Contents.{Contents, key_names_for, base_of}
use Rattle.view_trait.specs.Meaning.{Tells}
use Rattle.view_lists.specs.declared.borrowed.Property.{Property}
use Rattle.view_lists.specs.Borrowed.{props_borrowed}
use Rattle.view_lists.specs.Listing.{entity_named}
use Rattle.view_lists.specs.Keyed.{key_count}
use Rattle.view_lists.proofs.LiveProps.{gathered_none, gathered_more, gathered_all, gathered_deleted, gathered_enough}
use Rattle.view_lists.proofs.borrowed.set_live.Goals as goal

-- the properties of the events that a history tells rise
rises : (s : Contents) (x : Entity) (us : List Update) → Tells s x us → IsLawful (base_of s) → AllByRecursion (λ (y : Event). KeysRise (props_of y)) (events_told x (key_names_for s x) us)
rises s x us tells lawful = subst (AllByRecursion (λ (y : Event). KeysRise (props_of y))) (sym tells.told) (each_kept (λ (y : Event). KeysRise (props_of y)) (is_about x) (base_of s).events lawful.rising)

pub loop-i-init : goal.loop-i-init
loop-i-init c =
    let x = entity_named c.args.subject in
    let none : props_borrowed c.clear.new.self.items ≡ [] = ap props_borrowed c.clear.ensures.items in
    record {
      within = omega arith;
      rise = subst KeysRise (sym none) tt;
      values = gathered_none c.args.to (events_told x (key_names_for c.args.store.now x) c.args.history.now.updates) (props_borrowed c.clear.new.self.items) none;
    }

pub loop-i-preserved : goal.loop-i-preserved
loop-i-preserved c =
    let x = entity_named c.args.subject in
    let names = key_names_for c.args.store.now x in
    let us = c.args.history.now.updates in
    let some = c.loop-i-test.true in
    let within = c.loop-i.invariant.within in
    let old = props_borrowed c.loop-i.props.items in
    let new = props_borrowed c.put_earlier.new.props.items in
    let rise = rises c.args.store.now x us c.requires.tells c.events-lawful.ensures.lawful in
    record {
      within = omega (arith, some, within);
      rise = subst KeysRise (sym c.in_ok-put_earlier.ensures) (KeysRise-overwrite (with_key_names names (update_at us (c.loop-i.i - 1)).props) old c.loop-i.invariant.rise);
      values = gathered_more x names us c.args.to c.loop-i.i old c.requires.end rise c.loop-i.invariant.values new c.requires.tells.fits (omega (arith, some)) within (sym (c.if-is_deletion.ensures ∙ ap is_delete c.kind_at.ensures)) c.in_ok-put_earlier.ensures;
    }

pub returns-then-is_deletion-clause-values : goal.returns-then-is_deletion-clause-values
returns-then-is_deletion-clause-values c =
    let x = entity_named c.args.subject in
    let names = key_names_for c.args.store.now x in
    let us = c.args.history.now.updates in
    let some = c.loop-i-test.true in
    let within = c.loop-i.invariant.within in
    let rise = rises c.args.store.now x us c.requires.tells c.events-lawful.ensures.lawful in
    gathered_deleted x names us c.args.to c.loop-i.i (props_borrowed c.loop-i.props.items) c.requires.end rise c.loop-i.invariant.values c.requires.tells.fits (omega (arith, some)) within (sym (c.if-is_deletion.ensures ∙ ap is_delete c.kind_at.ensures))

pub returns-else-len-keys-clause-values : goal.returns-else-len-keys-clause-values
returns-else-len-keys-clause-values c =
    let x = entity_named c.args.subject in
    let names = key_names_for c.args.store.now x in
    let us = c.args.history.now.updates in
    let props = c.loop-i.props.items in
    let count = c.keys_of-keys.ensures in
    let len = c.len.ensures in
    let past = c.if-len-keys.false in
    let pairs : length (props_borrowed props) ≡ length props = length-map props (λ (p : Property). (p.key.now, p.value.now)) in
    let rise = rises c.args.store.now x us c.requires.tells c.events-lawful.ensures.lawful in
    gathered_enough x names us c.args.to c.loop-i.i (props_borrowed props) c.requires.end rise c.loop-i.invariant.values (key_count c.args.store.now x) c.requires.keys (omega (arith, count, len, past, pairs))

pub returns-after-loop-i-clause-values : goal.returns-after-loop-i-clause-values
returns-after-loop-i-clause-values c =
    let x = entity_named c.args.subject in
    let names = key_names_for c.args.store.now x in
    let us = c.args.history.now.updates in
    let past = c.loop-i-test.false in
    let rise = rises c.args.store.now x us c.requires.tells c.events-lawful.ensures.lawful in
    gathered_all x names us c.args.to c.loop-i.i (props_borrowed c.loop-i.props.items) c.requires.end rise c.loop-i.invariant.values (omega (arith, past))
