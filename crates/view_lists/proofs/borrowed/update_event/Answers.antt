use Rattle.std.proofs.Common.{ℕ, ◌<◌, ap, subst, sym, ◌∙◌}
use Rattle.std.specs.List.{All}
use Rattle.std.proofs.lemmas.List.Elements.{All-get_or}
use Rattle.graph_model.specs.declared.properties.Value.{Value}
use Rattle.graph_model.specs.Props.{KeysRise}
use Rattle.time_history.specs.declared.updates.Update.{Update}
use Rattle.time_history.specs.KeyValues.{KeyNumbersRise as NumbersRise}
use Rattle.time_history.specs.Telling.{with_key_names}
use Rattle.time_history.specs.Updates.{no_update}
use Rattle.graph_store.specs.Contents.{key_names_for}
use Rattle.view_lists.specs.Listing.{entity_named}
use Rattle.view_lists.specs.Keyed.{key_count}
use Rattle.view_lists.proofs.BorrowedProps.{named_rise}
use Rattle.view_lists.proofs.borrowed.update_event.Goals as goal

pub returns-clause-rise : goal.returns-clause-rise
returns-clause-rise g c =
    let names = key_names_for c.args.store.now (entity_named c.args.subject) in
    let n = key_count c.args.store.now (entity_named c.args.subject) in
    let us = c.args.history.now.updates in
    let below = All-get_or (λ (u : Update). All (λ (p : ℕ × Value). p.0 < n) u.props) us c.args.i no_update c.requires.place c.requires.keys.below in
    let rise = All-get_or (λ (u : Update). NumbersRise u.props) us c.args.i no_update c.requires.place c.len-rise.ensures.values in
    subst KeysRise (sym (c.in_ok-set_values.ensures ∙ ap (with_key_names names) c.values_at.ensures)) (named_rise names n c.requires.keys.apart _ below rise)
