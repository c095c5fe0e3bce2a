use Rattle.std.proofs.Common.{List, map, Some, option_map, ap, sym, ◌∙◌}
use Rattle.serde_json.specs.View.{view}
use Rattle.serde_json.specs.declared.value.Value.{Value}
use Rattle.graph_model.specs.QueryPlaces.{list_of}
use Rattle.query_script.proofs.Items.{list_of-items_view}
use Rattle.query_script.proofs.places.list.Goals as goal

pub returns-in-Some : goal.returns-in-Some
returns-in-Some c =
    ap (λ (xs : List Value). Some (map view xs)) c.as_slice.ensures.value
    ∙ ap Some (sym (list_of-items_view c.in-Some.items.now.items))
    ∙ ap (option_map list_of) c.in-Some.ensures
