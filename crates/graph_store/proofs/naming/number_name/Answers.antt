use Rattle.std.proofs.Common.{◌∙◌, [], Some, sym, ap, arith}
use Rattle.std.specs.Prelude.{position}
use Rattle.graph_model.specs.Names.{same_name}
use Rattle.world_laws.proofs.Order.{same_name-refl}
use Rattle.graph_store.proofs.Readers.{none_found, one_found}
use Rattle.graph_store.proofs.Results.{insert_key-new, insert_key-known}
use Rattle.graph_store.proofs.EdgeNames.{last_place}
use Rattle.graph_store.proofs.JudgeLaws.{count-new}
use Rattle.graph_store.proofs.naming.number_name.Goals as goal

pub returns-in-Some-clause-names : goal.returns-in-Some-clause-names
returns-in-Some-clause-names c = sym (insert_key-known same_name c.args.names.now.names c.args.name (one_found (same_name c.args.name) c.args.names.now.names c.in-Some.number [] (sym c.in-Some.ensures)))

pub add_name-requires-clause-new : goal.add_name-requires-clause-new
add_name-requires-clause-new c = none_found (same_name c.args.name) c.args.names.now.names (sym c.in_default.ensures)

pub add_name-requires-clause-few : goal.add_name-requires-clause-few
add_name-requires-clause-few c =
    let more = count-new c.args.names.now.names c.args.name (none_found (same_name c.args.name) c.args.names.now.names (sym c.in_default.ensures)) in
    let few = c.requires.few in
    omega arith

pub returns-clause-names : goal.returns-clause-names
returns-clause-names c =
    c.add_name.ensures.names ∙ sym (insert_key-new same_name c.args.names.now.names c.args.name (none_found (same_name c.args.name) c.args.names.now.names (sym c.in_default.ensures)))

pub returns-clause-number : goal.returns-clause-number
returns-clause-number c =
    ap (position (same_name c.args.name)) c.add_name.ensures.names
    ∙ (last_place (same_name c.args.name) c.args.names.now.names c.args.name (none_found (same_name c.args.name) c.args.names.now.names (sym c.in_default.ensures)) (same_name-refl c.args.name)
    ∙ ap Some (sym c.add_name.ensures.number))
