use Rattle.std.proofs.Common.{◌∙◌, ◌∷◌, ◌++◌, [], cond, length, sym, ap, subst, arith}
use Rattle.std.specs.List.{list_any}
use Rattle.graph_model.specs.Names.{same_name}
use Rattle.std.proofs.lemmas.List.Quantifiers.{position-Some}
use Rattle.world_laws.proofs.Digits.{digits-le}
use Rattle.graph_store.specs.Histories.{updates_in}
use Rattle.graph_store.specs.Telling.{updates_of_number}
use Rattle.graph_store.specs.FiledAs.{IsNumberOf}
use Rattle.graph_store.proofs.Readers.{none_found, one_found}
use Rattle.graph_store.proofs.Results.{insert_key-new}
use Rattle.graph_store.proofs.FiledNumbers.{node_found, last_node}
use Rattle.graph_store.proofs.JudgeLaws.{count-new}
use Rattle.graph_store.proofs.filing.file_node.Goals as goal

pub file_update-requires-clause-kinds : goal.file_update-requires-clause-kinds
file_update-requires-clause-kinds g c =
    let lt = (position-Some (same_name c.args.name) c.args.nodes.now.names c.in-Some.node [] (sym c.in-Some.ensures)).0 in
    let lengths = c.requires.lengths in
    (c.requires.next c.in-Some.node (omega arith)).sort

pub returns-in-Some-clause-names : goal.returns-in-Some-clause-names
returns-in-Some-clause-names g c =
    sym (ap (λ t. cond t c.args.nodes.now.names (c.args.nodes.now.names ++ c.args.name ∷ [])) (one_found (same_name c.args.name) c.args.nodes.now.names c.in-Some.node [] (sym c.in-Some.ensures)))

pub returns-in-Some-clause-number : goal.returns-in-Some-clause-number
returns-in-Some-clause-number g c = node_found c.args.nodes.now.names c.args.name c.in-Some.node (sym c.in-Some.ensures)

pub returns-in-Some-clause-cost : goal.returns-in-Some-clause-cost
returns-in-Some-clause-cost g c =
    let lt = (position-Some (same_name c.args.name) c.args.nodes.now.names c.in-Some.node [] (sym c.in-Some.ensures)).0 in
    let lengths = c.requires.lengths in
    let few = (c.requires.next c.in-Some.node (omega arith)).few in
    let cost = c.in_ok-file_update.ensures.cost in
    omega (arith, digits-le (length (updates_of_number (updates_in c.args.histories.now.items) c.in-Some.node)) c.args.update.arrival few)

pub returns-in_err-file_update-clause-cost : goal.returns-in_err-file_update-clause-cost
returns-in_err-file_update-clause-cost g c =
    let lt = (position-Some (same_name c.args.name) c.args.nodes.now.names c.in-Some.node [] (sym c.in-Some.ensures)).0 in
    let lengths = c.requires.lengths in
    let few = (c.requires.next c.in-Some.node (omega arith)).few in
    let cost = c.in_err-file_update.ensures.cost in
    omega (arith, digits-le (length (updates_of_number (updates_in c.args.histories.now.items) c.in-Some.node)) c.args.update.arrival few)

pub add_name-node-requires-clause-new : goal.add_name-node-requires-clause-new
add_name-node-requires-clause-new g c =
    ap (list_any (same_name c.args.name)) c.reserve_nodes.ensures.names ∙ none_found (same_name c.args.name) c.args.nodes.now.names (sym c.in_default.ensures)

pub add_name-node-requires-clause-few : goal.add_name-node-requires-clause-few
add_name-node-requires-clause-few g c =
    let absent = none_found (same_name c.args.name) c.args.nodes.now.names (sym c.in_default.ensures) in
    let few = c.requires.few in
    let more = count-new c.args.nodes.now.names c.args.name absent in
    let names = ap length c.reserve_nodes.ensures.names in
    let limit = c.reserve_nodes.ensures.limit in
    omega arith

pub returns-clause-names : goal.returns-clause-names
returns-clause-names g c =
    let absent = none_found (same_name c.args.name) c.args.nodes.now.names (sym c.in_default.ensures) in
    c.add_name-node.ensures.names ∙ (ap (λ ns. ns ++ c.args.name ∷ []) c.reserve_nodes.ensures.names ∙ sym (insert_key-new same_name c.args.nodes.now.names c.args.name absent))

pub returns-clause-number : goal.returns-clause-number
returns-clause-number g c =
    let names = c.add_name-node.ensures.names ∙ ap (λ ns. ns ++ c.args.name ∷ []) c.reserve_nodes.ensures.names in
    let number = c.add_name-node.ensures.number ∙ ap length c.reserve_nodes.ensures.names in
    subst (λ ns. IsNumberOf ns c.args.name c.add_name-node.result) (sym names) (subst (IsNumberOf (c.args.nodes.now.names ++ c.args.name ∷ []) c.args.name) (sym number) (last_node c.args.nodes.now.names c.args.name))
