use Rattle.std.proofs.Common.{◌∷◌, ◌++◌, [], cond, sym, ap}
use Rattle.graph_model.specs.Names.{same_name}
use Rattle.graph_store.specs.Histories.{updates_in}
use Rattle.graph_store.proofs.Readers.{one_found}
use Rattle.graph_store.proofs.naming.number_node.Goals as goal
use Rattle.graph_store.proofs.Results.{insert_key-known}

pub returns-in-Some-clause-names : goal.returns-in-Some-clause-names
returns-in-Some-clause-names c = sym (insert_key-known same_name c.args.nodes.now.names c.args.name (one_found (same_name c.args.name) c.args.nodes.now.names c.in-Some.number [] (sym c.in-Some.ensures)))

pub returns-in-Some-clause-filed : goal.returns-in-Some-clause-filed
returns-in-Some-clause-filed c =
    let before = updates_in c.args.histories.now.items in
    sym (ap (λ t. cond t before (before ++ [] ∷ [])) (one_found (same_name c.args.name) c.args.nodes.now.names c.in-Some.number [] (sym c.in-Some.ensures)))
