use Rattle.std.proofs.Common.{◌≡◌, ◌∙◌, ◌||◌, [], true, false, sym, subst}
use Rattle.std.specs.Prelude.{is_some}
use Rattle.graph_model.specs.Names.{same_name}
use Rattle.graph_model.specs.World.{names_node, type_of}
use Rattle.graph_store.specs.Contents.{Contents}
use Rattle.graph_store.proofs.Readers.{none_found, one_found}
use Rattle.graph_store.proofs.store.Store.node_of.Goals as goal

pub returns-in-Some-clause-known : goal.returns-in-Some-clause-known
returns-in-Some-clause-known c =
    subst (λ (v : Contents). true ≡ (names_node v.accepted c.args.name.now || is_some (type_of v.types c.args.name.now))) c.self.view_is
    (sym (one_found (same_name c.args.name.now) c.self.inside.nodes.names c.in-Some.node [] (sym c.in-Some.ensures)) ∙ c.self.invariant.contents_are.known_nodes c.args.name.now)

pub returns-in-None-clause-known : goal.returns-in-None-clause-known
returns-in-None-clause-known c =
    subst (λ (v : Contents). false ≡ (names_node v.accepted c.args.name.now || is_some (type_of v.types c.args.name.now))) c.self.view_is
    (sym (none_found (same_name c.args.name.now) c.self.inside.nodes.names (sym c.in-None.ensures)) ∙ c.self.invariant.contents_are.known_nodes c.args.name.now)
