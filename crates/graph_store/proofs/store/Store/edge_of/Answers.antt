use Rattle.std.proofs.Common.{◌≡◌, ◌∙◌, [], true, false, sym, subst}
use Rattle.std.specs.List.{list_any}
use Rattle.graph_model.specs.declared.events.Entity.TheVariants.{Node, Edge}
use Rattle.graph_model.specs.Entity.{same_entity, is_about}
use Rattle.graph_store.specs.Contents.{Contents, edge_entities}
use Rattle.graph_store.proofs.Readers.{none_found, one_found}
use Rattle.graph_store.proofs.store.Store.edge_of.Goals as goal

pub returns-in-Some-clause-known : goal.returns-in-Some-clause-known
returns-in-Some-clause-known c =
    subst (λ (v : Contents). true ≡ list_any (is_about (Edge c.args.name.now)) v.accepted) c.self.view_is
    (sym (one_found (same_entity (Edge c.args.name.now)) (edge_entities c.self.inside.nodes.names c.self.inside.layers.names c.self.inside.links.edges) c.in-Some.edge (Node []) (sym c.in-Some.ensures)) ∙ c.self.invariant.contents_are.known_edges c.args.name.now)

pub returns-in-None-clause-known : goal.returns-in-None-clause-known
returns-in-None-clause-known c =
    subst (λ (v : Contents). false ≡ list_any (is_about (Edge c.args.name.now)) v.accepted) c.self.view_is
    (sym (none_found (same_entity (Edge c.args.name.now)) (edge_entities c.self.inside.nodes.names c.self.inside.layers.names c.self.inside.links.edges) (sym c.in-None.ensures)) ∙ c.self.invariant.contents_are.known_edges c.args.name.now)
