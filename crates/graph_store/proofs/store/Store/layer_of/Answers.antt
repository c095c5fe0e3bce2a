use Rattle.std.proofs.Common.{◌≡◌, ◌∙◌, [], true, false, sym, subst}
use Rattle.std.specs.List.{list_any}
use Rattle.graph_model.specs.Names.{same_name}
use Rattle.graph_model.specs.Accepting.{layer_names}
use Rattle.graph_store.specs.Contents.{Contents}
use Rattle.graph_store.proofs.Readers.{none_found, one_found}
use Rattle.graph_store.proofs.store.Store.layer_of.Goals as goal

pub returns-in-Some-clause-known : goal.returns-in-Some-clause-known
returns-in-Some-clause-known c =
    subst (λ (v : Contents). true ≡ list_any (same_name c.args.name.now) (layer_names v.accepted)) c.self.view_is
    (sym (one_found (same_name c.args.name.now) c.self.inside.layers.names c.in-Some.layer [] (sym c.in-Some.ensures)) ∙ c.self.invariant.contents_are.known_layers c.args.name.now)

pub returns-in-None-clause-known : goal.returns-in-None-clause-known
returns-in-None-clause-known c =
    subst (λ (v : Contents). false ≡ list_any (same_name c.args.name.now) (layer_names v.accepted)) c.self.view_is
    (sym (none_found (same_name c.args.name.now) c.self.inside.layers.names (sym c.in-None.ensures)) ∙ c.self.invariant.contents_are.known_layers c.args.name.now)
