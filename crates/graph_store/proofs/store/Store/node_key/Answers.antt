use Rattle.std.proofs.Common.{◌≡◌, ◌∙◌, [], true, false, map, sym, subst}
use Rattle.std.specs.List.{list_any}
use Rattle.graph_model.specs.Names.{same_name}
use Rattle.graph_model.specs.Accepting.{key_names, node_events}
use Rattle.graph_store.specs.Contents.{Contents}
use Rattle.graph_store.specs.StoreInvariant.{contents}
use Rattle.graph_store.proofs.Readers.{none_found, one_found}
use Rattle.graph_store.proofs.JudgeLaws.{same_keys}
use Rattle.graph_store.proofs.store.Store.node_key.Goals as goal

pub returns-in-Some-clause-known : goal.returns-in-Some-clause-known
returns-in-Some-clause-known c =
    subst (λ (v : Contents). true ≡ list_any (same_name c.args.key.now) (key_names (node_events v.accepted))) c.self.view_is
    (sym (one_found (same_name c.args.key.now) (map (λ p. p.0) c.self.inside.node_keys) c.in-Some.place [] (sym c.in-Some.ensures)) ∙ same_keys c.self.inside.node_keys (node_events (contents c.self.inside).accepted) c.self.invariant.contents_are.node_types c.args.key.now)

pub returns-in-None-clause-known : goal.returns-in-None-clause-known
returns-in-None-clause-known c =
    subst (λ (v : Contents). false ≡ list_any (same_name c.args.key.now) (key_names (node_events v.accepted))) c.self.view_is
    (sym (none_found (same_name c.args.key.now) (map (λ p. p.0) c.self.inside.node_keys) (sym c.in-None.ensures)) ∙ same_keys c.self.inside.node_keys (node_events (contents c.self.inside).accepted) c.self.invariant.contents_are.node_types c.args.key.now)
