use Rattle.std.proofs.Common.{◌≡◌, ◌∙◌, ℕ, List, Some, None, length, map, ap, refl, sym, subst}
use Rattle.std.specs.Prelude.{position}
use Rattle.std.specs.Option.{option_copied}
use Rattle.graph_model.specs.declared.events.Entity.TheVariants.{Edge}
use Rattle.graph_model.specs.declared.properties.ValueType.{ValueType}
use Rattle.graph_model.specs.Compare.{value_of}
use Rattle.graph_model.specs.World.{events_of}
use Rattle.graph_model.specs.Entity.{same_entity}
use Rattle.graph_model.specs.Names.{same_name}
use Rattle.graph_store.specs.Contents.{Contents, edge_entities}
use Rattle.graph_store.specs.Keys.{key_name}
use Rattle.time_history.specs.Asked.{AreNamed}
use Rattle.view_trait.specs.Meaning.{edge_at}
use Rattle.view_trait.proofs.Found.{edge_tells}
use Rattle.view_answers.proofs.Asked.{value_is}
use Rattle.view_answers.proofs.Unknown.{edge_numbered, key_numbered, nothing_has_no_value, no_key, no_edge}
use Rattle.view_answers.proofs.values.value_of_edge.Goals as goal

pub returns-in_err-e-clause-value : goal.returns-in_err-e-clause-value
returns-in_err-e-clause-value g c =
    let contents = g.V.View.contents c.args.view.now in
    let world = g.V.View.world c.args.view.now in
    let place : position (same_entity (Edge c.args.edge.now)) (edge_entities contents.nodes contents.layers contents.edges) ≡ None = ap (λ (s : Contents). position (same_entity (Edge c.args.edge.now)) (edge_entities s.nodes s.layers s.edges)) (sym c.store-store.ensures) ∙ sym c.in_err-e.ensures.place in
    ap option_copied c.from_residual.ensures ∙ nothing_has_no_value c.args.key.now (events_of world (Edge c.args.edge.now)) (no_edge contents world c.args.edge.now (g.met.V.View.shown c.args.view.now) place)

pub returns-in_err-number-clause-value : goal.returns-in_err-number-clause-value
returns-in_err-number-clause-value g c =
    let contents = g.V.View.contents c.args.view.now in
    let world = g.V.View.world c.args.view.now in
    let us = c.edge_history-history.result.now.updates in
    let place : position (same_entity (Edge c.args.edge.now)) (edge_entities contents.nodes contents.layers contents.edges) ≡ Some c.in_ok-e.e.0 = ap (λ (s : Contents). position (same_entity (Edge c.args.edge.now)) (edge_entities s.nodes s.layers s.edges)) (sym c.store-store.ensures) ∙ sym c.in_ok-e.ensures.place in
    let tells = edge_tells c.store-store.result.now contents c.in_ok-e.e.0 us c.store-store.ensures c.edge_history-history.ensures.told c.edge_history-history.ensures.fits in
    let keys = subst (λ (s : Contents). AreNamed (key_name s.edge_keys) (length s.edge_keys) us) c.store-store.ensures c.edge_history-history.ensures.keys in
    let unknown : position (same_name c.args.key.now) (map (λ (p : List ℕ × ValueType). p.0) contents.edge_keys) ≡ None = ap (λ (s : Contents). position (same_name c.args.key.now) (map (λ (p : List ℕ × ValueType). p.0) s.edge_keys)) (sym c.store-store.ensures) ∙ sym c.in_err-number.ensures.place in
    ap option_copied c.from_residual-in_err-number.ensures
    ∙ sym (ap (λ x. value_of c.args.key.now (events_of world x)) (sym (edge_numbered contents c.args.edge.now c.in_ok-e.e.0 place).1)
    ∙ no_key contents world (edge_at contents c.in_ok-e.e.0) us c.edge_span-span.result contents.edge_keys c.args.key.now tells c.edge_span-span.ensures.shows keys unknown (λ k. refl))

pub returns-clause-value : goal.returns-clause-value
returns-clause-value g c =
    let contents = g.V.View.contents c.args.view.now in
    let world = g.V.View.world c.args.view.now in
    let us = c.edge_history-history.result.now.updates in
    let place : position (same_entity (Edge c.args.edge.now)) (edge_entities contents.nodes contents.layers contents.edges) ≡ Some c.in_ok-e.e.0 = ap (λ (s : Contents). position (same_entity (Edge c.args.edge.now)) (edge_entities s.nodes s.layers s.edges)) (sym c.store-store.ensures) ∙ sym c.in_ok-e.ensures.place in
    let tells = edge_tells c.store-store.result.now contents c.in_ok-e.e.0 us c.store-store.ensures c.edge_history-history.ensures.told c.edge_history-history.ensures.fits in
    let keys = subst (λ (s : Contents). AreNamed (key_name s.edge_keys) (length s.edge_keys) us) c.store-store.ensures c.edge_history-history.ensures.keys in
    let known : position (same_name c.args.key.now) (map (λ (p : List ℕ × ValueType). p.0) contents.edge_keys) ≡ Some c.in_ok-number.number = ap (λ (s : Contents). position (same_name c.args.key.now) (map (λ (p : List ℕ × ValueType). p.0) s.edge_keys)) (sym c.store-store.ensures) ∙ sym c.in_ok-number.ensures.place in
    let key = key_numbered contents.edge_keys c.args.key.now c.in_ok-number.number known in
    let x = edge_at contents c.in_ok-e.e.0 in
    value_is contents world x us c.edge_span-span.result (length contents.edge_keys) c.in_ok-number.number (option_copied c.value.result) tells c.edge_span-span.ensures.shows keys key.0 c.value.ensures
    ∙ (ap (λ k. value_of k (events_of world x)) key.1 ∙ ap (λ y. value_of c.args.key.now (events_of world y)) (edge_numbered contents c.args.edge.now c.in_ok-e.e.0 place).1)
