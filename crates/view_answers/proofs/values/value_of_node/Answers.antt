use Rattle.std.proofs.Common.{◌≡◌, ◌∙◌, ℕ, List, Some, None, cond, length, map, ap, refl, sym, subst}
use Rattle.std.specs.Prelude.{position}
use Rattle.std.specs.Option.{option_copied}
use Rattle.graph_model.specs.declared.events.Entity.TheVariants.{Node}
use Rattle.graph_model.specs.declared.properties.ValueType.{ValueType}
use Rattle.graph_model.specs.Compare.{value_of}
use Rattle.graph_model.specs.World.{events_of}
use Rattle.graph_model.specs.Names.{same_name}
use Rattle.graph_store.specs.Contents.{Contents}
use Rattle.graph_store.specs.Keys.{key_name}
use Rattle.time_history.specs.Asked.{AreNamed}
use Rattle.graph_store.specs.Contents.{base_of}
use Rattle.view_trait.specs.Meaning.{StepsWithin, node_at}
use Rattle.view_trait.proofs.Found.{events_fit, node_tells}
use Rattle.view_trait.proofs.Costs.{StepsWithin-among}
use Rattle.view_answers.proofs.Asked.{value_is}
use Rattle.view_answers.proofs.Unknown.{node_known, node_named, key_numbered, nothing_has_no_value, no_key, no_node}
use Rattle.view_answers.proofs.values.value_of_node.Goals as goal

pub returns-in_err-n-clause-value : goal.returns-in_err-n-clause-value
returns-in_err-n-clause-value g c =
    let contents = g.V.View.contents c.args.view.now in
    let world = g.V.View.world c.args.view.now in
    let place : position (same_name c.args.node.now) contents.nodes ≡ None = ap (λ (s : Contents). position (same_name c.args.node.now) s.nodes) (sym c.store-store.ensures) ∙ sym c.in_err-n.ensures.place in
    ap option_copied c.from_residual.ensures ∙ nothing_has_no_value c.args.key.now (events_of world (Node c.args.node.now)) (no_node contents world c.args.node.now (g.met.V.View.shown c.args.view.now) place)

pub returns-in_err-number-clause-value : goal.returns-in_err-number-clause-value
returns-in_err-number-clause-value g c =
    let contents = g.V.View.contents c.args.view.now in
    let world = g.V.View.world c.args.view.now in
    let us = c.node_history-history.result.now.updates in
    let place : position (same_name c.args.node.now) contents.nodes ≡ Some c.in_ok-n.n.0 = ap (λ (s : Contents). position (same_name c.args.node.now) s.nodes) (sym c.store-store.ensures) ∙ sym c.in_ok-n.ensures.place in
    let tells = node_tells c.store-store.result.now contents c.in_ok-n.n.0 us c.store-store.ensures c.node_history-history.ensures.told c.node_history-history.ensures.fits in
    let keys = subst (λ (s : Contents). AreNamed (key_name s.node_keys) (length s.node_keys) us) c.store-store.ensures c.node_history-history.ensures.keys in
    let unknown : position (same_name c.args.key.now) (map (λ (p : List ℕ × ValueType). p.0) contents.node_keys) ≡ None = ap (λ (s : Contents). position (same_name c.args.key.now) (map (λ (p : List ℕ × ValueType). p.0) s.node_keys)) (sym c.store-store.ensures) ∙ sym c.in_err-number.ensures.place in
    ap option_copied c.from_residual-in_err-number.ensures
    ∙ sym (ap (λ x. value_of c.args.key.now (events_of world x)) (sym (node_named contents c.args.node.now c.in_ok-n.n.0 place).1)
    ∙ no_key contents world (node_at contents c.in_ok-n.n.0) us c.node_span-span.result contents.node_keys c.args.key.now tells c.node_span-span.ensures.shows keys unknown (λ k. refl))

pub returns-clause-value : goal.returns-clause-value
returns-clause-value g c =
    let contents = g.V.View.contents c.args.view.now in
    let world = g.V.View.world c.args.view.now in
    let us = c.node_history-history.result.now.updates in
    let place : position (same_name c.args.node.now) contents.nodes ≡ Some c.in_ok-n.n.0 = ap (λ (s : Contents). position (same_name c.args.node.now) s.nodes) (sym c.store-store.ensures) ∙ sym c.in_ok-n.ensures.place in
    let tells = node_tells c.store-store.result.now contents c.in_ok-n.n.0 us c.store-store.ensures c.node_history-history.ensures.told c.node_history-history.ensures.fits in
    let keys = subst (λ (s : Contents). AreNamed (key_name s.node_keys) (length s.node_keys) us) c.store-store.ensures c.node_history-history.ensures.keys in
    let known : position (same_name c.args.key.now) (map (λ (p : List ℕ × ValueType). p.0) contents.node_keys) ≡ Some c.in_ok-number.number = ap (λ (s : Contents). position (same_name c.args.key.now) (map (λ (p : List ℕ × ValueType). p.0) s.node_keys)) (sym c.store-store.ensures) ∙ sym c.in_ok-number.ensures.place in
    let key = key_numbered contents.node_keys c.args.key.now c.in_ok-number.number known in
    let x = node_at contents c.in_ok-n.n.0 in
    value_is contents world x us c.node_span-span.result (length contents.node_keys) c.in_ok-number.number (option_copied c.value.result) tells c.node_span-span.ensures.shows keys key.0 c.value.ensures
    ∙ (ap (λ k. value_of k (events_of world x)) key.1 ∙ ap (λ y. value_of c.args.key.now (events_of world y)) (node_named contents c.args.node.now c.in_ok-n.n.0 place).1)

pub returns-in_err-number-clause-cost : goal.returns-in_err-number-clause-cost
returns-in_err-number-clause-cost g c =
    let contents = g.V.View.contents c.args.view.now in
    let x = node_at contents c.in_ok-n.n.0 in
    let before = c.args.steps.now in
    let after = c.node_span-span.new.steps in
    let searches = (g.V.View.searches c.args.view.now).nodes in
    let place : position (same_name c.args.node.now) contents.nodes ≡ Some c.in_ok-n.n.0 = ap (λ (s : Contents). position (same_name c.args.node.now) s.nodes) (sym c.store-store.ensures) ∙ sym c.in_ok-n.ensures.place in
    subst (λ b. StepsWithin before after (cond b searches 0) (length contents.accepted)) (sym (node_known contents c.args.node.now c.in_ok-n.n.0 place))
    (StepsWithin-among before after searches (length (events_of (base_of contents) x)) (length contents.accepted) c.node_span-span.ensures.cost (events_fit contents x))

pub returns-clause-cost : goal.returns-clause-cost
returns-clause-cost g c =
    let contents = g.V.View.contents c.args.view.now in
    let x = node_at contents c.in_ok-n.n.0 in
    let before = c.args.steps.now in
    let after = c.node_span-span.new.steps in
    let searches = (g.V.View.searches c.args.view.now).nodes in
    let place : position (same_name c.args.node.now) contents.nodes ≡ Some c.in_ok-n.n.0 = ap (λ (s : Contents). position (same_name c.args.node.now) s.nodes) (sym c.store-store.ensures) ∙ sym c.in_ok-n.ensures.place in
    subst (λ b. StepsWithin before after (cond b searches 0) (length contents.accepted)) (sym (node_known contents c.args.node.now c.in_ok-n.n.0 place))
    (StepsWithin-among before after searches (length (events_of (base_of contents) x)) (length contents.accepted) c.node_span-span.ensures.cost (events_fit contents x))
