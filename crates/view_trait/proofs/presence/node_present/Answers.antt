use Rattle.std.proofs.Common.{◌≡◌, ℕ, ◌||◌, ◌*◌, length, sym, ap, subst, ◌∙◌}
use Rattle.std.proofs.Math.Nat.{add_comm}
use Rattle.graph_model.specs.Entity.{is_about}
use Rattle.graph_model.specs.World.{events_of}
use Rattle.graph_model.specs.Presence.{node_present as is_present}
use Rattle.graph_store.specs.Contents.{name_at}
use Rattle.view_trait.specs.Meaning.{StepsWithin, node_at}
use Rattle.view_trait.specs.Present.{edge_count_at}
use Rattle.view_trait.proofs.Costs.{StepsWithin-fewer, StepsWithin-then}
use Rattle.view_trait.proofs.Found.{any_last, last_some, last_none}
use Rattle.view_trait.proofs.Pairs.{any_pair, node_is}
use Rattle.view_trait.proofs.presence.node_present.Given.{Over}
use Rattle.view_trait.proofs.presence.node_present.Goals.{After-has_event}
use Rattle.view_trait.proofs.presence.node_present.Goals as goal

present : (g : Over) (c : After-has_event g) → (c.has_event.result || any_pair (g.V.View.contents c.args.view.now) (g.V.View.world c.args.view.now) c.args.n.0) ≡ is_present (g.V.View.world c.args.view.now) (name_at (g.V.View.contents c.args.view.now).nodes c.args.n.0)
present g c =
    let contents = g.V.View.contents c.args.view.now in
    let world = g.V.View.world c.args.view.now in
    let own = events_of world (node_at contents c.args.n.0) in
    let some = c.has_event.ensures.event ∙ any_last (is_about (node_at contents c.args.n.0)) world.events in
    node_is contents world c.args.n.0 c.has_event.result (g.met.V.View.shown c.args.view.now) c.requires
    (λ e. last_some own (sym some ∙ e)) (λ e. last_none own (sym some ∙ e))

pub returns-then-has_event-clause-present : goal.returns-then-has_event-clause-present
returns-then-has_event-clause-present g c =
    c.if-has_event.true ∙ (ap (λ b. b || any_pair (g.V.View.contents c.args.view.now) (g.V.View.world c.args.view.now) c.args.n.0) (sym c.if-has_event.true) ∙ present g (goal.at.returns-then-has_event-clause-present g c).After-has_event)

pub returns-else-has_event-clause-present : goal.returns-else-has_event-clause-present
returns-else-has_event-clause-present g c =
    c.has_present_pair.ensures.present ∙ (ap (λ b. b || any_pair (g.V.View.contents c.args.view.now) (g.V.View.world c.args.view.now) c.args.n.0) (sym c.if-has_event.false) ∙ present g (goal.at.returns-else-has_event-clause-present g c).After-has_event)

pub returns-then-has_event-clause-cost : goal.returns-then-has_event-clause-cost
returns-then-has_event-clause-cost g c = λ h.
    let contents = g.V.View.contents c.args.view.now in
    let s = g.V.View.searches c.args.view.now in
    let more = edge_count_at contents c.args.n.0 * s.edges in
    let among = length contents.accepted in
    let before = c.args.steps.now in
    let after = c.has_event.new.steps in
    subst (λ (n : ℕ). StepsWithin before after n among) (add_comm more s.nodes) (StepsWithin-fewer before after s.nodes more among c.has_event.ensures.cost)

pub returns-else-has_event-clause-cost : goal.returns-else-has_event-clause-cost
returns-else-has_event-clause-cost g c = λ h.
    let contents = g.V.View.contents c.args.view.now in
    let s = g.V.View.searches c.args.view.now in
    let more = edge_count_at contents c.args.n.0 * s.edges in
    let among = length contents.accepted in
    let before = c.args.steps.now in
    let after = c.has_present_pair.new.steps in
    subst (λ (n : ℕ). StepsWithin before after n among) (add_comm more s.nodes) (StepsWithin-then before c.has_event.new.steps after s.nodes more among c.has_event.ensures.cost (c.has_present_pair.ensures.cost h))
