use Rattle.std.proofs.Common.{◌≡◌, ◌+◌, ◌*◌, ◌∙◌, length, sym, subst, ap}
use Rattle.std.specs.Ordering.{nat_cmp}
use Rattle.graph_model.specs.Rising.{Rises, in_order}
use Rattle.graph_model.specs.Searches.{digits}
use Rattle.view_trait.specs.Coverage.{edge_count_on, edges_on, node_count_on, nodes_on}
use Rattle.view_trait.specs.Extent.{earlier_of, later_of}
use Rattle.window_sweep.specs.Filling.{AreFilled, edges_held, first_held, last_held, nodes_held, time_cmp}
use Rattle.window_sweep.proofs.Gathered.{count_on, first_on, held_on, last_on}
use Rattle.window_sweep.proofs.Holding.{steps_for_both, steps_for_nodes}
use Rattle.window_sweep.proofs.filling.held_events.Given.{Over}
use Rattle.window_sweep.proofs.filling.held_events.Goals.{After-roster_facts, After-last_time-last}
use Rattle.window_sweep.proofs.filling.held_events.Goals as goal

nodes_rise : (g : Over) (c : After-roster_facts g) → Rises nat_cmp (nodes_on (g.V.View.contents c.args.view.now) c.args.roster)
nodes_rise g c = subst (λ v. Rises nat_cmp (nodes_on v c.args.roster)) c.store.ensures c.roster_facts.ensures.nodes

edges_rise : (g : Over) (c : After-roster_facts g) → Rises nat_cmp (edges_on (g.V.View.contents c.args.view.now) c.args.roster)
edges_rise g c = subst (λ v. Rises nat_cmp (edges_on v c.args.roster)) c.store.ensures c.roster_facts.ensures.edges

-- as many events are held as the world has
count : (g : Over) (c : After-roster_facts g) → length (nodes_held (g.V.View.contents c.args.view.now) (g.V.View.world c.args.view.now) (nodes_on (g.V.View.contents c.args.view.now) c.args.roster)) + length (edges_held (g.V.View.contents c.args.view.now) (g.V.View.world c.args.view.now) (edges_on (g.V.View.contents c.args.view.now) c.args.roster)) ≡ length (g.V.View.world c.args.view.now).events
count g c = count_on (g.V.View.contents c.args.view.now) (g.V.View.world c.args.view.now) c.args.roster (g.met.V.View.shown c.args.view.now) c.requires.covers (nodes_rise g c) (edges_rise g c)

nodes_are : (g : Over) (c : After-last_time-last g) → c.in_ok-nodes.nodes.items ≡ in_order time_cmp (nodes_held (g.V.View.contents c.args.view.now) (g.V.View.world c.args.view.now) (nodes_on (g.V.View.contents c.args.view.now) c.args.roster))
nodes_are g c = c.in_ok-nodes.ensures ∙ ap (in_order time_cmp) c.in_ok-node_events.ensures.held

edges_are : (g : Over) (c : After-last_time-last g) → c.in_ok-edges.edges.items ≡ in_order time_cmp (edges_held (g.V.View.contents c.args.view.now) (g.V.View.world c.args.view.now) (edges_on (g.V.View.contents c.args.view.now) c.args.roster))
edges_are g c = c.in_ok-edges.ensures ∙ ap (in_order time_cmp) c.in_ok-edge_events.ensures.held

pub returns-clause-filled : goal.returns-clause-filled
returns-clause-filled g c =
    let s = g.V.View.contents c.args.view.now in
    let w = g.V.View.world c.args.view.now in
    let after = (goal.at.returns-clause-filled g c).After-last_time-last in
    let first = (goal.at.returns-clause-filled g c).After-roster_facts in
    subst (λ l. AreFilled s w l c.in_ok-edges.edges.items) (sym (nodes_are g after))
    (subst (AreFilled s w (in_order time_cmp (nodes_held s w (nodes_on s c.args.roster)))) (sym (edges_are g after))
    (held_on s w c.args.roster (g.met.V.View.shown c.args.view.now) c.requires.covers (nodes_rise g first) (edges_rise g first)))

pub returns-clause-first : goal.returns-clause-first
returns-clause-first g c =
    let after = (goal.at.returns-clause-first g c).After-last_time-last in
    let first = (goal.at.returns-clause-first g c).After-roster_facts in
    let nodes = c.as_slice.ensures.value ∙ nodes_are g after in
    let edges = c.as_slice-2.ensures.value ∙ edges_are g after in
    c.first_time-first.ensures
    ∙ ((λ i. earlier_of (first_held (nodes i)) (first_held (edges i)))
    ∙ first_on (g.V.View.contents c.args.view.now) (g.V.View.world c.args.view.now) c.args.roster (g.met.V.View.shown c.args.view.now) c.requires.covers (nodes_rise g first) (edges_rise g first))

pub returns-clause-last : goal.returns-clause-last
returns-clause-last g c =
    let after = (goal.at.returns-clause-last g c).After-last_time-last in
    let first = (goal.at.returns-clause-last g c).After-roster_facts in
    let nodes = c.as_slice-3.ensures.value ∙ nodes_are g after in
    let edges = c.as_slice-4.ensures.value ∙ edges_are g after in
    c.last_time-last.ensures
    ∙ ((λ i. later_of (last_held (nodes i)) (last_held (edges i)))
    ∙ last_on (g.V.View.contents c.args.view.now) (g.V.View.world c.args.view.now) c.args.roster (g.met.V.View.shown c.args.view.now) c.requires.covers (nodes_rise g first) (edges_rise g first))

pub returns-in_err-node_events-clause-cost : goal.returns-in_err-node_events-clause-cost
returns-in_err-node_events-clause-cost g c =
    let s = g.V.View.contents c.args.view.now in
    let searches = g.V.View.searches c.args.view.now in
    steps_for_nodes c.args.steps.now c.held_nodes.new.steps (node_count_on s c.args.roster * searches.nodes) (edge_count_on s c.args.roster * searches.edges) (digits (length s.accepted)) _ _ _
    (count g (goal.at.returns-in_err-node_events-clause-cost g c).After-roster_facts) c.held_nodes.ensures.cost

pub returns-in_err-edge_events-clause-cost : goal.returns-in_err-edge_events-clause-cost
returns-in_err-edge_events-clause-cost g c =
    let s = g.V.View.contents c.args.view.now in
    let searches = g.V.View.searches c.args.view.now in
    steps_for_both c.args.steps.now c.held_nodes.new.steps c.held_edges.new.steps (node_count_on s c.args.roster * searches.nodes) (edge_count_on s c.args.roster * searches.edges) (digits (length s.accepted)) _ _ _
    (count g (goal.at.returns-in_err-edge_events-clause-cost g c).After-roster_facts) c.held_nodes.ensures.cost c.held_edges.ensures.cost

pub returns-in_err-nodes-clause-cost : goal.returns-in_err-nodes-clause-cost
returns-in_err-nodes-clause-cost g c =
    let s = g.V.View.contents c.args.view.now in
    let searches = g.V.View.searches c.args.view.now in
    steps_for_both c.args.steps.now c.held_nodes.new.steps c.held_edges.new.steps (node_count_on s c.args.roster * searches.nodes) (edge_count_on s c.args.roster * searches.edges) (digits (length s.accepted)) _ _ _
    (count g (goal.at.returns-in_err-nodes-clause-cost g c).After-roster_facts) c.held_nodes.ensures.cost c.held_edges.ensures.cost

pub returns-in_err-edges-clause-cost : goal.returns-in_err-edges-clause-cost
returns-in_err-edges-clause-cost g c =
    let s = g.V.View.contents c.args.view.now in
    let searches = g.V.View.searches c.args.view.now in
    steps_for_both c.args.steps.now c.held_nodes.new.steps c.held_edges.new.steps (node_count_on s c.args.roster * searches.nodes) (edge_count_on s c.args.roster * searches.edges) (digits (length s.accepted)) _ _ _
    (count g (goal.at.returns-in_err-edges-clause-cost g c).After-roster_facts) c.held_nodes.ensures.cost c.held_edges.ensures.cost

pub returns-clause-cost : goal.returns-clause-cost
returns-clause-cost g c =
    let s = g.V.View.contents c.args.view.now in
    let searches = g.V.View.searches c.args.view.now in
    steps_for_both c.args.steps.now c.held_nodes.new.steps c.held_edges.new.steps (node_count_on s c.args.roster * searches.nodes) (edge_count_on s c.args.roster * searches.edges) (digits (length s.accepted)) _ _ _
    (count g (goal.at.returns-clause-cost g c).After-roster_facts) c.held_nodes.ensures.cost c.held_edges.ensures.cost
