use Rattle.std.proofs.Common.{◌≡◌, ◌++◌, ◌∷◌, [], map, codes, refl, subst, sym, rules, to_z, of_z, w64}
use Rattle.std.specs.Prelude.{OnOk}
use Rattle.std.proofs.lemmas.Int.{to_z-of_z}
use Rattle.graph_model.specs.declared.events.Entity.TheVariants.{Node, Edge}
use Rattle.graph_model.specs.declared.queries.Ask.TheVariants.{Nodes, Edges, Events, Degree, NodeHistory, EdgeHistory, NodeValue, EdgeValue, EdgeAlive, Materialise, Arrival}
use Rattle.graph_model.specs.Answer.{NodeRow, EdgeRow, AliveRow, degree_row, edge_kind, extent_row, history_rows, value_rows, world_rows}
use Rattle.graph_model.specs.Compare.{value_of}
use Rattle.graph_model.specs.Presence.{alive_at, edges, nodes}
use Rattle.graph_model.specs.RowText.{rows_text}
use Rattle.graph_model.specs.World.{events_of}
use Rattle.world_laws.proofs.Answers.{answer_alive, answer_degree, answer_edge_history, answer_edge_value, answer_edges, answer_events, answer_node_history, answer_node_value, answer_nodes}
use Rattle.answer_parts.specs.WorldPart.{AddsPart, part_rows}
use Rattle.answer_parts.proofs.Plainly.{part_added}
use Rattle.query_answers.proofs.part.add_part.Goals as goal

pub returns-in-Nodes-clause-part : goal.returns-in-Nodes-clause-part
returns-in-Nodes-clause-part g c =
    let w = g.V.View.world c.args.view.now in
    part_added c.add_nodes.result w c.args.ask.now Nodes (map NodeRow (nodes w)) c.args.out.now c.add_nodes.new.out c.in-Nodes.is (answer_nodes w) c.add_nodes.ensures.rows

pub returns-in-Edges-clause-part : goal.returns-in-Edges-clause-part
returns-in-Edges-clause-part g c =
    let w = g.V.View.world c.args.view.now in
    part_added c.add_edges.result w c.args.ask.now Edges (map EdgeRow (edges w)) c.args.out.now c.add_edges.new.out c.in-Edges.is (answer_edges w) c.add_edges.ensures.rows

pub returns-in-Events-clause-part : goal.returns-in-Events-clause-part
returns-in-Events-clause-part g c =
    let w = g.V.View.world c.args.view.now in
    part_added c.add_events.result w c.args.ask.now Events (extent_row w.events ∷ []) c.args.out.now c.add_events.new.out c.in-Events.is (answer_events w) c.add_events.ensures.rows

pub returns-in-Degree-clause-part : goal.returns-in-Degree-clause-part
returns-in-Degree-clause-part g c =
    let w = g.V.View.world c.args.view.now in
    part_added c.add_node_degrees.result w c.args.ask.now Degree (map (degree_row w) (nodes w)) c.args.out.now c.add_node_degrees.new.out c.in-Degree.is (answer_degree w) c.add_node_degrees.ensures.rows

pub returns-in-NodeHistory-clause-part : goal.returns-in-NodeHistory-clause-part
returns-in-NodeHistory-clause-part g c =
    let w = g.V.View.world c.args.view.now in
    part_added c.add_node_history.result w c.args.ask.now (NodeHistory c.in-NodeHistory.node) (history_rows (λ x. codes "node") 0 (events_of w (Node c.in-NodeHistory.node))) c.args.out.now c.add_node_history.new.out c.in-NodeHistory.is (answer_node_history w c.in-NodeHistory.node) c.add_node_history.ensures

pub returns-in-EdgeHistory-clause-part : goal.returns-in-EdgeHistory-clause-part
returns-in-EdgeHistory-clause-part g c =
    let w = g.V.View.world c.args.view.now in
    part_added c.add_edge_history.result w c.args.ask.now (EdgeHistory c.in-EdgeHistory.edge) (history_rows edge_kind 0 (events_of w (Edge c.in-EdgeHistory.edge))) c.args.out.now c.add_edge_history.new.out c.in-EdgeHistory.is (answer_edge_history w c.in-EdgeHistory.edge) c.add_edge_history.ensures

pub returns-in-NodeValue-clause-part : goal.returns-in-NodeValue-clause-part
returns-in-NodeValue-clause-part g c =
    let w = g.V.View.world c.args.view.now in
    part_added c.add_node_value.result w c.args.ask.now (NodeValue c.in-NodeValue.node c.in-NodeValue.key) (value_rows (value_of c.in-NodeValue.key (events_of w (Node c.in-NodeValue.node)))) c.args.out.now c.add_node_value.new.out c.in-NodeValue.is (answer_node_value w c.in-NodeValue.node c.in-NodeValue.key) c.add_node_value.ensures.rows

pub returns-in-EdgeValue-clause-part : goal.returns-in-EdgeValue-clause-part
returns-in-EdgeValue-clause-part g c =
    let w = g.V.View.world c.args.view.now in
    part_added c.add_edge_value.result w c.args.ask.now (EdgeValue c.in-EdgeValue.edge c.in-EdgeValue.key) (value_rows (value_of c.in-EdgeValue.key (events_of w (Edge c.in-EdgeValue.edge)))) c.args.out.now c.add_edge_value.new.out c.in-EdgeValue.is (answer_edge_value w c.in-EdgeValue.edge c.in-EdgeValue.key) c.add_edge_value.ensures.rows

pub returns-in-Materialise-clause-part : goal.returns-in-Materialise-clause-part
returns-in-Materialise-clause-part g c =
    let w = g.V.View.world c.args.view.now in
    part_added c.add_world_records.result w c.args.ask.now Materialise (world_rows w) c.args.out.now c.add_world_records.new.out c.in-Materialise.is refl c.add_world_records.ensures

pub returns-in-EdgeAlive-clause-part : goal.returns-in-EdgeAlive-clause-part
returns-in-EdgeAlive-clause-part g c =
    let w = g.V.View.world c.args.view.now in
    let edge = c.in-EdgeAlive.edge in
    let m = c.in-EdgeAlive.m in
    let old = c.args.out.now in
    let new = c.add_edge_alive.new.out in
    let same : to_z w64 (of_z w64 m) ≡ m = to_z-of_z w64 m (search rules) in
    part_added c.add_edge_alive.result w c.args.ask.now (EdgeAlive edge m) (AliveRow (alive_at w edge m) ∷ []) old new c.in-EdgeAlive.is (answer_alive w edge m)
    (subst (λ t. OnOk c.add_edge_alive.result (new ≡ old ++ rows_text (part_rows w (AliveRow (alive_at w edge t) ∷ [])))) same c.add_edge_alive.ensures.rows)

pub returns-in-Hops-clause-part : goal.returns-in-Hops-clause-part
returns-in-Hops-clause-part g c =
    subst (λ ask. OnOk c.add_hops.result (AddsPart (g.V.View.world c.args.view.now) ask c.args.out.now c.add_hops.new.out)) (sym c.in-Hops.is) c.add_hops.ensures

pub returns-in-Weak-clause-part : goal.returns-in-Weak-clause-part
returns-in-Weak-clause-part g c =
    subst (λ ask. OnOk c.add_weak_labels.result (AddsPart (g.V.View.world c.args.view.now) ask c.args.out.now c.add_weak_labels.new.out)) (sym c.in-Weak.is) c.add_weak_labels.ensures

pub returns-in-OutComponent-clause-part : goal.returns-in-OutComponent-clause-part
returns-in-OutComponent-clause-part g c =
    subst (λ ask. OnOk c.add_out_component.result (AddsPart (g.V.View.world c.args.view.now) ask c.args.out.now c.add_out_component.new.out)) (sym c.in-OutComponent.is) c.add_out_component.ensures

pub returns-in-InComponent-clause-part : goal.returns-in-InComponent-clause-part
returns-in-InComponent-clause-part g c =
    subst (λ ask. OnOk c.add_in_component.result (AddsPart (g.V.View.world c.args.view.now) ask c.args.out.now c.add_in_component.new.out)) (sym c.in-InComponent.is) c.add_in_component.ensures

pub returns-in-CoreNumbers-clause-part : goal.returns-in-CoreNumbers-clause-part
returns-in-CoreNumbers-clause-part g c =
    subst (λ ask. OnOk c.add_core_numbers.result (AddsPart (g.V.View.world c.args.view.now) ask c.args.out.now c.add_core_numbers.new.out)) (sym c.in-CoreNumbers.is) c.add_core_numbers.ensures

pub returns-in-Core-clause-part : goal.returns-in-Core-clause-part
returns-in-Core-clause-part g c =
    subst (λ ask. OnOk c.add_core.result (AddsPart (g.V.View.world c.args.view.now) ask c.args.out.now c.add_core.new.out)) (sym c.in-Core.is) c.add_core.ensures

pub returns-in-Arrival-clause-part : goal.returns-in-Arrival-clause-part
returns-in-Arrival-clause-part g c =
    let w = g.V.View.world c.args.view.now in
    let start = c.in-Arrival.start in
    let seeds = c.in-Arrival.seeds in
    let same : to_z w64 (of_z w64 start) ≡ start = to_z-of_z w64 start (search rules) in
    subst (λ ask. OnOk c.add_arrivals.result (AddsPart w ask c.args.out.now c.add_arrivals.new.out)) (sym c.in-Arrival.is)
    (subst (λ t. OnOk c.add_arrivals.result (AddsPart w (Arrival t seeds) c.args.out.now c.add_arrivals.new.out)) same c.add_arrivals.ensures)
