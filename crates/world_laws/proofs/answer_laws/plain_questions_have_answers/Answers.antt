use Rattle.world_laws.proofs.answer_laws.plain_questions_have_answers.Goals as goal
use Rattle.world_laws.proofs.Updated.{answer_updates}
use Rattle.world_laws.proofs.Answers.{answer_nodes, answer_edges, answer_events, answer_degree, answer_node_history, answer_edge_history, answer_node_value, answer_edge_value, answer_alive}

pub returns-clause-nodes : goal.returns-clause-nodes
returns-clause-nodes c = answer_nodes

pub returns-clause-edges : goal.returns-clause-edges
returns-clause-edges c = answer_edges

pub returns-clause-events : goal.returns-clause-events
returns-clause-events c = answer_events

pub returns-clause-degree : goal.returns-clause-degree
returns-clause-degree c = answer_degree

pub returns-clause-node_history : goal.returns-clause-node_history
returns-clause-node_history c = answer_node_history

pub returns-clause-edge_history : goal.returns-clause-edge_history
returns-clause-edge_history c = answer_edge_history

pub returns-clause-node_value : goal.returns-clause-node_value
returns-clause-node_value c = answer_node_value

pub returns-clause-edge_value : goal.returns-clause-edge_value
returns-clause-edge_value c = answer_edge_value

pub returns-clause-edge_alive : goal.returns-clause-edge_alive
returns-clause-edge_alive c = answer_alive

pub returns-clause-updates : goal.returns-clause-updates
returns-clause-updates c = answer_updates
