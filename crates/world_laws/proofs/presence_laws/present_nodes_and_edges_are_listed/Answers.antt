use Rattle.world_laws.proofs.presence_laws.present_nodes_and_edges_are_listed.Goals as goal
use Rattle.world_laws.proofs.Members.{nodes_has, nodes_rise, edges_has, edges_rise}

pub returns-clause-nodes : goal.returns-clause-nodes
returns-clause-nodes c = nodes_has

pub returns-clause-nodes_rise : goal.returns-clause-nodes_rise
returns-clause-nodes_rise c = nodes_rise

pub returns-clause-edges : goal.returns-clause-edges
returns-clause-edges c = edges_has

pub returns-clause-edges_rise : goal.returns-clause-edges_rise
returns-clause-edges_rise c = edges_rise
