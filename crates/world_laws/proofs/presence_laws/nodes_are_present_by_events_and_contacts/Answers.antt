use Rattle.world_laws.proofs.presence_laws.nodes_are_present_by_events_and_contacts.Goals as goal
use Rattle.world_laws.proofs.Nodes.{node_words}

pub returns : goal.returns
returns c = node_words
