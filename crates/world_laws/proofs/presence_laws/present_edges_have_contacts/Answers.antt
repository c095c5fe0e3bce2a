use Rattle.world_laws.proofs.presence_laws.present_edges_have_contacts.Goals as goal
use Rattle.world_laws.proofs.Present.{contact_from_present, present_from_contact}

pub returns : goal.returns
returns c = λ w edge h. (contact_from_present w edge, λ m. present_from_contact w edge m.0 h m.1)
