-- The numbers of what a view shows.
use Rattle.std.proofs.Common.{[], sym}
use Rattle.graph_model.specs.Names.{same_name}
use Rattle.graph_model.specs.World.{World}
use Rattle.world_laws.proofs.Order.{same_name-exact}
use Rattle.world_laws.proofs.Present.{present_from_contact}
use Rattle.graph_store.specs.Contents.{Contents, name_at}
use Rattle.view_trait.specs.Meaning.{IsShown}
use Rattle.view_trait.proofs.Pairs.{any_place, present_number, same_number}
use Rattle.present_links.proofs.Views.{present_known}
use Rattle.temporal_reach.proofs.Arriving.{AreNumbered}

-- the nodes and edges of a view are numbered
pub numbered : (c : Contents) (w : World) → IsShown c w → AreNumbered c w
numbered c w shown = record {
  one = λ i j below_i below_j e. same_number c i j shown.indexed below_i below_j e;
  within = λ e below. (shown.indexed.within e below).0;
  edge = λ edge t contact. present_number c w edge shown (present_from_contact w edge t shown.lawful contact);
  node = λ b present.
      let r = any_place (same_name b) c.nodes [] (present_known c w shown b present) in
      (r.0, r.1, sym (same_name-exact b (name_at c.nodes r.0) r.2));
}
