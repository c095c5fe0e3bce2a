-- Lists of views that show the same, one of them with merged runs.
use Rattle.std.specs.Prelude.{◌≡◌, List, true, map}
use Rattle.std.specs.List.{list_all}
use Rattle.graph_model.specs.Searches.{searches, fused_searches}
use Rattle.graph_model.specs.World.{World}
use Rattle.graph_store.specs.Contents.{Contents}
use Rattle.view_trait.specs.declared.ready_ops.ReadyOp.{ReadyOp}
use Rattle.view_trait.specs.Meaning.{IsShown}
use Rattle.view_trait.specs.Ready.{ready_apply, ready_kind, in_range}

-- a list of views as it was given, and its merged form
pub record Fused : Type 0 where
  pub given : List ReadyOp
  pub merged : List ReadyOp

-- over each store the merged list shows the same of each world as the given one, the moments of its
-- windows are bounds, and its searches are the fused searches of the given one
pub record IsFused (given merged : List ReadyOp) : Type 0 where
  pub world : (c : Contents) (w : World) → IsShown c w → ready_apply c merged w ≡ ready_apply c given w
  pub in_range : list_all in_range merged ≡ true
  pub searches : searches (map ready_kind merged) ≡ fused_searches (map ready_kind given)
