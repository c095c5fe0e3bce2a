-- A view that joins merged views.
use Rattle.std.specs.Prelude.{◌≡◌, ◌∷◌, ◌++◌, List, true, map, is_some}
use Rattle.std.specs.List.{list_all}
use Rattle.graph_model.specs.Searches.{ViewKind, searches, fused_over, fused_searches}
use Rattle.graph_model.specs.World.{World}
use Rattle.graph_store.specs.Contents.{Contents}
use Rattle.view_trait.specs.declared.ready_ops.ReadyOp.{ReadyOp}
use Rattle.view_trait.specs.Meaning.{IsShown}
use Rattle.view_trait.specs.Ready.{ready_view, ready_apply, ready_kind, in_range}
use Rattle.fused_view.specs.declared.run.Run.{Run}
use Rattle.fused_view.specs.Runs.{run_views}

-- merged views and a run behind them
abbrev pub views_so_far : List ReadyOp → Run → List ReadyOp
views_so_far merged run = merged ++ run_views run

-- merged views and a run have become others by one more view: they show what the view shows of what
-- they showed before, the moments of their windows are bounds if those of the view are, and the
-- searches are the fused ones, whatever follows
pub record IsJoined (merged : List ReadyOp) (run : Run) (op : ReadyOp) (more : List ReadyOp) (after : Run)
    : Type 0 where
  pub world : (c : Contents) (w : World) → IsShown c w
      → ready_apply c (views_so_far more after) w ≡ ready_view c (ready_apply c (views_so_far merged run) w) op
  pub in_range : list_all in_range (views_so_far merged run) ≡ true → in_range op ≡ true
      → list_all in_range (views_so_far more after) ≡ true
  pub searches : (ks : List ViewKind)
      → fused_over (is_some run.window) (searches (map ready_kind (views_so_far merged run))) (ready_kind op ∷ ks)
      ≡ fused_over (is_some after.window) (searches (map ready_kind (views_so_far more after))) ks

-- merged views and a run stand for a list of views
pub record StandsFor (given merged : List ReadyOp) (run : Run) : Type 0 where
  pub world : (c : Contents) (w : World) → IsShown c w
      → ready_apply c (views_so_far merged run) w ≡ ready_apply c given w
  pub in_range : list_all in_range (views_so_far merged run) ≡ true
  pub searches : (ks : List ViewKind)
      → fused_searches (map ready_kind given ++ ks)
      ≡ fused_over (is_some run.window) (searches (map ready_kind (views_so_far merged run))) ks
