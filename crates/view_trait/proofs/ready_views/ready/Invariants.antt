use Rattle.std.proofs.Common.{◌≡◌, true, map, take}
use Rattle.std.specs.List.{list_all}
use Rattle.graph_model.specs.Searches.{kind_of_view}
use Rattle.graph_model.specs.Stack.{apply}
use Rattle.graph_model.specs.World.{World}
use Rattle.view_trait.specs.Drawn.{IsDrawn}
use Rattle.view_trait.specs.Ready.{ready_apply, ready_kind, in_range}
use Rattle.view_trait.proofs.ready_views.ready.Given as goal

abbrev pub invariant-loop-i : goal.invariant-loop-i
invariant-loop-i l = record {
  world : (w : World) → IsDrawn l.fn.store w → ready_apply l.fn.store l.ops w ≡ apply (take l.i l.fn.views) w;
  in_range : list_all in_range l.ops ≡ true;
  kinds : map ready_kind l.ops ≡ map kind_of_view (take l.i l.fn.views);
}
