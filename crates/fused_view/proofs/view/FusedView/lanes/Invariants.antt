use Rattle.std.proofs.Common.{◌≡◌, true, take}
use Rattle.std.specs.List.{list_all}
use Rattle.graph_store.specs.Contents.{base_of}
use Rattle.view_trait.specs.Ready.{ready_apply}
use Rattle.fused_view.specs.Lanes.{is_lane, lane_world}
use Rattle.fused_view.proofs.view.FusedView.lanes.Given as goal

-- the first views come to the lanes
abbrev pub invariant-loop-i : goal.invariant-loop-i
invariant-loop-i l = record {
  each : list_all is_lane (take l.i l.self.ops.now.given) ≡ true;
  world : ready_apply l.self.store.now (take l.i l.self.ops.now.given) (base_of l.self.store.now) ≡ lane_world l.self.store.now l.lanes (base_of l.self.store.now);
}
