use Rattle.std.proofs.Common.{◌≡◌, map, take}
use Rattle.graph_model.specs.Searches.{searches}
use Rattle.view_trait.specs.Ready.{ready_kind}
use Rattle.fused_view.specs.Counts.{counted}
use Rattle.fused_view.proofs.view.FusedView.searches.Given as goal

-- the searches of the first views
abbrev pub invariant-loop-i : goal.invariant-loop-i
invariant-loop-i l = l.all ≡ counted (searches (map ready_kind (take l.i l.self.ops.now.merged)))
