-- Views that come to one window and one set of layers.
use Rattle.std.specs.Prelude.{Bool, true, false}
use Rattle.graph_model.specs.Window.{window}
use Rattle.graph_model.specs.World.{World}
use Rattle.graph_store.specs.Contents.{Contents}
use Rattle.view_trait.specs.declared.ready_ops.ReadyOp.{ReadyOp}
use Rattle.view_trait.specs.declared.ready_ops.ReadyOp.TheVariants.{Window, Layers}
use Rattle.view_trait.specs.Numbered.{layer_world}
use Rattle.fused_view.specs.declared.lanes.Lanes.{Lanes}

-- whether a view is a window or a view of layers
abbrev pub is_lane : ReadyOp → Bool
is_lane (Window a b) = true
is_lane (Layers bits) = true
is_lane _ = false

-- what a world shows of some layers from a moment up to another
abbrev pub lane_world : Contents → Lanes → World → World
lane_world c lanes w = layer_world c lanes.layers (window w lanes.from lanes.to)
