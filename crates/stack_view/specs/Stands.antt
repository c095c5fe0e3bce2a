-- Parts of histories that stand for entities of a world.
use Rattle.std.specs.Prelude.{◌≡◌}
use Rattle.graph_model.specs.declared.events.Entity.{Entity}
use Rattle.graph_model.specs.World.{World}
use Rattle.graph_store.specs.Contents.{Contents}
use Rattle.view_trait.specs.Meaning.{Shows}
use Rattle.stack_view.specs.declared.bounded_spans.BoundedSpan.{BoundedSpan}

-- a part that stands for an entity's events in a world, with the world's bounds
pub record StandsFor (c : Contents) (w : World) (x : Entity) (part : BoundedSpan) : Type 0 where
  pub shows : Shows c w x part.span
  pub bounds : part.bounds ≡ w.bounds
