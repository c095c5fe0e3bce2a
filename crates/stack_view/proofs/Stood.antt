-- Parts of histories that stand for entities.
use Rattle.std.proofs.Common.{◌≡◌, Bool, true, false, List, sym, ◌∙◌}
use Rattle.graph_model.specs.declared.events.Entity.{Entity}
use Rattle.graph_model.specs.declared.events.Model.{Model}
use Rattle.graph_model.specs.Interval.{Interval}
use Rattle.graph_model.specs.World.{World}
use Rattle.graph_model.specs.Keep.{keep}
use Rattle.time_history.specs.declared.updates.Update.{Update}
use Rattle.time_history.specs.declared.span.Span.{Span}
use Rattle.time_history.specs.Spans.{IsTaken}
use Rattle.graph_store.specs.Contents.{Contents, base_of}
use Rattle.graph_store.specs.Histories.{span_of_all}
use Rattle.view_trait.specs.Meaning.{IsShown, Tells}
use Rattle.view_trait.proofs.Shown.{Shows-kept, Shows-nothing}
use Rattle.view_trait.proofs.Found.{IsFound}
use Rattle.view_trait.proofs.Whole.{Shows-whole}
use Rattle.stack_view.specs.declared.bounded_spans.BoundedSpan.{BoundedSpan}
use Rattle.stack_view.specs.Stands.{StandsFor}

pub StandsFor-kept : (p : Entity → Bool) (c : Contents) (w : World) (x : Entity) (part : BoundedSpan) → p x ≡ true → StandsFor c w x part → StandsFor c (keep p w) x part
StandsFor-kept p c w x part e h = record { shows = Shows-kept p c w x part.span e h.shows; bounds = h.bounds }

pub StandsFor-nothing : (p : Entity → Bool) (c : Contents) (w : World) (x : Entity) (part : BoundedSpan) (s : Span) → p x ≡ false → s ≡ record { from = 0; to = 0; carried = false } → StandsFor c w x part → StandsFor c (keep p w) x (record { span = s; bounds = part.bounds })
StandsFor-nothing p c w x part s e is h = record { shows = Shows-nothing p c w x s e is; bounds = h.bounds }

-- a whole history stands for its entity in the base world
pub StandsFor-whole : (c : Contents) (x : Entity) (us : List Update) (s : Span) (bounds : Interval) → Tells c x us → s ≡ span_of_all us → IsTaken c.model c.bounds us (span_of_all us) → bounds ≡ c.bounds → StandsFor c (base_of c) x (record { span = s; bounds = bounds })
StandsFor-whole c x us s bounds tells is taken e = record { shows = Shows-whole c x us s tells is taken; bounds = e }

-- what a call finds for an entity, from a part that stands for it
pub part_found : (c : Contents) (w : World) (x : Entity) (model : Model) (us : List Update) (part : BoundedSpan) → IsShown c w → model ≡ c.model → Tells c x us → StandsFor c w x part → IsFound c w x model part.bounds us part.span
part_found c w x model us part shown same tells h = record { shown = shown; model_is = same ∙ sym shown.model; bounds_are = h.bounds; tells = tells; shows = h.shows }
