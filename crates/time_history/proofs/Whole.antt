-- The whole of a history, as a span.
use Rattle.std.proofs.Common.{◌≡◌, ◌<ℤ◌, false, List, length, refl, sym, inr, arith}
use Rattle.graph_model.specs.Interval.{Interval}
use Rattle.graph_model.specs.declared.events.Model.{Model}
use Rattle.graph_model.specs.declared.events.Model.TheVariants.{Event as Instants, Persistent}
use Rattle.time_history.specs.declared.updates.Update.{Update}
use Rattle.time_history.specs.Updates.{no_update}
use Rattle.time_history.specs.Spans.{carries, IsTaken, AreWithin}

nothing_before : (model : Model) (us : List Update) → carries model us 0 ≡ false
nothing_before Instants us = refl
nothing_before Persistent us = refl

-- all updates are taken under bounds that they are within
pub whole_taken : (model : Model) (bounds : Interval) (us : List Update) → bounds.lo <ℤ bounds.hi → AreWithin bounds us → IsTaken model bounds us (record { from = 0; to = length us; carried = false })
whole_taken model bounds us some h = inr (record {
  some = some;
  before = λ k lt. absurd (omega arith);
  begun = λ k a b. (h k no_update b).0;
  unended = λ k a b. (h k no_update b).1;
  after = λ k a b. absurd (omega arith);
  carried = sym (nothing_before model us);
})
