-- What a span of a view answers, in the words of the world.
use Rattle.std.proofs.Common.{◌≡◌, ℕ, ◌+◌, ◌-◌, ◌<◌, ◌≤◌, ℤ, Bool, List, Option, length, ◌∙◌, ap, arith}
use Rattle.graph_model.specs.declared.properties.Value.{Value}
use Rattle.graph_model.specs.declared.events.Entity.{Entity}
use Rattle.graph_model.specs.declared.events.Model.{Model}
use Rattle.graph_model.specs.Compare.{value_of}
use Rattle.graph_model.specs.Interval.{Interval}
use Rattle.graph_model.specs.Presence.{alive_at, lives_at}
use Rattle.graph_model.specs.Searches.{digits}
use Rattle.graph_model.specs.World.{World, events_of}
use Rattle.world_laws.proofs.Digits.{digits-le}
use Rattle.time_history.specs.declared.updates.Update.{Update}
use Rattle.time_history.specs.declared.span.Span.{Span}
use Rattle.time_history.specs.Asked.{AreNamed, IsAliveAt, IsValue}
use Rattle.time_history.specs.Spans.{spelled}
use Rattle.graph_store.specs.Keys.{key_name}
use Rattle.graph_store.specs.Contents.{Contents, key_names_for}
use Rattle.view_trait.specs.Meaning.{StepsWithin, Tells, Shows, edge_at, edge_named}
use Rattle.view_trait.proofs.Found.{IsFound, span_fits_store, spelled_is}
use Rattle.view_answers.specs.Costs.{ReadsWithin}

pub value_is : (c : Contents) (w : World) (x : Entity) (us : List Update) (s : Span) (n key : ℕ) (value : Option Value) → Tells c x us → Shows c w x s → AreNamed (key_names_for c x) n us → key < n → IsValue us s key value
    → value ≡ value_of (key_names_for c x key) (events_of w x)
value_is c w x us s n key value t h are lt is = is x (key_names_for c x) n w.bounds.lo t.fits are lt ∙ ap (value_of (key_names_for c x key)) (spelled_is c w x us s t h)

pub alive_is : (c : Contents) (w : World) (e : ℕ) (model : Model) (bounds : Interval) (us : List Update) (s : Span) (m : ℤ) (alive : Bool) → IsFound c w (edge_at c e) model bounds us s → IsAliveAt model bounds us s m alive
    → alive ≡ alive_at w (edge_named c e) m
alive_is c w e model bounds us s m alive f is =
    let names = key_name c.edge_keys in
    is (edge_named c e) names f.tells.fits
    ∙ (ap (λ k. lives_at k bounds (spelled (edge_at c e) names us s bounds.lo) m) f.model_is
    ∙ (ap (λ (b : Interval). lives_at w.model b (spelled (edge_at c e) names us s b.lo) m) f.bounds_are
    ∙ ap (λ xs. lives_at w.model w.bounds xs m) (spelled_is c w (edge_at c e) us s f.tells f.shows)))

-- one search more, in the span, and a reading of what it found
pub one_more : (c : Contents) (w : World) (x : Entity) (model : Model) (bounds : Interval) (us : List Update) (s : Span) (before between after searches : ℕ) → IsFound c w x model bounds us s
    → StepsWithin before between searches (length c.accepted) → after ≤ between + (digits (s.to - s.from) + 1) → ReadsWithin before after (searches + 1) (length c.accepted)
one_more c w x model bounds us s before between after searches f h k =
    let fit = span_fits_store c w x model bounds us s f in
    let fewer = digits-le (s.to - s.from) (length c.accepted) fit in
    grind (arith, h, k, fewer)

-- searches without such readings
pub ReadsWithin-searches : (before after searches among : ℕ) → StepsWithin before after searches among → ReadsWithin before after searches among
ReadsWithin-searches before after searches among h = grind (arith, h)
