-- What views show of entities, from what they stand on.
use Rattle.std.proofs.Common.{◌≡◌, ℕ, ℤ, Bool, true, false, List, [], cond, refl, sym, ◌∙◌, ap, subst, arith, inl, inr}
use Rattle.std.specs.List.{filter}
use Rattle.graph_model.specs.declared.events.Entity.{Entity}
use Rattle.graph_model.specs.declared.events.Event.{Event}
use Rattle.graph_model.specs.declared.events.Model.{Model}
use Rattle.graph_model.specs.Interval.{Interval, cut, is_empty}
use Rattle.graph_model.specs.Entity.{entity_of}
use Rattle.graph_model.specs.World.{World, names_node, events_of, types_in}
use Rattle.graph_model.specs.Window.{window, window_list, clip_list}
use Rattle.graph_model.specs.Keep.{keep}
use Rattle.graph_model.specs.Spell.{spell}
use Rattle.world_laws.proofs.Windows.{events_of-window}
use Rattle.world_laws.proofs.Lawful.{IsLawful-window, IsLawful-keep}
use Rattle.world_laws.proofs.Kept.{about-kept, clip_nothing}
use Rattle.world_laws.proofs.Filters.{each_kept}
use Rattle.world_laws.proofs.Named.{each_entity_window, remake_twice, names_node-window_list, names_node-filter}
use Rattle.world_laws.proofs.Times.{cut_lo_above, cut_hi_below}
use Rattle.time_history.specs.declared.updates.Update.{Update}
use Rattle.time_history.specs.declared.span.Span.{Span}
use Rattle.time_history.specs.Spans.{IsSpan, IsTaken, IsEmptyOrInside, IsClipped}
use Rattle.graph_store.specs.Contents.{Contents, base_of, key_names_for}
use Rattle.view_trait.specs.Meaning.{IsShown, Tells, Shows, HasLayers, edge_at, knows}
use Rattle.view_trait.proofs.Told.{same_spans, same_taken}

-- ---- windows

-- the types of a world that names no more nodes
types_remade : (c : Contents) (w : World) (i : Interval) (ys : List Event) → w.types ≡ types_in w.events (base_of c).types → ((n : List ℕ) → names_node ys n ≡ true → names_node w.events n ≡ true)
    → types_in ys w.types ≡ types_in ys (base_of c).types
types_remade c w i ys h k = ap (types_in ys) h ∙ ap (λ (v : World). v.types) (remake_twice (base_of c) i i w.events ys k)

pub IsShown-window : (c : Contents) (w : World) (a b : ℤ) → IsShown c w → IsShown c (window w a b)
IsShown-window c w a b h = record {
  indexed = h.indexed;
  few_layers = h.few_layers;
  model = h.model;
  lawful = IsLawful-window w a b h.lawful;
  known = each_entity_window (λ e. knows c e ≡ true) w.model (cut w.bounds a b) w.events h.known;
  types = types_remade c w w.bounds (window_list w.model (cut w.bounds a b) w.events) h.types (names_node-window_list w.model (cut w.bounds a b) w.events);
}

pub HasLayers-window : (c : Contents) (w : World) (a b : ℤ) (kept : ℕ) → IsShown c w → HasLayers c w kept → HasLayers c (window w a b) kept
HasLayers-window c w a b kept shown h = record {
  none = λ e k n. events_of-window w a b (edge_at c e) shown.lawful ∙ (ap (clip_list w.model (cut w.bounds a b)) (h.none e k n) ∙ clip_nothing w.model (cut w.bounds a b));
}

-- the part of a history that a window cuts out of another shows the window
pub Shows-window : (c : Contents) (w : World) (a b : ℤ) (x : Entity) (us : List Update) (s r : Span) → IsShown c w → Tells c x us → Shows c w x s
    → IsSpan us r → IsTaken w.model (cut w.bounds a b) us r → IsClipped w.model w.bounds (cut w.bounds a b) us s r
    → Shows c (window w a b) x r
Shows-window c w a b x us s r shown tells h span taken clipped =
    let names = key_names_for c x in
    let i = cut w.bounds a b in
    record {
      span = λ vs t. same_spans x names us vs (tells.told ∙ sym t.told) tells.fits t.fits r span;
      taken = λ vs t. same_taken x names us vs (tells.told ∙ sym t.told) tells.fits t.fits w.model i r span taken;
      spells =
          ap (λ es. spell es r.from r.to r.carried i.lo) (sym tells.told)
          ∙ (clipped x names tells.fits
          ∙ (ap (λ es. clip_list w.model i (spell es s.from s.to s.carried w.bounds.lo)) tells.told
          ∙ (ap (clip_list w.model i) h.spells ∙ sym (events_of-window w a b x shown.lawful))));
    }

-- the same, for the model and the bounds that a call is given
pub Shows-clipped : (c : Contents) (w : World) (a b : ℤ) (x : Entity) (us : List Update) (s r : Span) (model : Model) (bounds i : Interval) → IsShown c w → w.model ≡ model → w.bounds ≡ bounds → i ≡ cut bounds a b → Tells c x us → Shows c w x s
    → IsSpan us r → IsTaken model i us r → IsClipped model bounds i us s r → Shows c (window w a b) x r
Shows-clipped c w a b x us s r model bounds i shown m n e tells h span taken clipped =
    let same : i ≡ cut w.bounds a b = e ∙ ap (λ j. cut j a b) (sym n) in
    Shows-window c w a b x us s r shown tells h span
    (subst (λ j. IsTaken w.model j us r) same (subst (λ k. IsTaken k i us r) (sym m) taken))
    (subst (λ j. IsClipped w.model w.bounds j us s r) same (subst (λ j. IsClipped w.model j i us s r) (sym n) (subst (λ k. IsClipped k bounds i us s r) (sym m) clipped)))

pub IsEmptyOrInside-cut : (i : Interval) (a b : ℤ) → IsEmptyOrInside i (cut i a b)
IsEmptyOrInside-cut i a b = part (is_empty (cut i a b)) refl
  where
    part : (t : Bool) → is_empty (cut i a b) ≡ t → IsEmptyOrInside i (cut i a b)
    part true e = inl e
    part false e = inr (cut_lo_above i a b, cut_hi_below i a b e)

-- ---- views that keep or drop entities

pub events_of-keep : (p : Entity → Bool) (w : World) (x : Entity) → events_of (keep p w) x ≡ cond (p x) (events_of w x) []
events_of-keep p w x = about-kept p x w.events

pub cond_nothing : (t : Bool) (xs : List Event) → xs ≡ [] → cond t xs [] ≡ []
cond_nothing true xs h = h
cond_nothing false xs h = refl

pub IsShown-keep : (p : Entity → Bool) (c : Contents) (w : World) → IsShown c w → IsShown c (keep p w)
IsShown-keep p c w h = record {
  indexed = h.indexed;
  few_layers = h.few_layers;
  model = h.model;
  lawful = IsLawful-keep p w h.lawful;
  known = each_kept (λ (x : Event). knows c (entity_of x) ≡ true) (λ (x : Event). p (entity_of x)) w.events h.known;
  types = types_remade c w w.bounds (filter (λ (x : Event). p (entity_of x)) w.events) h.types (names_node-filter (λ (x : Event). p (entity_of x)) w.events);
}

pub HasLayers-keep : (p : Entity → Bool) (c : Contents) (w : World) (kept : ℕ) → HasLayers c w kept → HasLayers c (keep p w) kept
HasLayers-keep p c w kept h = record {
  none = λ e k n. events_of-keep p w (edge_at c e) ∙ cond_nothing (p (edge_at c e)) (events_of w (edge_at c e)) (h.none e k n);
}

-- an entity that is kept shows what it did
pub Shows-kept : (p : Entity → Bool) (c : Contents) (w : World) (x : Entity) (s : Span) → p x ≡ true → Shows c w x s → Shows c (keep p w) x s
Shows-kept p c w x s e h = record {
  span = h.span;
  taken = h.taken;
  spells = h.spells ∙ sym (events_of-keep p w x ∙ ap (λ t. cond t (events_of w x) []) e);
}

-- one that is dropped shows nothing
pub Shows-nothing : (p : Entity → Bool) (c : Contents) (w : World) (x : Entity) (s : Span) → p x ≡ false → s ≡ record { from = 0; to = 0; carried = false } → Shows c (keep p w) x s
Shows-nothing p c w x s e is = subst (Shows c (keep p w) x) (sym is) (record {
  span = λ us t. record { order = omega arith; end = omega arith; carried = λ f. cc };
  taken = λ us t. inl (refl, refl);
  spells = sym (events_of-keep p w x ∙ ap (λ t. cond t (events_of w x) []) e);
})
