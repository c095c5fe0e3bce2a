-- The next contact of an edge, from what its span spells.
use Rattle.std.proofs.Common.{◌≡◌, ℕ, ℤ, List, Option, Some, None, sym, ◌∙◌, ap}
use Rattle.std.proofs.lemmas.Bool.{true≢false}
use Rattle.std.proofs.lemmas.Int.{by_lt_z}
use Rattle.graph_model.specs.declared.events.Model.{Model}
use Rattle.graph_model.specs.Interval.{Interval}
use Rattle.graph_model.specs.Presence.{alive_at, lives_at}
use Rattle.graph_model.specs.World.{World}
use Rattle.time_history.specs.declared.updates.Update.{Update}
use Rattle.time_history.specs.declared.span.Span.{Span}
use Rattle.time_history.specs.Asked.{IsNextContact}
use Rattle.time_history.specs.Spans.{spelled}
use Rattle.graph_store.specs.Keys.{key_name}
use Rattle.graph_store.specs.Contents.{Contents}
use Rattle.view_trait.specs.Meaning.{edge_at, edge_named}
use Rattle.view_trait.specs.Contacts.{IsContactAfter}
use Rattle.view_trait.proofs.Found.{IsFound, spelled_is}

-- an edge lives by what its span spells where it is alive in the world
lives_is : (c : Contents) (w : World) (e : ℕ) (model : Model) (bounds : Interval) (us : List Update) (s : Span) (m : ℤ) → IsFound c w (edge_at c e) model bounds us s
    → lives_at model bounds (spelled (edge_at c e) (key_name c.edge_keys) us s bounds.lo) m ≡ alive_at w (edge_named c e) m
lives_is c w e model bounds us s m f =
    let names = key_name c.edge_keys in
    ap (λ k. lives_at k bounds (spelled (edge_at c e) names us s bounds.lo) m) f.model_is
    ∙ (ap (λ (b : Interval). lives_at w.model b (spelled (edge_at c e) names us s b.lo) m) f.bounds_are
    ∙ ap (λ xs. lives_at w.model w.bounds xs m) (spelled_is c w (edge_at c e) us s f.tells f.shows))

pub next_is : (c : Contents) (w : World) (e : ℕ) (model : Model) (bounds : Interval) (us : List Update) (s : Span) (after : ℤ) (next : Option ℤ) → IsFound c w (edge_at c e) model bounds us s → IsNextContact model bounds us s after next
    → IsContactAfter w (edge_named c e) after next
next_is c w e model bounds us s after None f is =
    λ t later contact. true≢false (sym contact ∙ (sym (lives_is c w e model bounds us s t f) ∙ is (edge_named c e) (key_name c.edge_keys) f.tells.fits t later))
next_is c w e model bounds us s after (Some m) f is =
    let h = is (edge_named c e) (key_name c.edge_keys) f.tells.fits in (
      h.0,
      sym (lives_is c w e model bounds us s m f) ∙ h.1,
      λ t later contact. by_lt_z t m
          (λ early. absurd (true≢false (sym contact ∙ (sym (lives_is c w e model bounds us s t f) ∙ h.2 t later early))))
          (λ le. le),
    )
