-- What a test of entities says, and what it costs.
use Rattle.std.specs.Prelude.{ℕ, ◌*◌, ◌<◌, ◌≡◌, ◌&&◌, Bool, true, false, List, length}
use Rattle.graph_model.specs.declared.events.Entity.{Entity}
use Rattle.graph_model.specs.Searches.{Searches, IsNodeFilter, searches_with}
use Rattle.graph_model.specs.World.{World}
use Rattle.time_history.specs.declared.updates.Update.{Update}
use Rattle.time_history.specs.declared.span.Span.{Span}
use Rattle.time_history.specs.Spans.{IsSpan}
use Rattle.graph_store.specs.EdgeParts.{parts_at}
use Rattle.graph_store.specs.Contents.{Contents}
use Rattle.view_trait.specs.Meaning.{IsShown, Tells, node_at, edge_at}
use Rattle.view_trait.specs.Numbered.{has_bit}

-- a span of whatever updates tell an entity's events
abbrev pub IsSpanOf : Contents → Entity → Span → Type 0
IsSpanOf c x s = (us : List Update) → Tells c x us → IsSpan us s

-- edges in layers whose bits are not in a number do not pass
pub record PassesLayers (passes : Contents → World → Entity → Bool) (bits : ℕ) : Type 0 where
  pub none : (c : Contents) (w : World) (e : ℕ) → IsShown c w → e < length c.edges → has_bit bits (parts_at c.edges e).layer ≡ false → passes c w (edge_at c e) ≡ false

-- whether both ends of an edge pass
abbrev pub ends_pass : (Entity → Bool) → Contents → ℕ → Bool
ends_pass passes c e = passes (node_at c (parts_at c.edges e).src) && passes (node_at c (parts_at c.edges e).dst)

-- the searches for the ends of an edge, where they are asked
abbrev pub end_searches : Bool → Searches → ℕ
end_searches true s = 2 * s.nodes
end_searches false s = 0

-- the searches of a view that keeps what passes
abbrev pub searches_kept : Bool → Searches → Searches
searches_kept true s = searches_with s IsNodeFilter
searches_kept false s = s

-- a test that asks no ends passes no edge by them
pub never_asked : {X : Type 0} → false ≡ true → X
never_asked h = cc
