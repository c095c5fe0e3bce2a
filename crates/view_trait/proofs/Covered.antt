-- Rosters that cover worlds cover windows of these and what is kept of them.
use Rattle.std.proofs.Common.{◌≡◌, ◌⊎◌, ℕ, ℤ, zero, suc, ◌+◌, ◌<◌, ◌≤◌, Bool, true, false, [], length, refl, sym, ◌∙◌, ap, arith, inl, inr}
use Rattle.std.specs.Prelude.{◌==◌, slice_get, Some}
use Rattle.std.specs.List.{list_any, range_with_len}
use Rattle.std.proofs.lemmas.Bool.{eq-eqb, or_left, or_right, true≢false}
use Rattle.std.proofs.lemmas.List.FromFn.{get_or-range_with_len, length-range_with_len}
use Rattle.std.proofs.lemmas.Option.{slice_get-get_or}
use Rattle.graph_model.specs.declared.events.Entity.{Entity}
use Rattle.graph_model.specs.declared.events.Event.{Event}
use Rattle.graph_model.specs.Interval.{cut}
use Rattle.graph_model.specs.Keep.{keep}
use Rattle.graph_model.specs.Presence.{edge_present, alive_at}
use Rattle.graph_model.specs.Window.{window, clip_list}
use Rattle.graph_model.specs.World.{World, IsLawful, events_of}
use Rattle.world_laws.proofs.Windows.{events_of-window}
use Rattle.world_laws.proofs.Kept.{clip_nothing}
use Rattle.graph_store.specs.Contents.{Contents}
use Rattle.view_trait.specs.Coverage.{Covers, edge_count_on, edges_on, node_count_on, nodes_on}
use Rattle.view_trait.specs.Meaning.{node_at, edge_at, edge_named}
use Rattle.view_trait.specs.Numbered.{is_listed}
use Rattle.view_trait.specs.declared.rosters.Roster.{Roster}
use Rattle.view_trait.specs.declared.rosters.Roster.TheVariants.{All as Whole, Some as Only}
use Rattle.view_trait.proofs.Shown.{cond_nothing, events_of-keep}

-- ---- what is on a roster

-- each number of a range is in it
listed_range : (a n k : ℕ) → a ≤ k → k < a + n → is_listed (range_with_len a n) k ≡ true
listed_range a zero k le lt = absurd (omega arith)
listed_range a (suc n) k le lt = elim (first le) [
  | inl same ↦ or_left (a == k) (is_listed (range_with_len (a + 1) n) k) (eq-eqb a k same)
  | inr more ↦ or_right (a == k) (is_listed (range_with_len (a + 1) n) k) (listed_range (a + 1) n k (omega (arith, more)) (omega (arith, lt)))
]
  where
    first : a ≤ k → (a ≡ k) ⊎ (a < k)
    first h = grind arith

-- and it stands at the place of its name
pub range_place : (n i : ℕ) → i < n → slice_get (range_with_len 0 n) i ≡ Some i
range_place n i below =
    slice_get-get_or (range_with_len 0 n) i 0 (let long = length-range_with_len 0 n in omega (arith, below, long))
    ∙ ap Some (get_or-range_with_len 0 n i 0 below ∙ first)
  where
    first : 0 + i ≡ i
    first = omega arith

-- as many numbers as there are nodes on it, and edges
pub length-nodes_on : (c : Contents) (r : Roster) → length (nodes_on c r) ≡ node_count_on c r
length-nodes_on c Whole = length-range_with_len 0 (length c.nodes)
length-nodes_on c (Only nodes edges) = refl

pub length-edges_on : (c : Contents) (r : Roster) → length (edges_on c r) ≡ edge_count_on c r
length-edges_on c Whole = length-range_with_len 0 (length c.edges)
length-edges_on c (Only nodes edges) = refl

-- ---- what it covers

-- what is listed is not missing
pub Covers-whole : (c : Contents) (w : World) → Covers c w Whole
Covers-whole c w = record {
  nodes = λ n below missing. absurd (true≢false (sym (listed_range 0 (length c.nodes) n (omega arith) (omega (arith, below))) ∙ missing));
  edges = λ e below missing. absurd (true≢false (sym (listed_range 0 (length c.edges) e (omega arith) (omega (arith, below))) ∙ missing));
}

-- an entity without events has none in a window
nothing_in_window : (w : World) (a b : ℤ) (x : Entity) → IsLawful w → events_of w x ≡ [] → events_of (window w a b) x ≡ []
nothing_in_window w a b x lawful h = events_of-window w a b x lawful ∙ (ap (clip_list w.model (cut w.bounds a b)) h ∙ clip_nothing w.model (cut w.bounds a b))

pub Covers-window : (c : Contents) (w : World) (a b : ℤ) (r : Roster) → IsLawful w → Covers c w r → Covers c (window w a b) r
Covers-window c w a b r lawful h = record {
  nodes = λ n below missing. nothing_in_window w a b (node_at c n) lawful (h.nodes n below missing);
  edges = λ e below missing. nothing_in_window w a b (edge_at c e) lawful (h.edges e below missing);
}

-- nor in what is kept
nothing_kept : (p : Entity → Bool) (w : World) (x : Entity) → events_of w x ≡ [] → events_of (keep p w) x ≡ []
nothing_kept p w x h = events_of-keep p w x ∙ cond_nothing (p x) (events_of w x) h

pub Covers-keep : (c : Contents) (w : World) (p : Entity → Bool) (r : Roster) → Covers c w r → Covers c (keep p w) r
Covers-keep c w p r h = record {
  nodes = λ n below missing. nothing_kept p w (node_at c n) (h.nodes n below missing);
  edges = λ e below missing. nothing_kept p w (edge_at c e) (h.edges e below missing);
}

-- an edge that is not on a roster is not present in a world that it covers
pub missing_edge : (c : Contents) (w : World) (r : Roster) → Covers c w r → (e : ℕ) → e < length c.edges → is_listed (edges_on c r) e ≡ false → edge_present w (edge_named c e) ≡ false
missing_edge c w r h e below missing = ap (list_any (λ (x : Event). alive_at w (edge_named c e) x.time)) (h.edges e below missing)
