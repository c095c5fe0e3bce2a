-- Values in spans, and what filters keep.
use Rattle.std.proofs.Common.{◌≡◌, ℕ, ◌<◌, ◌≤◌, ℤ, Bool, true, false, ◌&&◌, List, length, Option, Some, None, nat_lt, refl, sym, ◌∙◌, ap, arith}
use Rattle.std.specs.Option.{option_map, option_map_or}
use Rattle.std.specs.List.{last_or}
use Rattle.std.proofs.lemmas.Bool.Decides.{nat_tests}
use Rattle.graph_model.specs.declared.properties.Value.{Value}
use Rattle.graph_model.specs.declared.properties.ValueType.{ValueType}
use Rattle.graph_model.specs.declared.queries.Cmp.{Cmp}
use Rattle.graph_model.specs.declared.events.Entity.{Entity}
use Rattle.graph_model.specs.declared.events.Event.{Event}
use Rattle.graph_model.specs.declared.events.What.{What}
use Rattle.graph_model.specs.declared.events.What.TheVariants.{Node as NodeUpdate, Add, Delete}
use Rattle.graph_model.specs.Entity.{adds, is_addition}
use Rattle.graph_model.specs.Compare.{value_of, holds}
use Rattle.graph_model.specs.Presence.{ends_in_addition}
use Rattle.graph_model.specs.World.{World}
use Rattle.time_history.specs.declared.updates.Kind.{Kind}
use Rattle.time_history.specs.declared.updates.Update.{Update}
use Rattle.time_history.specs.declared.span.Span.{Span}
use Rattle.time_history.specs.Telling.{Fits}
use Rattle.time_history.specs.Spans.{spelled}
use Rattle.time_history.specs.Asked.{AreNamed, IsValue, IsLastKind, kind_of_event}
use Rattle.graph_store.specs.Keys.{key_name}
use Rattle.graph_store.specs.Contents.{Contents, name_at}
use Rattle.view_trait.specs.Meaning.{Tells, Shows, node_at, edge_at}
use Rattle.view_trait.proofs.Found.{spelled_is}
use Rattle.view_trait.specs.Filtered.{key_holds, node_compares, edge_passes}
use Rattle.entity_tests.specs.Kinds.{is_add}

-- a key that is not there
pub holds_beyond : (table : List (List ℕ × ValueType)) (key : ℕ) (c : Cmp) (v : Value) (xs : List Event) → length table ≤ key → false ≡ key_holds table (Some key) c v xs
holds_beyond table key c v xs h = let t : nat_lt key (length table) ≡ false = grind (arith, nat_tests, h) in sym (ap (λ b. b && holds (value_of (key_name table key) xs) c v) t)

-- and one that is
pub holds_within : (table : List (List ℕ × ValueType)) (key : ℕ) (c : Cmp) (v : Value) (us : List Update) (span : Span) (value : Option Value) (entity : Entity) (lo : ℤ) → Fits entity us → AreNamed (key_name table) (length table) us → key < length table
    → IsValue us span key value → holds value c v ≡ key_holds table (Some key) c v (spelled entity (key_name table) us span lo)
holds_within table key c v us span value entity lo fits are lt is =
    let t : nat_lt key (length table) ≡ true = grind (arith, nat_tests, lt) in
    ap (λ o. holds o c v) (is entity (key_name table) (length table) lo fits are lt) ∙ sym (ap (λ b. b && holds (value_of (key_name table key) (spelled entity (key_name table) us span lo)) c v) t)

-- what a call that compares the value of a key says
abbrev pub Compares : List Update → Span → ℕ → Option ℕ → Cmp → Value → Bool → Type 0
Compares us span keys key c v b = (entity : Entity) (table : List (List ℕ × ValueType)) (lo : ℤ) → Fits entity us → length table ≡ keys → AreNamed (key_name table) (length table) us → b ≡ key_holds table key c v (spelled entity (key_name table) us span lo)

pub edge_compared : (s : Contents) (w : World) (e : ℕ) (us : List Update) (span : Span) (keys : ℕ) (key : Option ℕ) (c : Cmp) (v : Value) (b : Bool)
    → Tells s (edge_at s e) us → Shows s w (edge_at s e) span → AreNamed (key_name s.edge_keys) (length s.edge_keys) us → length s.edge_keys ≡ keys → Compares us span keys key c v b → edge_passes s w key c v (edge_at s e) ≡ b
edge_compared s w e us span keys key c v b t h are n k =
    sym (k (edge_at s e) s.edge_keys w.bounds.lo t.fits n are ∙ ap (key_holds s.edge_keys key c v) (spelled_is s w (edge_at s e) us span t h))

pub node_compared : (s : Contents) (w : World) (n : ℕ) (us : List Update) (span : Span) (keys : ℕ) (key : Option ℕ) (c : Cmp) (v : Value) (b : Bool)
    → Tells s (node_at s n) us → Shows s w (node_at s n) span → AreNamed (key_name s.node_keys) (length s.node_keys) us → length s.node_keys ≡ keys → Compares us span keys key c v b → node_compares s w key c v (name_at s.nodes n) ≡ b
node_compared s w n us span keys key c v b t h are m k =
    sym (k (node_at s n) s.node_keys w.bounds.lo t.fits m are ∙ ap (key_holds s.node_keys key c v) (spelled_is s w (node_at s n) us span t h))

-- ---- additions that come last

add_is : (what : What) → is_add (kind_of_event what) ≡ adds what
add_is (NodeUpdate name props) = refl
add_is (Add edge props) = refl
add_is (Delete edge) = refl

added : (o : Option Event) → option_map_or is_add (option_map (λ (x : Event). kind_of_event x.what) o) false ≡ option_map_or is_addition o false
added None = refl
added (Some x) = add_is x.what

pub last_added : (kind : Option Kind) (us : List Update) (span : Span) (entity : Entity) (names : ℕ → List ℕ) (lo : ℤ) → Fits entity us → IsLastKind us span kind → option_map_or is_add kind false ≡ ends_in_addition (spelled entity names us span lo)
last_added kind us span entity names lo fits h = ap (λ o. option_map_or is_add o false) (h entity names lo fits) ∙ added (last_or None (spelled entity names us span lo))
