-- The base world of a store, shown by whole histories.
use Rattle.std.proofs.Common.{◌≡◌, ℕ, ◌-◌, ◌^◌, ◌≤◌, Bool, true, false, ◌||◌, List, [], ◌∷◌, cond, length, take, slice_range, refl, sym, ◌∙◌, ap, subst, arith}
use Rattle.std.specs.Prelude.{is_some}
use Rattle.std.specs.List.{AllByRecursion}
use Rattle.std.specs.Int.{bit_at}
use Rattle.std.proofs.lemmas.Bool.{or_parts}
use Rattle.std.proofs.lemmas.Nat.Bits.{bit_at_ones}
use Rattle.std.proofs.lemmas.List.{length-map}
use Rattle.std.proofs.Math.Seq.{take-length}
use Rattle.graph_model.specs.declared.events.Entity.{Entity}
use Rattle.graph_model.specs.declared.events.Entity.TheVariants.{Node, Edge}
use Rattle.graph_model.specs.declared.events.Event.{Event}
use Rattle.graph_model.specs.Entity.{entity_of, is_about, about, involves, same_entity}
use Rattle.graph_model.specs.World.{World, IsLawful, event_cmp, events_of, arrange, names_node, type_of, types_in}
use Rattle.world_laws.proofs.Filters.{filter_none, filter_again}
use Rattle.world_laws.proofs.InOrder.{each_in_order}
use Rattle.world_laws.proofs.Order.{same_entity-refl}
use Rattle.world_laws.proofs.Named.{each_fails}
use Rattle.time_history.specs.declared.updates.Update.{Update}
use Rattle.time_history.specs.declared.span.Span.{Span}
use Rattle.time_history.specs.Telling.{event_told}
use Rattle.time_history.specs.Spans.{IsSpan, IsTaken}
use Rattle.graph_store.specs.EdgeParts.{parts_at}
use Rattle.graph_store.specs.Contents.{Contents, base_of, key_names_for}
use Rattle.graph_store.specs.Indexed.{IsIndexed}
use Rattle.graph_store.specs.Histories.{span_of_all}
use Rattle.view_trait.proofs.Told.{same_spans, same_taken}
use Rattle.view_trait.specs.Meaning.{IsShown, Tells, Shows, HasLayers, knows}

-- ---- entities that have no number have no event

about_involves : (name : List ℕ) (e : Entity) → same_entity (Node name) e ≡ true → involves name e ≡ true
about_involves name (Node other) h = ap (λ b. b || false) h
about_involves name (Edge edge) h = cc

none_first : (name : List ℕ) (x : Event) (xs : List Event) → about (Node name) xs ≡ [] → names_node (x ∷ xs) name ≡ false → (b : Bool) → same_entity (Node name) (entity_of x) ≡ b → about (Node name) (x ∷ xs) ≡ []
none_first name x xs rest h true e = absurd (let no : true ≡ false = sym (ap (λ b. b || names_node xs name) (about_involves name (entity_of x) e)) ∙ h in cc)
none_first name x xs rest h false e = ap (λ b. cond b (x ∷ about (Node name) xs) (about (Node name) xs)) e ∙ rest

none_about : (name : List ℕ) (xs : List Event) → names_node xs name ≡ false → about (Node name) xs ≡ []
none_about name [] h = refl
none_about name (x ∷ xs) h = none_first name x xs (none_about name xs ((or_parts (involves name (entity_of x)) (names_node xs name) h).1)) h (same_entity (Node name) (entity_of x)) refl

unknown : (c : Contents) (x : Entity) → IsIndexed c → knows c x ≡ false → about x c.accepted ≡ []
unknown c (Node name) k h = none_about name c.accepted ((or_parts (names_node c.accepted name) (is_some (type_of c.types name)) (sym (k.known_nodes name) ∙ h)).0)
unknown c (Edge edge) k h = filter_none (is_about (Edge edge)) c.accepted (each_fails (is_about (Edge edge)) c.accepted (sym (k.known_edges edge) ∙ h))

-- where entities that fail a test have no event, each event passes it
each_known : (test : Entity → Bool) (xs : List Event) → ((e : Entity) → test e ≡ false → about e xs ≡ []) → AllByRecursion (λ (x : Event). test (entity_of x) ≡ true) xs
each_known test [] h = tt
each_known test (x ∷ xs) h = (
  first (test (entity_of x)) refl,
  each_known test xs (λ e f. later e (is_about e x) refl (h e f)),
)
  where
    first : (b : Bool) → test (entity_of x) ≡ b → test (entity_of x) ≡ true
    first true e = e
    first false e = absurd (let none = h (entity_of x) e in let own = ap (λ b. cond b (x ∷ about (entity_of x) xs) (about (entity_of x) xs)) (same_entity-refl (entity_of x)) in let no : x ∷ about (entity_of x) xs ≡ [] = sym own ∙ none in cc)

    later : (e : Entity) (b : Bool) → is_about e x ≡ b → about e (x ∷ xs) ≡ [] → about e xs ≡ []
    later e true t none = absurd (let no : x ∷ about e xs ≡ [] = sym (ap (λ b. cond b (x ∷ about e xs) (about e xs)) t) ∙ none in cc)
    later e false t none = sym (ap (λ b. cond b (x ∷ about e xs) (about e xs)) t) ∙ none

types_again : (xs : List Event) (types : List (List ℕ × List ℕ)) → types_in xs types ≡ types_in xs (types_in xs types)
types_again xs types = sym (filter_again (λ (t : List ℕ × List ℕ). names_node xs t.0) (λ (t : List ℕ × List ℕ). names_node xs t.0) (λ t e. e) types)

pub IsShown-base : (c : Contents) → IsLawful (base_of c) → IsIndexed c → length c.layers ≤ 64 → IsShown c (base_of c)
IsShown-base c h k few = record {
  indexed = k;
  few_layers = few;
  model = refl;
  lawful = h;
  known = each_in_order event_cmp (λ (x : Event). knows c (entity_of x) ≡ true) c.accepted (each_known (knows c) c.accepted (λ e f. unknown c e k f));
  types = types_again (arrange c.accepted) c.types;
}

-- each layer has its bit
pub HasLayers-all : (c : Contents) (w : World) → IsShown c w → HasLayers c w (2 ^ 64 - 1)
HasLayers-all c w h = record {
  none = λ e k n.
      let p = (h.indexed.within e k).2 in
      let f = h.few_layers in
      let one : bit_at (2 ^ 64 - 1) (parts_at c.edges e).layer ≡ 1 = bit_at_ones 64 (parts_at c.edges e).layer (omega arith) in
      absurd (omega (arith, sym one ∙ n));
}

-- ---- whole histories

slice_whole : {X : Type 0} (xs : List X) (n : ℕ) → n ≡ length xs → slice_range xs 0 n ≡ xs
slice_whole xs n e = let k : n - 0 ≡ length xs = omega (arith, e) in ap (λ m. take m xs) k ∙ take-length xs

whole_span : (us : List Update) → IsSpan us (span_of_all us)
whole_span us = record { order = omega arith; end = omega arith; carried = λ f. cc }

pub Shows-whole : (c : Contents) (x : Entity) (us : List Update) (s : Span) → Tells c x us → s ≡ span_of_all us → IsTaken c.model c.bounds us (span_of_all us) → Shows c (base_of c) x s
Shows-whole c x us s t is taken = subst (Shows c (base_of c) x) (sym is) (record {
  span = λ vs k. same_spans x (key_names_for c x) us vs (t.told ∙ sym k.told) t.fits k.fits (span_of_all us) (whole_span us);
  taken = λ vs k. same_taken x (key_names_for c x) us vs (t.told ∙ sym k.told) t.fits k.fits c.model c.bounds (span_of_all us) (whole_span us) taken;
  spells = slice_whole (events_of (base_of c) x) (length us) (sym (length-map us (event_told x (key_names_for c x))) ∙ ap length t.told);
})
