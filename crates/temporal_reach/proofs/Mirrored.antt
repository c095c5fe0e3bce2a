-- Times of events that are arranged, and the timeline of a store that took its events one after another.
use Rattle.std.proofs.Common.{◌≡◌, ◌<◌, ◌≤ℤ◌, ℕ, ℤ, false, List, [], ◌∷◌, cond, length, map, refl, sym, ◌∙◌, ap, subst}
use Rattle.std.specs.List.{All, AllByRecursion}
use Rattle.std.specs.declared.cmp.Ordering.{Ordering}
use Rattle.std.specs.declared.cmp.Ordering.TheVariants.{Less, Equal, Greater}
use Rattle.std.specs.Ordering.{is_gt, int_cmp, nat_cmp, ordering_then}
use Rattle.std.proofs.lemmas.Cmp.{int_ranked}
use Rattle.graph_model.specs.declared.events.Entity.{Entity}
use Rattle.graph_model.specs.declared.events.Event.{Event}
use Rattle.graph_model.specs.Entity.{about, entity_cmp, entity_of}
use Rattle.graph_model.specs.Rising.{in_order, put_in_order}
use Rattle.graph_model.specs.World.{arrange, event_cmp}
use Rattle.world_laws.proofs.Filters.{each_weaker}
use Rattle.world_laws.proofs.InOrder.{put_first, IsInOrder-in_order}
use Rattle.world_laws.proofs.Listed.{about-arrange}
use Rattle.world_laws.proofs.ListItems.{each_map}
use Rattle.world_laws.proofs.Nested.{TimesRise}
use Rattle.world_laws.proofs.Order.{event_total}
use Rattle.world_laws.proofs.Times.{not_greater}
use Rattle.world_laws.proofs.Windows.{TimesRise-in_order}
use Rattle.graph_store.specs.Contents.{Contents}
use Rattle.view_trait.specs.Meaning.{node_at, edge_at}
use Rattle.lane_scan.specs.declared.hits.Hit.{Hit}
use Rattle.temporal_reach.specs.Mirrors.{IsRowOf, Mirrors, edge_rows, history_times, node_rows, times_of}

-- the time of an event
abbrev pub time_of : Event → ℤ
time_of x = x.time

same_time : (s t : ℤ) → int_cmp s t ≡ Equal → s ≡ t
same_time s t e = int_ranked s t Equal (sym e)

-- one event more before another and those behind it
module _ (x y : Event) (ys : List Event) where
  abbrev Later : Type 0
  Later = map time_of (put_in_order event_cmp x ys) ≡ put_in_order int_cmp x.time (map time_of ys)

  tied : Later → AllByRecursion (λ (z : Event). y.time ≤ℤ z.time) ys → x.time ≡ y.time → y.time ∷ map time_of (put_in_order event_cmp x ys) ≡ x.time ∷ map time_of (y ∷ ys)
  tied later rise e =
      ap (λ ts. y.time ∷ ts) later
      ∙ (ap (λ ts. y.time ∷ ts) (put_first int_cmp x.time (map time_of ys)
      (each_map (λ t. is_gt (int_cmp x.time t) ≡ false) time_of ys
      (each_weaker (λ (z : Event). y.time ≤ℤ z.time) (λ (z : Event). is_gt (int_cmp x.time z.time) ≡ false) (λ z k. not_greater x.time z.time (subst (λ t. t ≤ℤ z.time) (sym e) k)) ys rise)))
      ∙ (ap (λ t. t ∷ x.time ∷ map time_of ys) (sym e) ∙ ap (λ t. x.time ∷ t ∷ map time_of ys) e))

  of_tie : Later → AllByRecursion (λ (z : Event). y.time ≤ℤ z.time) ys → x.time ≡ y.time → (p : Ordering) → map time_of (cond (is_gt p) (y ∷ put_in_order event_cmp x ys) (x ∷ y ∷ ys)) ≡ x.time ∷ map time_of (y ∷ ys)
  of_tie later rise e Less = refl
  of_tie later rise e Equal = refl
  of_tie later rise e Greater = tied later rise e

  by_time : Later → AllByRecursion (λ (z : Event). y.time ≤ℤ z.time) ys → (o : Ordering) → int_cmp x.time y.time ≡ o → (p : Ordering)
      → map time_of (cond (is_gt (ordering_then o p)) (y ∷ put_in_order event_cmp x ys) (x ∷ y ∷ ys)) ≡ cond (is_gt o) (y.time ∷ put_in_order int_cmp x.time (map time_of ys)) (x.time ∷ map time_of (y ∷ ys))
  by_time later rise Less e p = refl
  by_time later rise Equal e p = of_tie later rise (same_time x.time y.time e) p
  by_time later rise Greater e p = ap (λ ts. y.time ∷ ts) later

-- an event that is put where it belongs among events that rise by time has its time put there
put_time : (x : Event) (ys : List Event) → TimesRise ys → map time_of (put_in_order event_cmp x ys) ≡ put_in_order int_cmp x.time (map time_of ys)
put_time x [] h = refl
put_time x (y ∷ ys) h = by_time x y ys (put_time x ys h.1) h.0 (int_cmp x.time y.time) refl (ordering_then (entity_cmp (entity_of x) (entity_of y)) (nat_cmp x.order y.order))

-- the times of events that are arranged are their times, arranged to rise
pub times_arranged : (xs : List Event) → map time_of (arrange xs) ≡ in_order int_cmp (map time_of xs)
times_arranged [] = refl
times_arranged (x ∷ xs) = put_time x (arrange xs) (TimesRise-in_order (arrange xs) (IsInOrder-in_order event_cmp event_total xs)) ∙ ap (put_in_order int_cmp x.time) (times_arranged xs)

-- so the times of an entity's history are those of its accepted events, arranged to rise
pub history_arranged : (c : Contents) (e : Entity) → history_times c e ≡ in_order int_cmp (map time_of (about e c.accepted))
history_arranged c e = ap (map time_of) (about-arrange e c.accepted) ∙ times_arranged (about e c.accepted)

-- rows that have the times of the accepted events, in the order of their arrival, hold a store's events
pub Mirrors-from_arrival : (rows : List Hit) (c : Contents) → All (IsRowOf c) rows
    → ((n : ℕ) → n < length c.nodes → times_of (node_rows rows) n ≡ map (λ (x : Event). x.time) (about (node_at c n) c.accepted))
    → ((e : ℕ) → e < length c.edges → times_of (edge_rows rows) e ≡ map (λ (x : Event). x.time) (about (edge_at c e) c.accepted))
    → Mirrors rows c
Mirrors-from_arrival rows c each nodes edges = record {
  rows = each;
  nodes = λ n below. ap (in_order int_cmp) (nodes n below) ∙ sym (history_arranged c (node_at c n));
  edges = λ e below. ap (in_order int_cmp) (edges e below) ∙ sym (history_arranged c (edge_at c e));
}
