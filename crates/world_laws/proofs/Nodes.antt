-- Which nodes are present, and which are neighbours.
use Rattle.std.proofs.Common.{◌≡◌, ℕ, Bool, true, false, ◌&&◌, ◌||◌, List, [], ◌∷◌, cond, inl, inr, ◌⊎◌, refl, sym, ◌∙◌, ap, subst}
use Rattle.std.specs.Prelude.{IsTrue, ◌↔◌, ◌≢◌}
use Rattle.std.specs.List.{filter, list_any}
use Rattle.std.proofs.lemmas.Bool.{cases_Bool, or_left, or_right, or_cases, and_parts, and_from, true≢false}
use Rattle.graph_model.specs.declared.events.EdgeName.{EdgeName}
use Rattle.graph_model.specs.declared.events.Entity.{Entity}
use Rattle.graph_model.specs.declared.events.Entity.TheVariants.{Node, Edge}
use Rattle.graph_model.specs.declared.queries.Direction.{Direction}
use Rattle.graph_model.specs.declared.queries.Direction.TheVariants.{Outward, Inward, Both}
use Rattle.std.specs.Ordering.{int_eq, is_eq}
use Rattle.std.proofs.lemmas.Cmp.{int_cmp_total, tied_itself}
use Rattle.graph_model.specs.Interval.{Interval}
use Rattle.graph_model.specs.declared.events.Event.{Event}
use Rattle.graph_model.specs.declared.events.Model.{Model}
use Rattle.graph_model.specs.declared.events.Model.TheVariants.{Event as Instants, Persistent}
use Rattle.graph_model.specs.Names.{name_cmp, same_name}
use Rattle.graph_model.specs.Rising.{Rises}
use Rattle.graph_model.specs.Entity.{is_about, is_addition, entities, same_edge}
use Rattle.graph_model.specs.World.{World, IsLawful, events_of}
use Rattle.graph_model.specs.Presence.{lives_at, node_present, edge_present, is_present_at, nodes, edges}
use Rattle.graph_model.specs.Neighbours.{edge_leads, leads, neighbours}
use Rattle.world_laws.specs.Contacts.{HasContact, IsEnd}
use Rattle.world_laws.proofs.Filters.{any_weaker}
use Rattle.world_laws.proofs.Order.{same_name-exact, same_name-refl, same_edge-exact}
use Rattle.world_laws.proofs.Listed.{about_none}
use Rattle.world_laws.proofs.Named.{Rises-filter}
use Rattle.world_laws.proofs.Present.{some_passes, contact_from_present, present_from_contact}
use Rattle.world_laws.proofs.Members.{any_filter, any_same, any_both, and_when, nodes_has, nodes_rise, edges_has}
use Rattle.world_laws.proofs.Reach.{linked, leads_present, end_present}

-- ---- the words for a present node
kept_some : {X : Type 0} (p : X → Bool) (xs : List X) → list_any p xs ≡ true → filter p xs ≡ [] → ⊥
kept_some p [] h e = true≢false (sym h)
kept_some {X} p (x ∷ xs) h e = cases (p x) (kept_some p xs) h e
  where
    cases : (t : Bool) → (list_any p xs ≡ true → filter p xs ≡ [] → ⊥) → (t || list_any p xs) ≡ true → cond t (x ∷ filter p xs) (filter p xs) ≡ [] → ⊥
    cases true f h e = cc
    cases false f h e = f h e

abbrev EndsOnContact : World → List ℕ → Type 0
EndsOnContact w node = (edge : EdgeName) × IsEnd node edge × HasContact w edge

end_from_test : (w : World) (node : List ℕ) (e : Entity) → is_present_at w node e ≡ true → EndsOnContact w node
end_from_test w node (Node name) h = absurd (true≢false (sym h))
end_from_test w node (Edge edge) h =
    let k = and_parts (same_name edge.src node || same_name edge.dst node) (edge_present w edge) h in
    (edge, ends edge k.0, contact_from_present w edge k.1)
  where
    ends : (edge : EdgeName) → (same_name edge.src node || same_name edge.dst node) ≡ true → IsEnd node edge
    ends edge m = elim (or_cases (same_name edge.src node) (same_name edge.dst node) m) [
      | inl e ↦ inl (same_name-exact edge.src node e)
      | inr e ↦ inr (same_name-exact edge.dst node e)
    ]

end_test : (edge : EdgeName) (node : List ℕ) → IsEnd node edge → (same_name edge.src node || same_name edge.dst node) ≡ true
end_test edge node (inl e) = or_left (same_name edge.src node) (same_name edge.dst node) (subst (λ z. same_name edge.src z ≡ true) e (same_name-refl edge.src))
end_test edge node (inr e) = or_right (same_name edge.src node) (same_name edge.dst node) (subst (λ z. same_name edge.dst z ≡ true) e (same_name-refl edge.dst))

own_present : (w : World) (node : List ℕ) → (events_of w (Node node) ≡ [] → ⊥) → node_present w node ≡ true
own_present w node h = elim (cases_Bool (list_any (is_about (Node node)) w.events)) [
  | inl e ↦ or_left (list_any (is_about (Node node)) w.events) (list_any (is_present_at w node) (entities w.events)) e
  | inr e ↦ absurd (h (about_none (Node node) w.events e))
]

pub node_words : (w : World) (node : List ℕ) → IsLawful w → IsTrue (node_present w node) ↔ ((events_of w (Node node) ≢ []) ⊎ EndsOnContact w node)
node_words w node lawful = (
  λ h. elim (or_cases (list_any (is_about (Node node)) w.events) (list_any (is_present_at w node) (entities w.events)) h) [
    | inl e ↦ inl (kept_some (is_about (Node node)) w.events e)
    | inr e ↦ let s = some_passes (is_present_at w node) (entities w.events) e in inr (end_from_test w node s.0 s.1)
  ],
  λ h. elim h [
    | inl e ↦ own_present w node e
    | inr e ↦ end_present w e.0 node (present_from_contact w e.0 e.2.0 lawful e.2.1) (end_test e.0 node e.1)
  ],
)

-- ---- neighbours
same_lead : (w : World) (d : Direction) (a b n : List ℕ) → (leads w d a n && same_name b n) ≡ (leads w d a b && same_name b n)
same_lead w d a b n = elim (cases_Bool (same_name b n)) [
  | inl e ↦ ap (λ z. leads w d a z && same_name b n) (sym (same_name-exact b n e))
  | inr e ↦ ap (λ t. leads w d a n && t) e ∙ (both_false (leads w d a n) (leads w d a b) ∙ sym (ap (λ t. leads w d a b && t) e))
]
  where
    both_false : (s t : Bool) → (s && false) ≡ (t && false)
    both_false true true = refl
    both_false true false = refl
    both_false false true = refl
    both_false false false = refl

-- the neighbours are what present edges lead to
pub neighbours_has : (w : World) (d : Direction) (a b : List ℕ) → list_any (same_name b) (neighbours w d a) ≡ leads w d a b
neighbours_has w d a b =
    any_filter (leads w d a) (same_name b) (nodes w)
    ∙ (any_same (λ n. leads w d a n && same_name b n) (λ n. leads w d a b && same_name b n) (same_lead w d a b) (nodes w)
    ∙ (any_both (leads w d a b) (same_name b) (nodes w)
    ∙ (ap (λ t. leads w d a b && t) (nodes_has w b) ∙ and_when (leads w d a b) (node_present w b) (leads_present w d a b))))

linked_back : (w : World) (a b : List ℕ) (edge : EdgeName) → edge_present w edge ≡ true → edge.src ≡ a → edge.dst ≡ b → list_any (edge_leads a b) (edges w) ≡ true
linked_back w a b edge h p q =
    any_weaker (same_edge edge) (edge_leads a b)
    (λ f s. subst (λ z. edge_leads a b z ≡ true) (same_edge-exact edge f s)
    (and_from (same_name a edge.src) (same_name b edge.dst) (subst (λ z. same_name z edge.src ≡ true) p (same_name-refl edge.src)) (subst (λ z. same_name z edge.dst ≡ true) q (same_name-refl edge.dst))))
    (edges w) (edges_has w edge ∙ h)

pub neighbour_words : (w : World) (a b : List ℕ) → IsTrue (list_any (same_name b) (neighbours w Outward a)) ↔ ((edge : EdgeName) × IsTrue (edge_present w edge) × (edge.src ≡ a) × (edge.dst ≡ b))
neighbour_words w a b = (
  λ h. let r = linked w a b (sym (neighbours_has w Outward a b) ∙ h) in (r.0, r.1, sym r.2, sym r.3),
  λ r. neighbours_has w Outward a b ∙ linked_back w a b r.0 r.1 r.2 r.3,
)

pub neighbours_inward : (w : World) (a b : List ℕ) → list_any (same_name b) (neighbours w Inward a) ≡ list_any (same_name a) (neighbours w Outward b)
neighbours_inward w a b = neighbours_has w Inward a b ∙ sym (neighbours_has w Outward b a)

pub neighbours_both : (w : World) (a b : List ℕ) → list_any (same_name b) (neighbours w Both a) ≡ (list_any (same_name b) (neighbours w Outward a) || list_any (same_name b) (neighbours w Inward a))
neighbours_both w a b = neighbours_has w Both a b ∙ (λ k. sym (neighbours_has w Outward a b) k || sym (neighbours_has w Inward a b) k)

pub neighbours_rise : (w : World) (d : Direction) (a : List ℕ) → Rises name_cmp (neighbours w d a)
neighbours_rise w d a = Rises-filter name_cmp (leads w d a) (nodes w) (nodes_rise w)

-- ---- edges in the event model
added_instants : (bounds : Interval) (h : List Event) → list_any (λ x. lives_at Instants bounds h x.time) h ≡ true → list_any is_addition h ≡ true
added_instants bounds h k =
    let r = some_passes (λ x. lives_at Instants bounds h x.time) h k in
    let s = some_passes (λ y. is_addition y && int_eq y.time r.0.time) h r.1 in
    s.2 is_addition (and_parts (is_addition s.0) (int_eq s.0.time r.0.time) s.1).0

instants_added : (bounds : Interval) (h : List Event) → list_any is_addition h ≡ true → list_any (λ x. lives_at Instants bounds h x.time) h ≡ true
instants_added bounds h k =
    let r = some_passes is_addition h k in
    r.2 (λ x. lives_at Instants bounds h x.time) (r.2 (λ y. is_addition y && int_eq y.time r.0.time) (and_from (is_addition r.0) (int_eq r.0.time r.0.time) r.1 (ap is_eq (tied_itself int_cmp_total r.0.time))))

instants_present : (model : Model) (bounds : Interval) (h : List Event) → model ≡ Instants → (list_any (λ x. lives_at model bounds h x.time) h ≡ true) ↔ (list_any is_addition h ≡ true)
instants_present Instants bounds h m = (added_instants bounds h, instants_added bounds h)
instants_present Persistent bounds h m = cc

pub present_by_addition : (w : World) (edge : EdgeName) → w.model ≡ Instants → IsTrue (edge_present w edge) ↔ IsTrue (list_any is_addition (events_of w (Edge edge)))
present_by_addition w edge m = instants_present w.model w.bounds (events_of w (Edge edge)) m
