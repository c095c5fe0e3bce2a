-- A node is settled at the least moment at which an edge may be taken to a node that is not reached yet.
use Rattle.std.proofs.Common.{◌≡◌, ℕ, ℤ, ◌<◌, ◌≤ℤ◌, ◌<ℤ◌, ◌⊎◌, List, Option, Some, None, length, inl, inr, refl, sym, ◌∙◌, ap, subst, arith}
use Rattle.std.specs.List.{Contains}
use Rattle.std.proofs.lemmas.Bool.{cases_eq}
use Rattle.std.proofs.lemmas.Int.{ints}
use Rattle.graph_model.specs.World.{World}
use Rattle.graph_model.specs.Presence.{IsContact}
use Rattle.graph_model.specs.Journey.{IsReached}
use Rattle.graph_store.specs.declared.walks.EdgeId.{EdgeId}
use Rattle.graph_store.specs.EdgeParts.{parts_at}
use Rattle.graph_store.specs.Contents.{Contents, name_at}
use Rattle.view_trait.specs.Meaning.{edge_named}
use Rattle.temporal_reach.specs.declared.reach_table.Reached.{Reached}
use Rattle.temporal_reach.specs.declared.reach_table.Reached.TheVariants.{Start, Moment}
use Rattle.temporal_reach.specs.Reaching.{Puts, reached_at}
use Rattle.temporal_reach.specs.Offers.{AreOffered, IsOffered, Leaves, LeavesAnew}
use Rattle.temporal_reach.specs.Search.{IsFirstNew, IsSearch, IsSettledBy, IsStep, MayLeave}
use Rattle.temporal_reach.proofs.Journeys.{reached_first, reached_next}

module _ (c : Contents) (w : World) (names : List (List ℕ)) (start : ℤ) (table after : List (ℕ × Reached)) (old mid new : List (ℤ × ℕ)) (m : ℤ) (by : EdgeId) (n : ℕ) (h : IsSearch c w names start table old) (within : n < length c.nodes) (first : IsFirstNew c table old mid m by.0 n) (puts : Puts table n (Moment m by) after) (more : AreOffered c w m (LeavesAnew c after n) (λ k. ⊥) mid new) where
  own : reached_at after n ≡ Some (Moment m by)
  own = puts.0

  other : (k : ℕ) → (k ≡ n → ⊥) → reached_at after k ≡ reached_at table k
  other k apart = puts.1 k apart

  -- what was known is known
  older : (k : ℕ) (r : Reached) → reached_at table k ≡ Some r → reached_at after k ≡ Some r
  older k r e = other k (λ same. none_some (sym first.unreached ∙ (ap (reached_at table) (sym same) ∙ e))) ∙ e
    where
      none_some : None ≡ Some r → ⊥
      none_some d = cc

  -- and nothing else but the new node
  newer : (k : ℕ) (r : Reached) → reached_at after k ≡ Some r → (reached_at table k ≡ Some r) ⊎ ((k ≡ n) × (r ≡ Moment m by))
  newer k r e = elim (cases_eq k n) [
    | inl same ↦ inr (same, (let twice : Some r ≡ Some (Moment m by) = sym e ∙ (ap (reached_at after) same ∙ own) in cc))
    | inr apart ↦ inl (sym (other k apart) ∙ e)
  ]

  leave_later : (k : ℕ) (t : ℤ) → MayLeave table start k t → MayLeave after start k t
  leave_later k t (inl s) = inl (older k Start s.0, s.1)
  leave_later k t (inr r) = inr (r.0, (r.1.0, older k (Moment r.0 r.1.0) r.1.1, r.1.2))

  step_later : (e : ℕ) (t : ℤ) → IsStep c w table start e t → IsStep c w after start e t
  step_later e t s = record { exists = s.exists; contact = s.contact; from = leave_later (parts_at c.edges e).src t s.from }

  settled_later : (k : ℕ) (t : ℤ) → IsSettledBy table k t → IsSettledBy after k t
  settled_later k t (inl s) = inl (older k Start s)
  settled_later k t (inr r) = inr (r.0, (r.1.0, older k (Moment r.0 r.1.0) r.1.1, r.1.2))

  taken : IsStep c w table start by.0 m
  taken = h.offered (m, by.0) first.among

  -- the new node is reached by its edge
  arrives : MayLeave table start (parts_at c.edges by.0).src m → IsReached w names start (edge_named c by.0).dst m
  arrives (inl s) = reached_first w names start (edge_named c by.0) m (h.seeded (parts_at c.edges by.0).src s.0) taken.contact s.1
  arrives (inr r) = reached_next w names start (edge_named c by.0) m r.0 (h.reached (parts_at c.edges by.0).src r.0 r.1.0 r.1.1) taken.contact r.1.2

  -- an offer was there, or follows the new node
  was_offered : (x : ℤ × ℕ) → Contains new x → (Contains old x × (m ≤ℤ x.0)) ⊎ (Leaves c n x.1 × (m <ℤ x.0))
  was_offered x q = elim (more.added x q) [ inl p ↦ inl (first.kept x p) | inr r ↦ inr (r.0.0, r.1.later) ]

  -- a step that could be taken before
  followed_before : (e : ℕ) (t : ℤ) → IsStep c w table start e t → IsSettledBy after (parts_at c.edges e).dst t ⊎ IsOffered new e t
  followed_before e t s = elim (h.followed e t s) [
    | inl settled ↦ inl (settled_later (parts_at c.edges e).dst t settled)
    | inr o ↦ elim (first.rest (o.0, e) o.1) [
      | inl left ↦ elim left [
        | inl there ↦ inr (o.0, more.kept (o.0, e) there, o.2)
        | inr same ↦
            let edge : e ≡ by.0 = ap (λ (x : ℤ × ℕ). x.1) same in
            let moment : o.0 ≡ m = ap (λ (x : ℤ × ℕ). x.0) same in
            let le = o.2 in
            let to : (parts_at c.edges e).dst ≡ n = ap (λ k. (parts_at c.edges k).dst) edge ∙ first.node in
            inl (inr (m, (by, ap (reached_at after) to ∙ own, subst (λ z. z ≤ℤ t) moment le)))
      ]
      | inr known ↦ inl (settled_later (parts_at c.edges e).dst t (settled_by (reached_at table (parts_at c.edges e).dst) refl o known))
    ]
  ]
    where
      settled_by : (r : Option Reached) → reached_at table (parts_at c.edges e).dst ≡ r → (o : IsOffered old e t) → (reached_at table (parts_at c.edges e).dst ≡ None → ⊥) → IsSettledBy table (parts_at c.edges e).dst t
      settled_by None d o known = absurd (known d)
      settled_by (Some Start) d o known = inl d
      settled_by (Some (Moment k b)) d o known = let a = h.rising (parts_at c.edges e).dst k b (o.0, e) d o.1 in let l = o.2 in inr (k, (b, d, omega (arith, ints)))

  -- a step from the new node
  onward : (e : ℕ) (t : ℤ) → e < length c.edges → (parts_at c.edges e).src ≡ n → m <ℤ t → IsContact w (edge_named c e) t → IsSettledBy after (parts_at c.edges e).dst t ⊎ IsOffered new e t
  onward e t exists src less contact = known (reached_at after (parts_at c.edges e).dst) refl
    where
      known : (r : Option Reached) → reached_at after (parts_at c.edges e).dst ≡ r → IsSettledBy after (parts_at c.edges e).dst t ⊎ IsOffered new e t
      known None d = elim (more.each e t ((exists, src), d) less contact) [ inl none ↦ absurd none | inr o ↦ inr o ]
      known (Some Start) d = inl (inl d)
      known (Some (Moment k b)) d =
          let before : k ≤ℤ m = elim (newer (parts_at c.edges e).dst (Moment k b) d) [
            | inl o ↦ h.rising (parts_at c.edges e).dst k b (m, by.0) o first.among
            | inr o ↦ let same : k ≡ m = (let both : Moment k b ≡ Moment m by = o.1 in cc) in omega (arith, ints)
          ] in
          inl (inr (k, (b, d, omega (arith, ints))))

  pub settled : IsSearch c w names start after new
  settled = record {
    within = λ k r e. elim (newer k r e) [ inl d ↦ h.within k r d | inr d ↦ subst (λ j. j < length c.nodes) (sym d.0) within ];
    seeded = λ k e. elim (newer k Start e) [ inl d ↦ h.seeded k d | inr d ↦ absurd (let no : Start ≡ Moment m by = d.1 in cc) ];
    started = λ k below e. older k Start (h.started k below e);
    certified = λ k t b e. elim (newer k (Moment t b) e) [
      | inl d ↦ let s = h.certified k t b d in (step_later b.0 t s.0, s.1)
      | inr d ↦
          let edge : b ≡ by = (let both : Moment t b ≡ Moment m by = d.1 in cc) in
          let moment : t ≡ m = (let both : Moment t b ≡ Moment m by = d.1 in cc) in (
            subst (λ (z : EdgeId). IsStep c w after start z.0 t) (sym edge) (subst (λ z. IsStep c w after start by.0 z) (sym moment) (step_later by.0 m taken)),
            ap (λ (z : EdgeId). (parts_at c.edges z.0).dst) edge ∙ (first.node ∙ sym d.0),
          )
    ];
    reached = λ k t b e. elim (newer k (Moment t b) e) [
      | inl d ↦ h.reached k t b d
      | inr d ↦
          let moment : t ≡ m = (let both : Moment t b ≡ Moment m by = d.1 in cc) in
          subst (λ z. IsReached w names start (name_at c.nodes k) z) (sym moment) (subst (λ z. IsReached w names start (name_at c.nodes z) m) (first.node ∙ sym d.0) (arrives taken.from))
    ];
    offered = λ x q. elim (more.added x q) [
      | inl p ↦ step_later x.1 x.0 (h.offered x (first.kept x p).0)
      | inr r ↦ record { exists = r.0.0.0; contact = r.1.contact; from = inr (m, (by, ap (reached_at after) r.0.0.1 ∙ own, r.1.later)) }
    ];
    rising = λ k t b x e q. elim (newer k (Moment t b) e) [
      | inl d ↦ elim (was_offered x q) [
        | inl p ↦ h.rising k t b x d p.0
        | inr p ↦ let a = h.rising k t b (m, by.0) d first.among in let l = p.1 in omega (arith, ints)
      ]
      | inr d ↦
          let moment : t ≡ m = (let both : Moment t b ≡ Moment m by = d.1 in cc) in
          subst (λ z. z ≤ℤ x.0) (sym moment) (elim (was_offered x q) [ inl p ↦ p.1 | inr p ↦ let l = p.1 in omega (arith, ints) ])
    ];
    followed = λ e t s. elim s.from [
      | inl l ↦ elim (newer (parts_at c.edges e).src Start l.0) [
        | inl d ↦ followed_before e t (record { exists = s.exists; contact = s.contact; from = inl (d, l.1) })
        | inr d ↦ absurd (let no : Start ≡ Moment m by = d.1 in cc)
      ]
      | inr r ↦ elim (newer (parts_at c.edges e).src (Moment r.0 r.1.0) r.1.1) [
        | inl d ↦ followed_before e t (record { exists = s.exists; contact = s.contact; from = inr (r.0, (r.1.0, d, r.1.2)) })
        | inr d ↦
            let moment : r.0 ≡ m = (let both : Moment r.0 r.1.0 ≡ Moment m by = d.1 in cc) in
            onward e t s.exists d.0 (subst (λ z. z <ℤ t) moment r.1.2) s.contact
      ]
    ];
  }

-- the new node is one of the store's
pub settled_within : (c : Contents) (w : World) (names : List (List ℕ)) (start : ℤ) (table : List (ℕ × Reached)) (old mid : List (ℤ × ℕ)) (m : ℤ) (e n : ℕ) → ((k : ℕ) → k < length c.edges → (parts_at c.edges k).dst < length c.nodes)
    → IsSearch c w names start table old → IsFirstNew c table old mid m e n → n < length c.nodes
settled_within c w names start table old mid m e n within h first = subst (λ k. k < length c.nodes) first.node (within e (h.offered (m, e) first.among).exists)
