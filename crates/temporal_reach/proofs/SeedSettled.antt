-- A seed is reached at the start, before any other node is settled.
use Rattle.std.proofs.Common.{◌≡◌, ℕ, ℤ, ◌<◌, ◌≤◌, ◌≤ℤ◌, ◌<ℤ◌, ◌⊎◌, List, [], ◌∷◌, ◌++◌, Some, None, Option, length, inl, inr, refl, sym, ◌∙◌, ap, subst, arith, eqb, eqb-true, eq-eqb}
use Rattle.std.specs.Prelude.{◌↔◌}
use Rattle.std.proofs.lemmas.Bool.{cases_eq, or_cases, or_left, or_right, true≢false}
use Rattle.graph_model.specs.declared.events.EdgeName.{EdgeName}
use Rattle.graph_model.specs.World.{World}
use Rattle.graph_model.specs.Presence.{IsContact}
use Rattle.world_laws.proofs.Rows.{contains_none}
use Rattle.graph_store.specs.declared.walks.EdgeId.{EdgeId}
use Rattle.graph_store.specs.EdgeParts.{parts_at}
use Rattle.graph_store.specs.Contents.{Contents}
use Rattle.view_trait.specs.Meaning.{edge_named}
use Rattle.view_trait.specs.Numbered.{is_listed}
use Rattle.view_trait.proofs.Selected.{listed_push}
use Rattle.temporal_reach.specs.declared.reach_table.Reached.{Reached}
use Rattle.temporal_reach.specs.declared.reach_table.Reached.TheVariants.{Start, Moment}
use Rattle.temporal_reach.specs.Reaching.{Puts, reached_at}
use Rattle.temporal_reach.specs.Offers.{AreOffered, IsOffered, LeavesAnew}
use Rattle.temporal_reach.specs.Arrivals.{AreSeeds}
use Rattle.temporal_reach.specs.Search.{IsBegun, IsSearch, IsSettledBy, IsStep, MayLeave}

-- no seed, and nothing known
pub begun_none : (c : Contents) (w : World) (start : ℤ) (table : List (ℕ × Reached)) → ((n : ℕ) → reached_at table n ≡ None) → IsBegun c w [] start table []
begun_none c w start table none = record {
  within = λ n r e. absurd (unreached n r e);
  fresh = λ n m by e. unreached n (Moment m by) e;
  seeded = λ n e. absurd (unreached n Start e);
  started = λ n below e. absurd (true≢false (sym e));
  offered = λ x q. absurd (contains_none x q);
  followed = λ e t s. elim s.from [ inl l ↦ absurd (unreached (parts_at c.edges e).src Start l.0) | inr r ↦ absurd (unreached (parts_at c.edges e).src (Moment r.0 r.1.0) r.1.1) ];
}
  where
    unreached : (n : ℕ) (r : Reached) → reached_at table n ≡ Some r → ⊥
    unreached n r e = let both : None ≡ Some r = sym (none n) ∙ e in cc

module _ (c : Contents) (w : World) (seeds : List ℕ) (start before : ℤ) (table after : List (ℕ × Reached)) (old new : List (ℤ × ℕ)) (s : ℕ) (b : IsBegun c w seeds start table old) (within : s < length c.nodes) (puts : Puts table s Start after) (early : (edge : EdgeName) (t : ℤ) → IsContact w edge t → (before <ℤ t) ↔ (start ≤ℤ t)) (more : AreOffered c w before (LeavesAnew c after s) (λ k. ⊥) old new) where
  own : reached_at after s ≡ Some Start
  own = puts.0

  other : (k : ℕ) → (k ≡ s → ⊥) → reached_at after k ≡ reached_at table k
  other k apart = puts.1 k apart

  -- the seeds so far stay so
  older : (k : ℕ) → reached_at table k ≡ Some Start → reached_at after k ≡ Some Start
  older k e = elim (cases_eq k s) [ inl same ↦ ap (reached_at after) same ∙ own | inr apart ↦ other k apart ∙ e ]

  -- and nothing is new but the seed
  newer : (k : ℕ) (r : Reached) → reached_at after k ≡ Some r → (reached_at table k ≡ Some r) ⊎ ((k ≡ s) × (r ≡ Start))
  newer k r e = elim (cases_eq k s) [
    | inl same ↦ inr (same, (let twice : Some r ≡ Some Start = sym e ∙ (ap (reached_at after) same ∙ own) in cc))
    | inr apart ↦ inl (sym (other k apart) ∙ e)
  ]

  still_fresh : (n : ℕ) (m : ℤ) (by : EdgeId) → reached_at after n ≡ Some (Moment m by) → ⊥
  still_fresh n m by e = elim (newer n (Moment m by) e) [ inl d ↦ b.fresh n m by d | inr d ↦ let no : Moment m by ≡ Start = d.1 in cc ]

  leave_later : (k : ℕ) (t : ℤ) → MayLeave table start k t → MayLeave after start k t
  leave_later k t (inl l) = inl (older k l.0, l.1)
  leave_later k t (inr r) = absurd (b.fresh k r.0 r.1.0 r.1.1)

  settled_later : (k : ℕ) (t : ℤ) → IsSettledBy table k t → IsSettledBy after k t
  settled_later k t (inl l) = inl (older k l)
  settled_later k t (inr r) = absurd (b.fresh k r.0 r.1.0 r.1.1)

  followed_before : (e : ℕ) (t : ℤ) → IsStep c w table start e t → IsSettledBy after (parts_at c.edges e).dst t ⊎ IsOffered new e t
  followed_before e t step = elim (b.followed e t step) [
    | inl settled ↦ inl (settled_later (parts_at c.edges e).dst t settled)
    | inr o ↦ inr (o.0, more.kept (o.0, e) o.1, o.2)
  ]

  -- a step from the seed
  onward : (e : ℕ) (t : ℤ) → e < length c.edges → (parts_at c.edges e).src ≡ s → start ≤ℤ t → IsContact w (edge_named c e) t → IsSettledBy after (parts_at c.edges e).dst t ⊎ IsOffered new e t
  onward e t exists src le contact = known (reached_at after (parts_at c.edges e).dst) refl
    where
      known : (r : Option Reached) → reached_at after (parts_at c.edges e).dst ≡ r → IsSettledBy after (parts_at c.edges e).dst t ⊎ IsOffered new e t
      known None d = elim (more.each e t ((exists, src), d) ((early (edge_named c e) t contact).1 le) contact) [ inl none ↦ absurd none | inr o ↦ inr o ]
      known (Some Start) d = inl (inl d)
      known (Some (Moment k b)) d = absurd (still_fresh (parts_at c.edges e).dst k b d)

  pub begun_further : IsBegun c w (seeds ++ s ∷ []) start after new
  begun_further = record {
    within = λ k r e. elim (newer k r e) [ inl d ↦ b.within k r d | inr d ↦ subst (λ j. j < length c.nodes) (sym d.0) within ];
    fresh = still_fresh;
    seeded = λ k e. listed_push seeds s k ∙ elim (newer k Start e) [
      | inl d ↦ or_left (is_listed seeds k) (eqb s k) (b.seeded k d)
      | inr d ↦ or_right (is_listed seeds k) (eqb s k) (eq-eqb s k (sym d.0))
    ];
    started = λ k below e. elim (or_cases (is_listed seeds k) (eqb s k) (sym (listed_push seeds s k) ∙ e)) [
      | inl d ↦ older k (b.started k below d)
      | inr d ↦ ap (reached_at after) (sym (eqb-true s k d)) ∙ own
    ];
    offered = λ x q. elim (more.added x q) [
      | inl p ↦ let step = b.offered x p in record { exists = step.exists; contact = step.contact; from = leave_later (parts_at c.edges x.1).src x.0 step.from }
      | inr r ↦ record { exists = r.0.0.0; contact = r.1.contact; from = inl (ap (reached_at after) r.0.0.1 ∙ own, (early (edge_named c x.1) x.0 r.1.contact).0 r.1.later) }
    ];
    followed = λ e t step. elim step.from [
      | inl l ↦ elim (newer (parts_at c.edges e).src Start l.0) [
        | inl d ↦ followed_before e t (record { exists = step.exists; contact = step.contact; from = inl (d, l.1) })
        | inr d ↦ onward e t step.exists d.0 l.1 step.contact
      ]
      | inr r ↦ absurd (still_fresh (parts_at c.edges e).src r.0 r.1.0 r.1.1)
    ];
  }

-- a number that the store does not have is no seed
pub begun_same : (c : Contents) (w : World) (seeds : List ℕ) (start : ℤ) (table : List (ℕ × Reached)) (offers : List (ℤ × ℕ)) (s : ℕ) → IsBegun c w seeds start table offers → length c.nodes ≤ s → IsBegun c w (seeds ++ s ∷ []) start table offers
begun_same c w seeds start table offers s b beyond = record {
  within = b.within;
  fresh = b.fresh;
  seeded = λ k e. listed_push seeds s k ∙ or_left (is_listed seeds k) (eqb s k) (b.seeded k e);
  started = λ k below e. elim (or_cases (is_listed seeds k) (eqb s k) (sym (listed_push seeds s k) ∙ e)) [
    | inl d ↦ b.started k below d
    | inr d ↦ absurd (let same = eqb-true s k d in omega (arith, below, beyond, same))
  ];
  offered = b.offered;
  followed = b.followed;
}

-- where all seeds are begun at, the search has begun
pub search_begun : (c : Contents) (w : World) (seeds : List ℕ) (names : List (List ℕ)) (start : ℤ) (table : List (ℕ × Reached)) (offers : List (ℤ × ℕ)) → AreSeeds c seeds names → IsBegun c w seeds start table offers → IsSearch c w names start table offers
search_begun c w seeds names start table offers are b = record {
  within = b.within;
  seeded = λ n e. sym (are n (b.within n Start e)) ∙ b.seeded n e;
  started = λ n below e. b.started n below (are n below ∙ e);
  certified = λ n m by e. absurd (b.fresh n m by e);
  reached = λ n m by e. absurd (b.fresh n m by e);
  offered = b.offered;
  rising = λ n m by x e q. absurd (b.fresh n m by e);
  followed = b.followed;
}
