-- What a search that has ended says of journeys: the moment of each settled node is its arrival, and each node that a journey reaches is settled, or a seed.
use Rattle.std.proofs.Common.{◌≡◌, ℕ, ℤ, ◌<◌, ◌≤ℤ◌, ◌<ℤ◌, ◌⊎◌, List, [], Some, true, false, length, inl, inr, refl, sym, ◌∙◌, ap, subst, arith}
use Rattle.std.proofs.lemmas.Bool.{true≢false}
use Rattle.std.proofs.lemmas.Int.{ints}
use Rattle.graph_model.specs.declared.events.EdgeName.{EdgeName}
use Rattle.graph_model.specs.World.{World}
use Rattle.graph_model.specs.Presence.{IsContact, node_present}
use Rattle.graph_model.specs.Keep.{is_named}
use Rattle.graph_model.specs.Journey.{IsArrival, IsReached}
use Rattle.world_laws.proofs.Earliest.{reached_later_than_start}
use Rattle.world_laws.proofs.Rows.{contains_none}
use Rattle.graph_store.specs.declared.walks.EdgeId.{EdgeId}
use Rattle.graph_store.specs.EdgeParts.{parts_at}
use Rattle.graph_store.specs.Contents.{Contents, name_at}
use Rattle.view_trait.specs.Meaning.{edge_named}
use Rattle.temporal_reach.specs.declared.reach_table.Reached.{Reached}
use Rattle.temporal_reach.specs.declared.reach_table.Reached.TheVariants.{Start, Moment}
use Rattle.temporal_reach.specs.Reaching.{reached_at}
use Rattle.temporal_reach.specs.Arrivals.{ArrivesBy}
use Rattle.temporal_reach.specs.Search.{IsSearch, IsSettledBy, IsStep, MayLeave}
use Rattle.temporal_reach.proofs.Journeys.{IsCovered, reached_covered}

-- the nodes have names of their own, and an edge that has a contact has a number, as a present node has
pub record AreNumbered (c : Contents) (w : World) : Type 0 where
  pub one : (i j : ℕ) → i < length c.nodes → j < length c.nodes → name_at c.nodes i ≡ name_at c.nodes j → i ≡ j
  pub within : (e : ℕ) → e < length c.edges → (parts_at c.edges e).src < length c.nodes
  pub edge : (edge : EdgeName) (t : ℤ) → IsContact w edge t → (e : ℕ) × (e < length c.edges) × (edge_named c e ≡ edge)
  pub node : (b : List ℕ) → node_present w b ≡ true → (n : ℕ) × (n < length c.nodes) × (name_at c.nodes n ≡ b)

module _ (c : Contents) (w : World) (names : List (List ℕ)) (start : ℤ) (table : List (ℕ × Reached)) (numbered : AreNumbered c w) (h : IsSearch c w names start table []) where
  -- a node is settled at a moment, by its name
  abbrev pub Settled : List ℕ → ℤ → Type 0
  Settled b m = (n : ℕ) × (n < length c.nodes) × (name_at c.nodes n ≡ b) × ((by : EdgeId) × (reached_at table n ≡ Some (Moment m by)))

  abbrev pub Covered : List ℕ → ℤ → Type 0
  Covered b t = IsCovered w names start Settled b t

  covered_by : (n : ℕ) (t : ℤ) → IsSettledBy table n t → Covered (name_at c.nodes n) t
  covered_by n t (inl e) = inl (h.seeded n e)
  covered_by n t (inr r) = inr (r.0, (n, h.within n (Moment r.0 r.1.0) r.1.1, refl, (r.1.0, r.1.1)), r.1.2)

  -- each step that may be taken was followed
  step_covered : (e : ℕ) (t : ℤ) → IsStep c w table start e t → Covered (name_at c.nodes (parts_at c.edges e).dst) t
  step_covered e t s = elim (h.followed e t s) [
    | inl settled ↦ covered_by (parts_at c.edges e).dst t settled
    | inr o ↦ absurd (contains_none (o.0, e) o.1)
  ]

  -- an edge that leaves a node of a name, by numbers
  contact_covered : (edge : EdgeName) (t : ℤ) → IsContact w edge t → ((n : ℕ) → n < length c.nodes → name_at c.nodes n ≡ edge.src → MayLeave table start n t) → Covered edge.dst t
  contact_covered edge t contact leave =
      let e = numbered.edge edge t contact in
      let src : name_at c.nodes (parts_at c.edges e.0).src ≡ edge.src = ap (λ (x : EdgeName). x.src) e.2 in
      let from = leave (parts_at c.edges e.0).src (numbered.within e.0 e.1) src in
      subst (λ (x : EdgeName). Covered x.dst t) e.2 (step_covered e.0 t (record { exists = e.1; contact = subst (λ x. IsContact w x t) (sym e.2) contact; from = from }))

  seed_covered : (edge : EdgeName) (t : ℤ) → is_named names edge.src ≡ true → IsContact w edge t → start ≤ℤ t → Covered edge.dst t
  seed_covered edge t named contact le = contact_covered edge t contact (λ n below is. inl (h.started n below (ap (is_named names) is ∙ named), le))

  next_covered : (edge : EdgeName) (m t : ℤ) → Settled edge.src m → IsContact w edge t → m <ℤ t → Covered edge.dst t
  next_covered edge m t settled contact less = contact_covered edge t contact (λ n below is.
      let same : settled.0 ≡ n = numbered.one settled.0 n settled.1 below (settled.2 ∙ sym is) in
      inr (m, (settled.3.0, ap (reached_at table) (sym same) ∙ settled.3.1, less)))

  pub covered : (b : List ℕ) (t : ℤ) → IsReached w names start b t → Covered b t
  covered b t r = reached_covered w names start Settled seed_covered next_covered b t r

  -- a node with a moment is no seed
  pub unnamed : (n : ℕ) (m : ℤ) (by : EdgeId) → reached_at table n ≡ Some (Moment m by) → is_named names (name_at c.nodes n) ≡ true → ⊥
  unnamed n m by e named =
      let both : Some Start ≡ Some (Moment m by) = sym (h.started n (h.within n (Moment m by) e) named) ∙ e in
      cc

  -- its moment is its arrival
  pub arrives : (n : ℕ) (m : ℤ) (by : EdgeId) → reached_at table n ≡ Some (Moment m by) → IsArrival w names start (name_at c.nodes n) m
  arrives n m by e = (h.reached n m by e, λ other r. least other (covered (name_at c.nodes n) other r))
    where
      least : (other : ℤ) → Covered (name_at c.nodes n) other → m ≤ℤ other
      least other (inl named) = absurd (unnamed n m by e named)
      least other (inr k) =
          let same : k.1.0 ≡ n = numbered.one k.1.0 n k.1.1 (h.within n (Moment m by) e) k.1.2 in
          let both : Some (Moment k.0 k.1.3.0) ≡ Some (Moment m by) = sym (ap (reached_at table) (sym same) ∙ k.1.3.1) ∙ e in
          let moment : k.0 ≡ m = cc in
          subst (λ z. z ≤ℤ other) moment k.2

  -- and it is reached by its edge
  pub arrives_by : (n : ℕ) (m : ℤ) (by : EdgeId) → reached_at table n ≡ Some (Moment m by) → (by.0 < length c.edges) × ArrivesBy w names start (edge_named c by.0) (name_at c.nodes n) m
  arrives_by n m by e =
      let s = h.certified n m by e in
      let from = leaves (parts_at c.edges by.0).src s.0.from in (
        s.0.exists,
        record { leads = ap (name_at c.nodes) s.1; contact = s.0.contact; in_time = from.0; leaves = from.1 },
      )
    where
      leaves : (src : ℕ) → MayLeave table start src m → (start ≤ℤ m) × ((is_named names (name_at c.nodes src) ≡ true) ⊎ ((earlier : ℤ) × IsArrival w names start (name_at c.nodes src) earlier × (earlier <ℤ m)))
      leaves src (inl l) = (l.1, inl (h.seeded src l.0))
      leaves src (inr r) =
          let after = reached_later_than_start w names start (name_at c.nodes src) r.0 (h.reached src r.0 r.1.0 r.1.1) in
          let less = r.1.2 in
          (omega (arith, ints), inr (r.0, arrives src r.0 r.1.0 r.1.1, less))

  -- an arrival of a node that is no seed is the moment at which it is settled
  pub settled_at : (b : List ℕ) (m : ℤ) → is_named names b ≡ false → IsArrival w names start b m → Settled b m
  settled_at b m none a = at (covered b m a.0)
    where
      at : Covered b m → Settled b m
      at (inl named) = absurd (true≢false (sym named ∙ none))
      at (inr k) =
          let r = h.reached k.1.0 k.0 k.1.3.0 k.1.3.1 in
          let least : m ≤ℤ k.0 = a.1 k.0 (subst (λ z. IsReached w names start z k.0) k.1.2 r) in
          let le = k.2 in
          let moment : k.0 ≡ m = omega (arith, ints) in
          subst (Settled b) moment k.1
