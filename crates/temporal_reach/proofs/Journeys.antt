-- Journeys, one leg longer, and where they lead.
use Rattle.std.proofs.Common.{◌≡◌, ℕ, ℤ, pos, ◌+ℤ◌, ◌≤ℤ◌, ◌<ℤ◌, true, ◌⊎◌, List, [], ◌∷◌, ◌++◌, inl, inr, refl, sym, subst, arith}
use Rattle.std.proofs.lemmas.Int.{ints}
use Rattle.graph_model.specs.declared.events.EdgeName.{EdgeName}
use Rattle.graph_model.specs.World.{World}
use Rattle.graph_model.specs.Presence.{IsContact}
use Rattle.graph_model.specs.Keep.{is_named}
use Rattle.graph_model.specs.Journey.{IsLeg, GoesOn, IsJourney, IsReached}

goes_further : (w : World) (edge : EdgeName) (m : ℤ) (legs : List (EdgeName × ℤ)) (to : List ℕ) (end : ℤ) (next : EdgeName) (k : ℤ) → GoesOn w edge m legs to end → IsLeg w to (end +ℤ pos 1) next k → GoesOn w edge m (legs ++ (next, k) ∷ []) next.dst k
goes_further w edge m [] to end next k g leg = (subst (λ z. IsLeg w z (m +ℤ pos 1) next k) (sym g.0) (subst (λ z. IsLeg w to (z +ℤ pos 1) next k) (sym g.1) leg), (refl, refl))
goes_further w edge m (l ∷ legs) to end next k g leg = (g.0, goes_further w l.0 l.1 legs to end next k g.1 leg)

journey_further : (w : World) (from : List ℕ) (start : ℤ) (legs : List (EdgeName × ℤ)) (to : List ℕ) (end : ℤ) (next : EdgeName) (k : ℤ) → IsJourney w from start legs to end → IsLeg w to (end +ℤ pos 1) next k → IsJourney w from start (legs ++ (next, k) ∷ []) next.dst k
journey_further w from start [] to end next k j leg = absurd j
journey_further w from start (l ∷ legs) to end next k j leg = (j.0, goes_further w l.0 l.1 legs to end next k j.1 leg)

module _ (w : World) (seeds : List (List ℕ)) (start : ℤ) where
  -- from a seed, by one edge
  pub reached_first : (e : EdgeName) (m : ℤ) → is_named seeds e.src ≡ true → IsContact w e m → start ≤ℤ m → IsReached w seeds start e.dst m
  reached_first e m s contact le = (e.src, s, ((e, m) ∷ [], (record { leaves = refl; contact = contact; in_time = le }, (refl, refl))))

  -- from a node that is reached earlier
  pub reached_next : (e : EdgeName) (m n : ℤ) → IsReached w seeds start e.src n → IsContact w e m → n <ℤ m → IsReached w seeds start e.dst m
  reached_next e m n r contact less = (r.0, r.1, (r.2.0 ++ (e, m) ∷ [], journey_further w r.0 start r.2.0 e.src n e m r.2.1 (record { leaves = refl; contact = contact; in_time = omega (arith, ints) })))

  -- nodes are settled at moments: where each contact that follows leads to a seed or to a node that is settled no later, so does each journey
  module _ (Settled : List ℕ → ℤ → Type 0) where
    -- a seed, or a node that is settled no later than a moment
    abbrev pub IsCovered : List ℕ → ℤ → Type 0
    IsCovered b t = (is_named seeds b ≡ true) ⊎ ((m : ℤ) × Settled b m × (m ≤ℤ t))

    module _ (from_seed : (e : EdgeName) (t : ℤ) → is_named seeds e.src ≡ true → IsContact w e t → start ≤ℤ t → IsCovered e.dst t) (onward : (e : EdgeName) (m t : ℤ) → Settled e.src m → IsContact w e t → m <ℤ t → IsCovered e.dst t) where
      leg_covered : (b : List ℕ) (u : ℤ) (e : EdgeName) (t : ℤ) → IsCovered b u → start ≤ℤ u → IsLeg w b (u +ℤ pos 1) e t → IsCovered e.dst t
      leg_covered b u e t (inl s) le leg =
          let in_time = leg.in_time in
          from_seed e t (subst (λ z. is_named seeds z ≡ true) (sym leg.leaves) s) leg.contact (omega (arith, ints))
      leg_covered b u e t (inr r) le leg =
          let in_time = leg.in_time in
          let before = r.2 in
          onward e r.0 t (subst (λ z. Settled z r.0) (sym leg.leaves) r.1) leg.contact (omega (arith, ints))

      rest_covered : (e : EdgeName) (m : ℤ) (legs : List (EdgeName × ℤ)) (to : List ℕ) (end : ℤ) → IsCovered e.dst m → start ≤ℤ m → GoesOn w e m legs to end → IsCovered to end
      rest_covered e m [] to end c le g = subst (λ z. IsCovered z end) g.0 (subst (λ z. IsCovered e.dst z) g.1 c)
      rest_covered e m (l ∷ legs) to end c le g =
          let in_time = g.0.in_time in
          rest_covered l.0 l.1 legs to end (leg_covered e.dst m l.0 l.1 c le g.0) (omega (arith, ints)) g.1

      pub reached_covered : (b : List ℕ) (t : ℤ) → IsReached w seeds start b t → IsCovered b t
      reached_covered b t (seed, s, ([], j)) = absurd j
      reached_covered b t (seed, s, (l ∷ legs, j)) =
          let in_time = j.0.in_time in
          rest_covered l.0 l.1 legs b t (from_seed l.0 l.1 (subst (λ z. is_named seeds z ≡ true) (sym j.0.leaves) s) j.0.contact in_time) in_time j.1
