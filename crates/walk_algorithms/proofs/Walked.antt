-- A walk over what a view shows goes on from one node after another, and its marks are distances.
use Rattle.std.proofs.Common.{◌≡◌, ℕ, ◌+◌, ◌<◌, ◌≤◌, List, Some, length, sym, ◌∙◌, subst, inl, inr, arith}
use Rattle.std.specs.Prelude.{slice_get, ◌==◌}
use Rattle.std.proofs.lemmas.Bool.{cases_Bool, eq-eqb, eqb-true, true≢false}
use Rattle.std.proofs.lemmas.List.{get_or_default}
use Rattle.std.proofs.lemmas.List.Elements.{All-get_or}
use Rattle.graph_model.specs.declared.queries.Direction.{Direction}
use Rattle.graph_model.specs.World.{World}
use Rattle.graph_store.specs.Contents.{Contents}
use Rattle.view_trait.specs.Meaning.{IsShown}
use Rattle.present_links.proofs.Views.{present_known}
use Rattle.node_visits.specs.declared.visited.Visit.{Visit}
use Rattle.node_visits.specs.Visits.{AreVisits, node_in, mark_in, all_visited}
use Rattle.node_visits.specs.Levels.{IsWalking}
use Rattle.node_visits.proofs.Levels.{walk_goes_on}
use Rattle.node_visits.proofs.Visiting.{Has, IsMore, has_all, has_still, more_all}
use Rattle.walk_laws.specs.Distances.{AreDistances}
use Rattle.walk_laws.specs.Numbers.{AreNumbers}
use Rattle.walk_laws.specs.Steps.{Next, Far}
use Rattle.walk_laws.proofs.Steps.{far_on}
use Rattle.walk_laws.proofs.Reached.{distances}
use Rattle.walk_algorithms.specs.Visits.{VisitsNeighbours}
use Rattle.walk_algorithms.proofs.Visits.{is_at}

-- the numbers of a store's nodes, in a world that it shows
pub shown_numbers : (c : Contents) (w : World) → IsShown c w → AreNumbers w c.nodes
shown_numbers c w shown = record { once = shown.indexed.node_names; known = present_known c w shown }

module _ (c : Contents) (w : World) (d : Direction) (shown : IsShown c w) (start : ℕ) where
  settle_at : (i : ℕ) (before after : List Visit) → i < length before → IsWalking (Next w c.nodes d) (Far w c.nodes d start) start before i → VisitsNeighbours c w d (node_in before i) (mark_in before i + 1) before after
      → IsWalking (Next w c.nodes d) (Far w c.nodes d start) start after (i + 1)
  settle_at i before after lt h r =
      subst (λ vs. IsWalking (Next w c.nodes d) (Far w c.nodes d start) start vs (i + 1)) (sym r.2)
      (walk_goes_on (Next w c.nodes d) (Far w c.nodes d start) (far_on w c.nodes d start) start before (all_visited (mark_in before i + 1) r.0 before) i h lt more all)
    where
      more : IsMore (Next w c.nodes d (node_in before i)) (mark_in before i + 1) before (all_visited (mark_in before i + 1) r.0 before)
      more = more_all (Next w c.nodes d (node_in before i)) (mark_in before i + 1) r.0 before (λ j below. All-get_or (Next w c.nodes d (node_in before i)) r.0 j 0 below r.1.each)

      -- the node itself was visited before
      all : (b : ℕ) → Next w c.nodes d (node_in before i) b → Has (all_visited (mark_in before i + 1) r.0 before) b
      all b next = elim (cases_Bool (b == node_in before i)) [
        | inl e ↦ has_still (Next w c.nodes d (node_in before i)) (mark_in before i + 1) before (all_visited (mark_in before i + 1) r.0 before) b more (record { place = i; below = lt; is = sym (eqb-true b (node_in before i) e) })
        | inr e ↦
            let k = r.1.others b next (λ same. true≢false (sym (eq-eqb b (node_in before i) same) ∙ e)) in
            subst (Has (all_visited (mark_in before i + 1) r.0 before)) (get_or_default r.0 k.0 0 b k.1 ∙ k.2) (has_all (mark_in before i + 1) r.0 before k.0 k.1)
      ]

  -- the walk goes on from one more node
  pub settle : (i : ℕ) (before after : List Visit) (v : Visit) → slice_get before i ≡ Some v → i < length before → IsWalking (Next w c.nodes d) (Far w c.nodes d start) start before i → VisitsNeighbours c w d v.node (v.mark + 1) before after
      → IsWalking (Next w c.nodes d) (Far w c.nodes d start) start after (i + 1)
  settle i before after v e lt h r = settle_at i before after lt h (subst (λ (u : Visit). VisitsNeighbours c w d u.node (u.mark + 1) before after) (sym (is_at before i v e)) r)

  -- it has gone on from all
  pub settled : (next limit : ℕ) (visits : List Visit) → limit ≡ length c.nodes → AreVisits limit visits → length visits ≤ next → IsWalking (Next w c.nodes d) (Far w c.nodes d start) start visits next → AreDistances w c.nodes d start visits
  settled next limit visits len different past h =
      let all : next ≡ length visits = (let within = h.within in omega arith) in
      distances w c.nodes d (shown_numbers c w shown) start visits (subst (IsWalking (Next w c.nodes d) (Far w c.nodes d start) start visits) all h) (subst (λ l. AreVisits l visits) len different)
