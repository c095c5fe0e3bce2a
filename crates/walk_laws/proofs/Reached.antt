-- Where a walk has settled all that it visited, the marks are distances, and each node that is reached was visited.
use Rattle.std.proofs.Common.{◌≡◌, ℕ, ◌+◌, ◌<◌, ◌≤◌, true, List, [], ◌∷◌, length, sym, ◌∙◌, ap, subst, arith}
use Rattle.std.specs.List.{Contains}
use Rattle.std.proofs.lemmas.List.{get_or-map, length-map}
use Rattle.std.proofs.lemmas.List.Elements.{All-from_get_or}
use Rattle.graph_model.specs.declared.queries.Direction.{Direction}
use Rattle.graph_model.specs.World.{World}
use Rattle.graph_model.specs.Neighbours.{leads}
use Rattle.graph_model.specs.Walk.{Leads, Walk, Reaches, IsDistance}
use Rattle.world_laws.proofs.Reach.{leads_present}
use Rattle.walk_laws.specs.Numbers.{AreNumbers, name_of, names_of}
use Rattle.node_visits.specs.declared.visited.Visit.{Visit}
use Rattle.node_visits.specs.Visits.{AreVisits, node_in, mark_in}
use Rattle.node_visits.specs.Levels.{Within, IsWalking}
use Rattle.node_visits.proofs.Visiting.{blank}
use Rattle.walk_laws.specs.Distances.{AreDistances, HasDistance}
use Rattle.walk_laws.specs.Steps.{Next, Far}
use Rattle.walk_laws.proofs.Places.{same_number, number_of, same_place}

farther : (visits : List Visit) (n j k : ℕ) → j ≤ k → Within visits n j → Within visits n k
farther visits n j k le h = record { place = h.place; below = h.below; is = h.is; near = (let u = h.near in omega arith) }

-- a node of a name was visited with a mark of at most k
pub record Found (nodes : List (List ℕ)) (visits : List Visit) (name : List ℕ) (k : ℕ) : Type 0 where
  pub node : ℕ
  pub within : Within visits node k
  pub named : name_of nodes node ≡ name

module _ (w : World) (nodes : List (List ℕ)) (d : Direction) (h_numbers : AreNumbers w nodes) (start : ℕ) (visits : List Visit) (h : IsWalking (Next w nodes d) (Far w nodes d start) start visits (length visits)) where
  found : (names : List (List ℕ)) (a k : ℕ) (to : List ℕ) → Within visits a k → Leads w d (name_of nodes a) names to → Found nodes visits to (k + length names)
  found [] a k to at e = record { node = a; within = farther visits a k (k + 0) (omega arith) at; named = e }
  found (next ∷ names) a k to at e =
      let n = number_of w nodes h_numbers next (leads_present w d (name_of nodes a) next e.0) in
      let led : leads w d (name_of nodes (node_in visits at.place)) (name_of nodes n.0) ≡ true = ap (λ z. leads w d (name_of nodes z) (name_of nodes n.0)) at.is ∙ (ap (leads w d (name_of nodes a)) n.2 ∙ e.0) in
      let on = h.closed at.place at.below n.0 (n.1, led) in
      let r = found names n.0 (k + 1) to (farther visits n.0 (mark_in visits at.place + 1) (k + 1) (let u = at.near in omega arith) on) (subst (λ z. Leads w d z names to) (sym n.2) e.1) in
      subst (Found nodes visits to) (let m : k + 1 + length names ≡ k + length (next ∷ names) = omega arith in m) r

  found_by_walk : (k : ℕ) (to : List ℕ) → Walk w d (name_of nodes start) k to → Found nodes visits to k
  found_by_walk k to walk = subst (Found nodes visits to) (let e : 0 + length walk.1.0 ≡ k = (let len = walk.1.1 in omega (arith, len)) in e) (found walk.1.0 start 0 to h.begun walk.1.2)

  least : (different : AreVisits (length nodes) visits) (i : ℕ) → i < length visits → IsDistance w d (name_of nodes start) (name_of nodes (node_in visits i)) (mark_in visits i)
  least different i lt = (
    (h.sound i lt).1,
    λ m walk.
        let f = found_by_walk m (name_of nodes (node_in visits i)) walk in
        let known : f.node < length nodes = subst (λ z. z < length nodes) f.within.is (h.sound f.within.place f.within.below).0 in
        let same : f.node ≡ node_in visits i = same_number w nodes h_numbers f.node (node_in visits i) known (h.sound i lt).0 f.named in
        let place : f.within.place ≡ i = same_place (length nodes) visits f.within.place i different f.within.below lt (f.within.is ∙ same) in
        subst (λ z. mark_in visits z ≤ m) place f.within.near,
  )

  all : (name : List ℕ) → Reaches w d (name_of nodes start) name → Contains (names_of nodes visits) name
  all name r =
      let f = found_by_walk r.0 name r.1 in
      let len = length-map visits (λ (v : Visit). name_of nodes v.node) in
      let below = f.within.below in
      (f.within.place, omega (arith, len, below), get_or-map (λ (v : Visit). name_of nodes v.node) visits f.within.place blank name f.within.below ∙ (ap (name_of nodes) f.within.is ∙ f.named))

  pub distances : AreVisits (length nodes) visits → AreDistances w nodes d start visits
  distances different = record {
    different = different;
    least = All-from_get_or (HasDistance w nodes d start) visits blank (least different);
    all = all;
  }
