-- Rows of distances are the facts of the question how far nodes are.
use Rattle.std.proofs.Common.{◌≡◌, ℕ, ◌<◌, false, List, [], length, map, sym, ◌∙◌, subst, arith}
use Rattle.std.specs.Prelude.{IsPermutation}
use Rattle.std.specs.Cmp.{nat_eq_equiv}
use Rattle.std.specs.List.{Contains}
use Rattle.std.proofs.lemmas.Bool.{true≢false}
use Rattle.std.proofs.lemmas.List.{get_or-map, length-map}
use Rattle.std.proofs.lemmas.List.Elements.{All-get_or}
use Rattle.std.proofs.lemmas.List.Sorted.{All-permutation, Contains-permutation, IsPermutation-map}
use Rattle.std.proofs.lemmas.Map.Keys.{IsDistinct-IsPermutation}
use Rattle.graph_model.specs.declared.queries.Direction.{Direction}
use Rattle.graph_model.specs.declared.queries.Ask.TheVariants.{Hops}
use Rattle.graph_model.specs.Answer.{Row, NumberRow, IsFact, AreTheFacts}
use Rattle.graph_model.specs.Names.{name_cmp}
use Rattle.graph_model.specs.Presence.{node_present}
use Rattle.graph_model.specs.Walk.{IsDistance}
use Rattle.graph_model.specs.World.{World}
use Rattle.world_laws.proofs.Reach.{leads_present, one_distance}
use Rattle.world_laws.proofs.Answers.{less_then}
use Rattle.world_laws.proofs.Rows.{contains_none}
use Rattle.walk_laws.proofs.Rows.{rows_rise}
use Rattle.walk_laws.specs.Numbers.{name_of, names_of, NamesRise}
use Rattle.node_visits.specs.declared.visited.Visit.{Visit}
use Rattle.node_visits.specs.Visits.{AreVisits, nodes_of, visit_at}
use Rattle.node_visits.proofs.Visiting.{blank}
use Rattle.walk_laws.specs.Distances.{AreDistances, HasDistance, number_row}

-- ---- distances in another order

pub visits_moved : (limit : ℕ) (xs ys : List Visit) → IsPermutation xs ys → AreVisits limit xs → AreVisits limit ys
visits_moved limit xs ys moved h =
    let nodes = IsPermutation-map (λ (v : Visit). v.node) xs ys moved in
    record {
      within = All-permutation (λ n. n < limit) (nodes_of xs) (nodes_of ys) nodes h.within;
      once = IsDistinct-IsPermutation _ nat_eq_equiv.symm (nodes_of xs) (nodes_of ys) nodes h.once;
    }

pub distances_moved : (w : World) (nodes : List (List ℕ)) (d : Direction) (start : ℕ) (xs ys : List Visit) → IsPermutation xs ys → AreDistances w nodes d start xs → AreDistances w nodes d start ys
distances_moved w nodes d start xs ys moved h = record {
  different = visits_moved (length nodes) xs ys moved h.different;
  least = All-permutation (HasDistance w nodes d start) xs ys moved h.least;
  all = λ name r. Contains-permutation (names_of nodes xs) (names_of nodes ys) name (IsPermutation-map (λ (v : Visit). name_of nodes v.node) xs ys moved) (h.all name r);
}

-- ---- the facts

module _ (w : World) (nodes : List (List ℕ)) (d : Direction) (start : ℕ) (visits : List Visit) (h : AreDistances w nodes d start visits) where
  least_at : (i : ℕ) → i < length visits → IsDistance w d (name_of nodes start) (name_of nodes (visit_at visits i).node) (visit_at visits i).mark
  least_at i lt = All-get_or (HasDistance w nodes d start) visits i blank lt h.least

  is_fact : (row : Row) → Contains (map (number_row nodes) visits) row → IsFact w (Hops (name_of nodes start) d) row
  is_fact row r =
      let len = length-map visits (number_row nodes) in
      let lt : r.0 < length visits = (let k = r.1 in omega (arith, len, k)) in
      (name_of nodes (visit_at visits r.0).node, ((visit_at visits r.0).mark, least_at r.0 lt, sym r.2 ∙ get_or-map (number_row nodes) visits r.0 blank row lt))

  has_fact : (row : Row) → IsFact w (Hops (name_of nodes start) d) row → Contains (map (number_row nodes) visits) row
  has_fact row f =
      let r = h.all f.0 (f.1.0, f.1.1.0) in
      let names = length-map visits (λ (v : Visit). name_of nodes v.node) in
      let lt : r.0 < length visits = (let k = r.1 in omega (arith, names, k)) in
      let v = visit_at visits r.0 in
      let name : name_of nodes v.node ≡ f.0 = sym (get_or-map (λ (v : Visit). name_of nodes v.node) visits r.0 blank f.0 lt) ∙ r.2 in
      let mark : v.mark ≡ f.1.0 = one_distance w d (name_of nodes start) (leads_present w d) f.0 v.mark f.1.0 (subst (λ z. IsDistance w d (name_of nodes start) z v.mark) name (least_at r.0 lt)) f.1.1 in
      let len = length-map visits (number_row nodes) in
      (r.0, omega (arith, len, lt), get_or-map (number_row nodes) visits r.0 blank row lt ∙ ((λ i. NumberRow (name i) (mark i)) ∙ sym f.1.2))

  pub hop_facts : NamesRise nodes visits → AreTheFacts w (Hops (name_of nodes start) d) (map (number_row nodes) visits)
  hop_facts rise = record {
    rise = rows_rise (λ (v : Visit). name_of nodes v.node) (number_row nodes) (λ a b. less_then (name_cmp (name_of nodes a.node) (name_of nodes b.node))) visits rise;
    exact = λ row. (is_fact row, has_fact row);
  }

-- no walk begins at a node that is not present
pub no_hops : (w : World) (d : Direction) (name : List ℕ) → false ≡ node_present w name → AreTheFacts w (Hops name d) []
no_hops w d name absent = record {
  rise = tt;
  exact = λ row. (λ r. absurd (contains_none row r), λ f. absurd (true≢false (sym f.1.1.0.0 ∙ sym absent)));
}
