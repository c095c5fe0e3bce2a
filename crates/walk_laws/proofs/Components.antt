-- The nodes that a walk reaches, without its start, are the components of the start.
use Rattle.std.proofs.Common.{◌≡◌, ◌≢◌, ℕ, ◌<◌, Bool, true, false, not, List, [], ◌∷◌, cond, length, map, sym, ◌∙◌, ap, subst, inl, inr, eqb, eq-eqb}
use Rattle.std.specs.Prelude.{◌↔◌}
use Rattle.std.specs.List.{filter, Contains, AllByRecursion}
use Rattle.std.specs.declared.cmp.Ordering.TheVariants.{Less}
use Rattle.std.proofs.lemmas.Bool.{cond_both, cond-true, eqb-true, not-true, true≢false, cases_Bool}
use Rattle.std.proofs.lemmas.List.Elements.{All-contains, filter_passes}
use Rattle.graph_model.specs.declared.queries.Direction.{Direction}
use Rattle.graph_model.specs.declared.queries.Direction.TheVariants.{Outward, Inward}
use Rattle.graph_model.specs.declared.queries.Ask.TheVariants.{OutComponent, InComponent}
use Rattle.graph_model.specs.Answer.{Row, NodeRow, RowsRise, AreTheFacts}
use Rattle.graph_model.specs.Names.{name_cmp}
use Rattle.graph_model.specs.Presence.{node_present}
use Rattle.graph_model.specs.Rising.{Rises}
use Rattle.graph_model.specs.Walk.{Reaches}
use Rattle.graph_model.specs.World.{World}
use Rattle.world_laws.proofs.Answers.{contains_map, less_then, map_contains}
use Rattle.world_laws.proofs.Rows.{contains_cases, contains_first, contains_later, contains_none}
use Rattle.node_visits.specs.declared.visited.Visit.{Visit}
use Rattle.node_visits.specs.Visits.{nodes_of}
use Rattle.walk_laws.specs.Numbers.{AreNumbers, name_of, NamesRise}
use Rattle.walk_laws.specs.Distances.{AreDistances, HasDistance}
use Rattle.walk_laws.specs.Components.{is_other, others, reached_row}
use Rattle.walk_laws.proofs.Places.{same_number}
use Rattle.walk_laws.proofs.Rows.{rows_rise}
use Rattle.walk_laws.proofs.Turned.{end_of_walk, turn}

-- ---- kept items

-- the names of the items that pass a test rise where those of all do
names_kept : {X : Type 0} (name : X → List ℕ) (p : X → Bool) (xs : List X) → Rises name_cmp (map name xs) → Rises name_cmp (map name (filter p xs))
names_kept name p [] h = tt
names_kept {X} name p (x ∷ xs) h = cond_both (p x) (x ∷ filter p xs) (filter p xs) (λ zs. Rises name_cmp (map name zs)) (λ e. (each xs h.0, names_kept name p xs h.1)) (λ e. names_kept name p xs h.1)
  where
    each : (ys : List X) → AllByRecursion (λ n. name_cmp (name x) n ≡ Less) (map name ys) → AllByRecursion (λ n. name_cmp (name x) n ≡ Less) (map name (filter p ys))
    each [] k = tt
    each (y ∷ ys) k = cond_both (p y) (y ∷ filter p ys) (filter p ys) (λ zs. AllByRecursion (λ n. name_cmp (name x) n ≡ Less) (map name zs)) (λ e. (k.0, each ys k.1)) (λ e. each ys k.1)

-- an item that passes is among those that pass
contains_kept : {X : Type 0} (p : X → Bool) (xs : List X) (x : X) → Contains xs x → p x ≡ true → Contains (filter p xs) x
contains_kept p [] x c e = absurd (contains_none x c)
contains_kept p (y ∷ ys) x c e = elim (contains_cases y ys x c) [
  | inl same ↦ subst (λ zs. Contains zs x) (sym (cond-true (p y) (y ∷ filter p ys) (filter p ys) (ap p same ∙ e))) (subst (Contains (y ∷ filter p ys)) same (contains_first y (filter p ys)))
  | inr later ↦ cond_both (p y) (y ∷ filter p ys) (filter p ys) (λ zs. Contains zs x) (λ f. contains_later y (filter p ys) x (contains_kept p ys x later e)) (λ f. contains_kept p ys x later e)
]

-- and one among those that pass is among all
contained_kept : {X : Type 0} (p : X → Bool) (xs : List X) (x : X) → Contains (filter p xs) x → Contains xs x
contained_kept p [] x c = c
contained_kept {X} p (y ∷ ys) x c = by (p y) c (contained_kept p ys x)
  where
    by : (t : Bool) → Contains (cond t (y ∷ filter p ys) (filter p ys)) x → (Contains (filter p ys) x → Contains ys x) → Contains (y ∷ ys) x
    by true k all = elim (contains_cases y (filter p ys) x k) [
      | inl same ↦ subst (Contains (y ∷ ys)) same (contains_first y ys)
      | inr later ↦ contains_later y ys x (all later)
    ]
    by false k all = contains_later y ys x (all k)

-- ---- the other nodes

module _ (w : World) (nodes : List (List ℕ)) (d : Direction) (numbers : AreNumbers w nodes) (start : ℕ) (known : start < length nodes) (visits : List Visit) (h : AreDistances w nodes d start visits) where
  abbrev IsOther : List ℕ → Type 0
  IsOther node = (node ≢ name_of nodes start) × Reaches w d (name_of nodes start) node

  -- a visit of another node
  visit_is_other : (v : Visit) → Contains (others start visits) v → IsOther (name_of nodes v.node)
  visit_is_other v c =
      let all = contained_kept (is_other start) visits v c in
      let far = All-contains (HasDistance w nodes d start) visits v h.least all in
      let has : v.node < length nodes = All-contains (λ n. n < length nodes) (nodes_of visits) v.node h.different.within (map_contains (λ (u : Visit). u.node) visits v all) in
      let other = All-contains (λ (u : Visit). is_other start u ≡ true) (others start visits) v (filter_passes (is_other start) visits) c in
      (λ e. true≢false (sym (eq-eqb v.node start (same_number w nodes numbers v.node start has known e)) ∙ not-true (eqb v.node start) other), (v.mark, far.0))

  has_other : (node : List ℕ) → IsOther node → Contains (map (reached_row nodes) (others start visits)) (NodeRow node)
  has_other node r =
      let found = contains_map (λ (v : Visit). name_of nodes v.node) visits node (h.all node r.1) in
      let v = found.0 in
      let apart : is_other start v ≡ true = elim (cases_Bool (eqb v.node start)) [
        | inl e ↦ absurd (r.0 (found.2 ∙ ap (name_of nodes) (eqb-true v.node start e)))
        | inr e ↦ ap not e
      ] in
      subst (λ z. Contains (map (reached_row nodes) (others start visits)) (NodeRow z)) (sym found.2) (map_contains (reached_row nodes) (others start visits) v (contains_kept (is_other start) visits v found.1 apart))

  others_exact : (row : Row) → Contains (map (reached_row nodes) (others start visits)) row ↔ ((node : List ℕ) × IsOther node × (row ≡ NodeRow node))
  others_exact row = (
    λ c. let found = contains_map (reached_row nodes) (others start visits) row c in (name_of nodes found.0.node, visit_is_other found.0 found.1, found.2),
    λ f. subst (Contains (map (reached_row nodes) (others start visits))) (sym f.2) (has_other f.0 f.1),
  )

  others_rise : NamesRise nodes visits → RowsRise (map (reached_row nodes) (others start visits))
  others_rise rise =
      rows_rise (λ (v : Visit). name_of nodes v.node) (reached_row nodes) (λ a b. less_then (name_cmp (name_of nodes a.node) (name_of nodes b.node))) (others start visits)
      (names_kept (λ (v : Visit). name_of nodes v.node) (is_other start) visits rise)

-- ---- the facts

pub out_facts : (w : World) (nodes : List (List ℕ)) → AreNumbers w nodes → (start : ℕ) → start < length nodes → (visits : List Visit) → AreDistances w nodes Outward start visits → NamesRise nodes visits
    → AreTheFacts w (OutComponent (name_of nodes start)) (map (reached_row nodes) (others start visits))
out_facts w nodes numbers start known visits h rise = record {
  rise = others_rise w nodes Outward numbers start known visits h rise;
  exact = others_exact w nodes Outward numbers start known visits h;
}

pub in_facts : (w : World) (nodes : List (List ℕ)) → AreNumbers w nodes → (start : ℕ) → start < length nodes → (visits : List Visit) → AreDistances w nodes Inward start visits → NamesRise nodes visits
    → AreTheFacts w (InComponent (name_of nodes start)) (map (reached_row nodes) (others start visits))
in_facts w nodes numbers start known visits h rise = record {
  rise = others_rise w nodes Inward numbers start known visits h rise;
  exact = λ row. let e = others_exact w nodes Inward numbers start known visits h row in (
    λ c. let f = e.0 c in (f.0, (f.1.0, turn w Inward (name_of nodes start) f.0 f.1.1), f.2),
    λ f. e.1 (f.0, (f.1.0, turn w Outward f.0 (name_of nodes start) f.1.1), f.2),
  );
}

-- no walk begins or ends at a node that is not present
pub no_out : (w : World) (name : List ℕ) → node_present w name ≡ false → AreTheFacts w (OutComponent name) []
no_out w name absent = record { rise = tt; exact = λ row. (λ c. absurd (contains_none row c), λ f. absurd (true≢false (sym f.1.1.1.0 ∙ absent))) }

pub no_in : (w : World) (name : List ℕ) → node_present w name ≡ false → AreTheFacts w (InComponent name) []
no_in w name absent = record { rise = tt; exact = λ row. (λ c. absurd (contains_none row c), λ f. absurd (true≢false (sym (end_of_walk w Outward f.0 name f.1.1) ∙ absent))) }
