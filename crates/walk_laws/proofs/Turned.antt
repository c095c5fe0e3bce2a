-- Walks that are one step longer, that go on, and that go the other way round.
use Rattle.std.proofs.Common.{◌≡◌, ℕ, ◌+◌, Bool, true, false, List, [], ◌∷◌, ◌++◌, ◌||◌, length-append, refl, sym, ◌∙◌, ap, subst}
use Rattle.std.specs.List.{list_any}
use Rattle.graph_model.specs.declared.queries.Direction.{Direction}
use Rattle.graph_model.specs.declared.queries.Direction.TheVariants.{Outward, Inward, Both}
use Rattle.graph_model.specs.Presence.{edges, node_present}
use Rattle.graph_model.specs.Neighbours.{edge_leads, leads}
use Rattle.graph_model.specs.Walk.{Leads, Walk, Reaches}
use Rattle.graph_model.specs.World.{World}
use Rattle.world_laws.proofs.Reach.{leads_present}

-- one step longer
pub leads_on : (w : World) (d : Direction) (from : List ℕ) (names : List (List ℕ)) (to next : List ℕ) → Leads w d from names to → leads w d to next ≡ true → Leads w d from (names ++ next ∷ []) next
leads_on w d from [] to next h k = (subst (λ z. leads w d z next ≡ true) (sym h) k, refl)
leads_on w d from (n ∷ names) to next h k = (h.0, leads_on w d n names to next h.1 k)

pub walk_on : (w : World) (d : Direction) (from : List ℕ) (k : ℕ) (to next : List ℕ) → Walk w d from k to → leads w d to next ≡ true → Walk w d from (k + 1) next
walk_on w d from k to next h leads =
    (h.0, (h.1.0 ++ next ∷ [], length-append h.1.0 (next ∷ []) ∙ ap (λ z. z + 1) h.1.1, leads_on w d from h.1.0 to next h.1.2 leads))

pub reach_on : (w : World) (d : Direction) (from to next : List ℕ) → Reaches w d from to → leads w d to next ≡ true → Reaches w d from next
reach_on w d from to next r leads = (r.0 + 1, walk_on w d from r.0 to next r.1 leads)

-- no step
pub reach_own : (w : World) (d : Direction) (from : List ℕ) → node_present w from ≡ true → Reaches w d from from
reach_own w d from present = (0, (present, ([], refl, refl)))

-- one walk after another
pub reach_all : (w : World) (d : Direction) (from to end : List ℕ) → Reaches w d from to → Reaches w d to end → Reaches w d from end
reach_all w d from to end r s = go s.1.1.0 to r s.1.1.2
  where
    go : (names : List (List ℕ)) (a : List ℕ) → Reaches w d from a → Leads w d a names end → Reaches w d from end
    go [] a k e = subst (Reaches w d from) e k
    go (n ∷ names) a k e = go names n (reach_on w d from a n k e.0) e.1

-- where a walk ends is present
pub end_of_walk : (w : World) (d : Direction) (from to : List ℕ) → Reaches w d from to → node_present w to ≡ true
end_of_walk w d from to r = go r.1.1.0 from r.1.0 r.1.1.2
  where
    go : (names : List (List ℕ)) (a : List ℕ) → node_present w a ≡ true → Leads w d a names to → node_present w to ≡ true
    go [] a h e = subst (λ z. node_present w z ≡ true) e h
    go (n ∷ names) a h e = go names n (leads_present w d a n e.0) e.1

-- ---- the other way round

abbrev pub turned : Direction → Direction
turned Outward = Inward
turned Inward = Outward
turned Both = Both

pub leads_back : (w : World) (d : Direction) (a b : List ℕ) → leads w d a b ≡ leads w (turned d) b a
leads_back w Outward a b = refl
leads_back w Inward a b = refl
leads_back w Both a b = swap (list_any (edge_leads a b) (edges w)) (list_any (edge_leads b a) (edges w))
  where
    swap : (s t : Bool) → (s || t) ≡ (t || s)
    swap true true = refl
    swap true false = refl
    swap false true = refl
    swap false false = refl

pub turn : (w : World) (d : Direction) (a b : List ℕ) → Reaches w d a b → Reaches w (turned d) b a
turn w d a b r = go r.1.1.0 a r.1.0 r.1.1.2
  where
    go : (names : List (List ℕ)) (n : List ℕ) → node_present w n ≡ true → Leads w d n names b → Reaches w (turned d) b n
    go [] n h e = subst (λ z. Reaches w (turned d) z n) e (reach_own w (turned d) n h)
    go (m ∷ names) n h e = reach_on w (turned d) b m n (go names m (leads_present w d n m e.0) e.1) (sym (leads_back w d n m) ∙ e.0)
