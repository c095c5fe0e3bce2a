-- The edges that begin at a node, by its pairs.
use Rattle.std.proofs.Common.{◌≡◌, ℕ, ◌<◌, Bool, true, List, length, get_or, refl, sym, subst, ap, ◌∙◌, eqb-true, eq-eqb}
use Rattle.std.specs.Prelude.{◌==◌}
use Rattle.std.specs.List.{Contains, list_any}
use Rattle.world_laws.proofs.Answers.{contained_any}
use Rattle.world_laws.proofs.Rows.{each_contained}
use Rattle.graph_store.specs.declared.pairs.Ends.{Ends}
use Rattle.graph_store.specs.declared.edges.EdgeParts.{EdgeParts}
use Rattle.graph_store.specs.Places.{places}
use Rattle.graph_store.specs.Ends.{same_ends, ends_at}
use Rattle.graph_store.specs.EdgeParts.{ends_of, parts_at}
use Rattle.graph_store.specs.PairIndex.{pairs_from}
use Rattle.graph_store.specs.EdgeIndex.{edges_between}
use Rattle.graph_store.specs.Contents.{Contents}
use Rattle.graph_store.specs.Indexed.{IsIndexed}
use Rattle.graph_store.proofs.LinkLaws.{same_ends-equal, same_ends-own}
use Rattle.graph_store.proofs.Listed.{list_any-place}
use Rattle.view_trait.proofs.Pairs.{any_place, each_place, places_any}
use Rattle.temporal_reach.specs.Offers.{Leaves}

-- a place is listed exactly where its item passes the test
place_listed : {X : Type 0} (test : X → Bool) (xs : List X) (d : X) (j : ℕ) → j < length xs → test (get_or xs j d) ≡ true → Contains (places test xs) j
place_listed test xs d j below e = contained_any (λ k. k == j) j (λ y h. sym (eqb-true y j h)) (places test xs) (places_any test (λ k. k == j) j xs d below e (eq-eqb j j refl))

listed_place : {X : Type 0} (test : X → Bool) (xs : List X) (d : X) (j : ℕ) → Contains (places test xs) j → (j < length xs) × (test (get_or xs j d) ≡ true)
listed_place test xs d j h = each_contained (λ k. (k < length xs) × (test (get_or xs k d) ≡ true)) (places test xs) j (each_place (λ k. (k < length xs) × (test (get_or xs k d) ≡ true)) test xs d (λ k below e. (below, e))) h

-- an edge of one of some pairs
abbrev pub IsOfPairs : Contents → List ℕ → ℕ → Type 0
IsOfPairs c pairs e = (p : ℕ) × Contains pairs p × Contains (edges_between c.edges (ends_at c.pairs p)) e

pub pair_leaves : (c : Contents) (n p e : ℕ) → Contains (pairs_from c.pairs n) p → Contains (edges_between c.edges (ends_at c.pairs p)) e → Leaves c n e
pair_leaves c n p e h k =
    let from = listed_place (λ (x : Ends). x.src == n) c.pairs (record { src = 0; dst = 0 }) p h in
    let of = listed_place (λ (x : EdgeParts). same_ends (ends_at c.pairs p) (ends_of x)) c.edges (record { src = 0; dst = 0; layer = 0 }) e k in
    let same : ends_at c.pairs p ≡ ends_of (parts_at c.edges e) = same_ends-equal (ends_at c.pairs p) (ends_of (parts_at c.edges e)) of.1 in
    (of.0, sym (ap (λ (x : Ends). x.src) same) ∙ eqb-true (ends_at c.pairs p).src n from.1)

-- an edge leads where its pair does
pub pair_leads_to : (c : Contents) (p e : ℕ) → Contains (edges_between c.edges (ends_at c.pairs p)) e → (ends_at c.pairs p).dst ≡ (parts_at c.edges e).dst
pair_leads_to c p e k =
    let of = listed_place (λ (x : EdgeParts). same_ends (ends_at c.pairs p) (ends_of x)) c.edges (record { src = 0; dst = 0; layer = 0 }) e k in
    ap (λ (x : Ends). x.dst) (same_ends-equal (ends_at c.pairs p) (ends_of (parts_at c.edges e)) of.1)

pub leaves_pair : (c : Contents) (n e : ℕ) → IsIndexed c → Leaves c n e → IsOfPairs c (pairs_from c.pairs n) e
leaves_pair c n e h k =
    let ends = ends_of (parts_at c.edges e) in
    let d : Ends = record { src = 0; dst = 0 } in
    let some : list_any (same_ends ends) c.pairs ≡ true = h.known_pairs ends ∙ list_any-place (λ (x : EdgeParts). same_ends ends (ends_of x)) c.edges e (record { src = 0; dst = 0; layer = 0 }) k.0 (same_ends-own ends) in
    let r = any_place (same_ends ends) c.pairs d some in
    let same : ends ≡ ends_at c.pairs r.0 = same_ends-equal ends (ends_at c.pairs r.0) r.2 in (
      r.0,
      place_listed (λ (x : Ends). x.src == n) c.pairs d r.0 r.1 (eq-eqb (ends_at c.pairs r.0).src n (sym (ap (λ (x : Ends). x.src) same) ∙ k.1)),
      place_listed (λ (x : EdgeParts). same_ends (ends_at c.pairs r.0) (ends_of x)) c.edges (record { src = 0; dst = 0; layer = 0 }) e k.0 (subst (λ z. same_ends z ends ≡ true) same (same_ends-own ends)),
    )
