-- Rows about the nodes of a list that rises by name.
use Rattle.std.proofs.Common.{◌≡◌, ℕ, true, List, [], ◌∷◌, map, sym, ◌∙◌, ap, subst}
use Rattle.std.specs.Prelude.{◌↔◌}
use Rattle.std.specs.List.{AllByRecursion, Contains, list_any}
use Rattle.std.specs.declared.cmp.Ordering.TheVariants.{Less, Equal}
use Rattle.std.specs.Ordering.{nat_cmp, ordering_then}
use Rattle.std.specs.Cmp.Lexicographic.{slice_cmp}
use Rattle.graph_model.specs.declared.queries.Ask.{Ask}
use Rattle.graph_model.specs.Names.{name_cmp, same_name}
use Rattle.graph_model.specs.Rising.{Rises}
use Rattle.graph_model.specs.World.{World}
use Rattle.graph_model.specs.Answer.{Row, row_cmp, row_names, row_place, RowsRise, IsFact, AreTheFacts}
use Rattle.world_laws.proofs.Existence.{OneFact}
use Rattle.world_laws.proofs.Answers.{contains_map, map_contains, contained_any}
use Rattle.world_laws.proofs.Rows.{each_contained}
use Rattle.world_laws.proofs.Order.{same_name-exact}

row_less : (a b : Row) (m n : List ℕ) → row_names a ≡ m ∷ [] → row_names b ≡ n ∷ [] → row_place a ≡ 0 → row_place b ≡ 0 → name_cmp m n ≡ Less → row_cmp a b ≡ Less
row_less a b m n p q r s h =
    (λ i. ordering_then (slice_cmp name_cmp (p i) (q i)) (nat_cmp (r i) (s i)))
    ∙ ap (λ o. ordering_then (ordering_then o Equal) (nat_cmp 0 0)) h

module _ {Y : Type 0} (fact : List ℕ → Row → Type 0) (key : Y → List ℕ) (row : Y → Row) where
  -- the rows rise as the names do
  rows_rise : (ys : List Y) → Rises name_cmp (map key ys) → AllByRecursion (λ y. OneFact fact (key y) (row y)) ys → RowsRise (map row ys)
  rows_rise [] h k = tt
  rows_rise (y ∷ ys) h k = (later ys h.0 k.1, rows_rise ys h.1 k.1)
    where
      later : (zs : List Y) → AllByRecursion (λ n. name_cmp (key y) n ≡ Less) (map key zs) → AllByRecursion (λ z. OneFact fact (key z) (row z)) zs → AllByRecursion (λ r. row_cmp (row y) r ≡ Less) (map row zs)
      later [] l m = tt
      later (z ∷ zs) l m = (row_less (row y) (row z) (key y) (key z) k.0.named m.0.named k.0.first m.0.first l.0, later zs l.1 m.1)

  -- where each of some items has the one fact about its name, and no other name has one, their rows are the facts
  pub facts_of_items : (w : World) (ask : Ask) → ((r : Row) → IsFact w ask r ↔ ((name : List ℕ) × fact name r)) → (ys : List Y) → Rises name_cmp (map key ys) → AllByRecursion (λ y. OneFact fact (key y) (row y)) ys
      → ((name : List ℕ) (r : Row) → fact name r → list_any (same_name name) (map key ys) ≡ true) → AreTheFacts w ask (map row ys)
  facts_of_items w ask same ys rise each among = record {
    rise = rows_rise ys rise each;
    exact = λ r. (
      λ c. (
          let y = contains_map row ys r c in
          let one = each_contained (λ z. OneFact fact (key z) (row z)) ys y.0 each y.1 in
          (same r).1 (key y.0, subst (fact (key y.0)) (sym y.2) one.holds)
          ),
      λ f. (
          let s = (same r).0 f in
          let n = contains_map key ys s.0 (contained_any (same_name s.0) s.0 (same_name-exact s.0) (map key ys) (among s.0 r s.1)) in
          let one = each_contained (λ z. OneFact fact (key z) (row z)) ys n.0 each n.1 in
          let is : r ≡ row n.0 = one.only r (subst (λ z. fact z r) n.2 s.1) in
          subst (Contains (map row ys)) (sym is) (map_contains row ys n.0 n.1)
          ),
    );
  }
