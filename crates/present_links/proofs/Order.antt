-- The order of links, and the rising list of them.
use Rattle.std.proofs.Common.{◌≡◌, ℕ, ◌+◌, ◌<◌, ◌≤◌, Bool, ◌&&◌, List, [], ◌∷◌, cond, length, sym, ◌∙◌, ap, subst, arith}
use Rattle.std.specs.List.{AllByRecursion, IsDistinct}
use Rattle.std.specs.List.Retain.{IsFiltered, DiffersFromLast}
use Rattle.std.specs.List.Sorted.{IsPermutation, IsSorted, IsStrictlySortedBy}
use Rattle.std.specs.Cmp.{IsTotalOrder, tied_then, unsigned_tied}
use Rattle.std.specs.Ordering.{eq_by_cmp, is_eq, is_lt, is_gt, nat_cmp}
use Rattle.std.specs.declared.cmp.Ordering.{Ordering}
use Rattle.std.specs.declared.cmp.Ordering.TheVariants.{Less, Equal, Greater}
use Rattle.std.proofs.lemmas.Cmp.{nat_cmp_total, then_total}
use Rattle.std.proofs.lemmas.Map.Keys.{IsDistinct-from_sorted}
use Rattle.graph_model.specs.Rising.{Rises, put_rising, rising}
use Rattle.graph_model.specs.World.{World}
use Rattle.world_laws.proofs.RisingItems.{Rises-rising, any_rising}
use Rattle.graph_store.specs.declared.pairs.Ends.{Ends}
use Rattle.graph_store.specs.Ends.{same_ends}
use Rattle.graph_store.specs.Contents.{name_at}
use Rattle.graph_store.proofs.LinkLaws.{same_ends-equal}
use Rattle.present_links.specs.declared.link_list.Link.{Link}
use Rattle.present_links.specs.Links.{HasLinks, ends_cmp, ends_in, link_ends}
use Rattle.view_trait.proofs.Settled.{map_rising, settled}

-- ---- the order

by_number : (key : Ends → ℕ) → IsTotalOrder (λ (p q : Ends). nat_cmp (key p) (key q))
by_number key = record {
  antisymm = λ p q. nat_cmp_total.antisymm (key p) (key q);
  trans = λ p q r. nat_cmp_total.trans (key p) (key q) (key r);
  congr = λ p q r. nat_cmp_total.congr (key p) (key q) (key r);
}

pub ends_total : IsTotalOrder ends_cmp
ends_total = then_total (by_number (λ (p : Ends). p.src)) (by_number (λ (p : Ends). p.dst))

-- pairs compare equal where they are the same
pub ends_tied : (p q : Ends) → same_ends p q ≡ is_eq (ends_cmp p q)
ends_tied p q = (λ i. sym (unsigned_tied p.src q.src) i && sym (unsigned_tied p.dst q.dst) i) ∙ tied_then (nat_cmp p.src q.src) (nat_cmp p.dst q.dst)

pub ends_exact : (p q : Ends) → ends_cmp p q ≡ Equal → p ≡ q
ends_exact p q e = same_ends-equal p q (ends_tied p q ∙ ap is_eq e)

-- ---- items of a rising list

module _ {X : Type 0} (cmp : X → X → Ordering) where
  sorted_rises : (xs : List X) → Rises cmp xs → IsStrictlySortedBy cmp xs
  unfolding IsStrictlySortedBy
  sorted_rises [] h = tt
  sorted_rises (x ∷ xs) h = (h.0, sorted_rises xs h.1)

  -- they are distinct
  pub distinct_rises : (same : X → X → Bool) → ((x y : X) → same x y ≡ eq_by_cmp cmp x y) → (xs : List X) → Rises cmp xs → IsDistinct same xs
  distinct_rises same ties xs h = subst (λ E. IsDistinct E xs) (λ i x y. sym (ties x y) i) (IsDistinct-from_sorted cmp xs (sorted_rises xs h))

  -- what holds of each item of a list holds of each of its rising list
  each_put : (P : X → Type 0) (x : X) (ys : List X) → P x → AllByRecursion P ys → AllByRecursion P (put_rising cmp x ys)
  each_put P x [] h k = (h, tt)
  each_put P x (y ∷ ys) h k = by (cmp x y) (each_put P x ys h k.1)
    where
      by : (o : Ordering) → AllByRecursion P (put_rising cmp x ys) → AllByRecursion P (cond (is_lt o) (x ∷ y ∷ ys) (cond (is_gt o) (y ∷ put_rising cmp x ys) (y ∷ ys)))
      by Less r = (h, k)
      by Equal r = k
      by Greater r = (k.0, r)

  pub each_rising : (P : X → Type 0) (xs : List X) → AllByRecursion P xs → AllByRecursion P (rising cmp xs)
  each_rising P [] h = tt
  each_rising P (x ∷ xs) h = each_put P x (rising cmp xs) h.0 (each_rising P xs h.1)

  -- they are no more than those of the list
  few_put : (x : X) (ys : List X) → length (put_rising cmp x ys) ≤ length ys + 1
  few_put x [] = omega arith
  few_put x (y ∷ ys) = by (cmp x y) (few_put x ys)
    where
      by : (o : Ordering) → length (put_rising cmp x ys) ≤ length ys + 1 → length (cond (is_lt o) (x ∷ y ∷ ys) (cond (is_gt o) (y ∷ put_rising cmp x ys) (y ∷ ys))) ≤ length (y ∷ ys) + 1
      by Less r = omega arith
      by Equal r = omega arith
      by Greater r = omega (arith, r)

  pub few_rising : (xs : List X) → length (rising cmp xs) ≤ length xs
  few_rising [] = omega arith
  few_rising (x ∷ xs) = let one = few_put x (rising cmp xs) in let more = few_rising xs in omega (arith, one, more)

-- ---- links

-- the rising list of the links of a world has its links
pub links_rising : (w : World) (names : List (List ℕ)) (links : List Ends) → HasLinks w names links → HasLinks w names (rising ends_cmp links)
links_rising w names links h = record {
  names = h.names;
  once = distinct_rises ends_cmp same_ends ends_tied (rising ends_cmp links) (Rises-rising ends_cmp ends_total links);
  within = each_rising ends_cmp (λ (p : Ends). (p.src < length names) × (p.dst < length names)) links h.within;
  linked = λ test.
      h.linked test
      ∙ sym (any_rising ends_cmp (λ (p : Ends). test (name_at names p.src) (name_at names p.dst)) (λ p q e. ap (λ (z : Ends). test (name_at names z.src) (name_at names z.dst)) (ends_exact p q e)) links);
}

-- links are compared by their ends
link_total : IsTotalOrder (λ (a b : Link). ends_cmp (link_ends a) (link_ends b))
link_total = record {
  antisymm = λ a b. ends_total.antisymm (link_ends a) (link_ends b);
  trans = λ a b d. ends_total.trans (link_ends a) (link_ends b) (link_ends d);
  congr = λ a b d. ends_total.congr (link_ends a) (link_ends b) (link_ends d);
}

link_exact : (a b : Link) → ends_cmp (link_ends a) (link_ends b) ≡ Equal → a ≡ b
link_exact a b e = ap {A = Ends} {B = Link} (λ p. record { src = p.src; dst = p.dst }) (ends_exact (link_ends a) (link_ends b) e)

-- what a sort and then a dedup leave of links is the rising list of their ends
pub links_settled : (xs ys zs : List Link) → IsFiltered (DiffersFromLast (λ (a b : Link). same_ends (link_ends a) (link_ends b))) [] ys zs
    → IsPermutation xs ys → IsSorted (λ (a b : Link). ends_cmp (link_ends a) (link_ends b)) ys → ends_in zs ≡ rising ends_cmp (ends_in xs)
links_settled xs ys zs left moved sorted =
    ap ends_in (settled (λ (a b : Link). ends_cmp (link_ends a) (link_ends b)) link_total link_exact (λ (a b : Link). same_ends (link_ends a) (link_ends b)) (λ a b. ends_tied (link_ends a) (link_ends b)) xs ys zs moved sorted left)
    ∙ map_rising ends_cmp link_ends xs
