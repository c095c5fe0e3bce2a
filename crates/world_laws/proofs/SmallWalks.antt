-- Walks in small worlds.
use Rattle.std.proofs.Common.{◌≡◌, ℕ, ◌≤◌, true, false, ◌&&◌, ◌||◌, List, [], ◌∷◌, length, inl, inr, refl, sym, ◌∙◌, subst, arith}
use Rattle.std.specs.List.{AllByRecursion}
use Rattle.std.specs.Ordering.{is_gt}
use Rattle.std.proofs.lemmas.Bool.{or_cases, and_parts, true≢false}
use Rattle.graph_model.specs.declared.queries.Direction.{Direction}
use Rattle.graph_model.specs.declared.queries.Direction.TheVariants.{Outward, Both}
use Rattle.graph_model.specs.Names.{name_cmp, same_name}
use Rattle.graph_model.specs.World.{World}
use Rattle.graph_model.specs.Presence.{nodes}
use Rattle.graph_model.specs.Neighbours.{leads}
use Rattle.graph_model.specs.Walk.{Leads, Walk, Reaches, IsDistance, IsLabel, IsOutOf, IsInTo}
use Rattle.world_laws.specs.Examples.{a, b, c, path, loop}
use Rattle.world_laws.proofs.Order.{same_name-refl, same_name-exact}
use Rattle.world_laws.proofs.Members.{nodes_has, each_at}
use Rattle.world_laws.proofs.Reach.{leads_present, walk_reaches, reaches_present}

-- names that are not the same are apart
apart : (m n : List ℕ) → same_name m n ≡ false → m ≡ n → ⊥
apart m n h e = true≢false (sym (subst (λ z. same_name m z ≡ true) e (same_name-refl m)) ∙ h)

-- a walk to another node has a step, and one to a node that is no neighbour has two
module _ (w : World) (d : Direction) (from to : List ℕ) (other : same_name from to ≡ false) where
  one_or_more : (names : List (List ℕ)) → Leads w d from names to → 1 ≤ length names
  one_or_more [] h = absurd (apart from to other h)
  one_or_more (n ∷ names) h = omega arith

  two_or_more : leads w d from to ≡ false → (names : List (List ℕ)) → Leads w d from names to → 2 ≤ length names
  two_or_more f [] h = absurd (apart from to other h)
  two_or_more f (n ∷ []) h = absurd (true≢false (sym (subst (λ z. leads w d from z ≡ true) h.1 h.0) ∙ f))
  two_or_more f (n ∷ m ∷ names) h = omega arith

pub b_from_a : IsDistance path Outward a b 1
b_from_a = ((refl, (b ∷ [], refl, (refl, refl))), λ m k. subst (λ z. 1 ≤ z) k.1.1 (one_or_more path Outward a b refl k.1.0 k.1.2))

pub c_from_a : IsDistance path Outward a c 2
c_from_a = ((refl, (b ∷ c ∷ [], refl, (refl, (refl, refl)))), λ m k. subst (λ z. 2 ≤ z) k.1.1 (two_or_more path Outward a c refl refl k.1.0 k.1.2))

pub a_from_c : IsDistance path Both c a 2
a_from_c = ((refl, (b ∷ a ∷ [], refl, (refl, (refl, refl)))), λ m k. subst (λ z. 2 ≤ z) k.1.1 (two_or_more path Both c a refl refl k.1.0 k.1.2))

-- nothing leads out of c
stuck_at_c : (names : List (List ℕ)) → Leads path Outward c names a → ⊥
stuck_at_c [] h = apart c a refl h
stuck_at_c (n ∷ names) h = true≢false (sym h.0)

pub no_walk_back : (n : ℕ) → Walk path Outward c n a → ⊥
no_walk_back n k = stuck_at_c k.1.0 k.1.2

-- what is least of the present nodes is least of those that are reached
least_reached : (w : World) (node label : List ℕ) → AllByRecursion (λ n. is_gt (name_cmp label n) ≡ false) (nodes w) → (other : List ℕ) → Reaches w Both node other → is_gt (name_cmp label other) ≡ false
least_reached w node label h other r =
    let led = leads_present w Both in
    each_at (λ n. is_gt (name_cmp label n) ≡ false) other (nodes w) h (nodes_has w other ∙ reaches_present w Both node led other (walk_reaches w Both node led other r))

pub label_of_c : IsLabel path c a
label_of_c = ((2, a_from_c.0), least_reached path c a (refl, (refl, (refl, tt))))

pub c_out_of_a : IsOutOf path a c
c_out_of_a = (λ e. apart c a refl e, (2, c_from_a.0))

pub a_into_c : IsInTo path c a
a_into_c = (λ e. apart a c refl e, (2, c_from_a.0))

-- ---- a loop at a, and b alone
loop_stays : (names : List (List ℕ)) (other : List ℕ) → Leads loop Outward a names other → other ≡ a
loop_stays [] other h = sym h
loop_stays (n ∷ names) other h = loop_stays names other (subst (λ z. Leads loop Outward z names other) (at_a n h.0) h.1)
  where
    at_a : (n : List ℕ) → leads loop Outward a n ≡ true → n ≡ a
    at_a n k = elim (or_cases (same_name n a) false k) [ inl e ↦ same_name-exact n a e | inr e ↦ absurd (true≢false (sym e)) ]

pub nothing_out_of_a : (other : List ℕ) → IsOutOf loop a other → ⊥
nothing_out_of_a other r = r.0 (loop_stays r.1.1.1.0 other r.1.1.1.2)

pub label_of_loop : IsLabel loop a a
label_of_loop = ((0, (refl, ([], refl, refl))), least_reached loop a a (refl, (refl, tt)))

no_link_at_b : (n : List ℕ) → leads loop Both b n ≡ true → ⊥
no_link_at_b n h = elim (or_cases false ((same_name n a && false) || false) h) [
  | inl e ↦ true≢false (sym e)
  | inr e ↦ elim (or_cases (same_name n a && false) false e) [ inl f ↦ true≢false (sym (and_parts (same_name n a) false f).1) | inr f ↦ true≢false (sym f) ]
]

alone_stays : (names : List (List ℕ)) (other : List ℕ) → Leads loop Both b names other → other ≡ b
alone_stays [] other h = sym h
alone_stays (n ∷ names) other h = absurd (no_link_at_b n h.0)

pub label_of_b : IsLabel loop b b
label_of_b = ((0, (refl, ([], refl, refl))), λ other r. subst (λ z. is_gt (name_cmp b z) ≡ false) (sym (alone_stays r.1.1.0 other r.1.1.2)) refl)
