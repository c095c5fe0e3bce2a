-- Cores of small worlds.
use Rattle.std.proofs.Common.{◌≡◌, ℕ, ◌≤◌, Bool, true, false, not, ◌&&◌, List, [], ◌∷◌, length, cond, inl, inr, refl, ◌∙◌, ap, arith}
use Rattle.std.specs.List.{filter}
use Rattle.std.proofs.lemmas.Bool.{cases_Bool, cond-false}
use Rattle.graph_model.specs.Names.{same_name}
use Rattle.graph_model.specs.Presence.{nodes}
use Rattle.graph_model.specs.Keep.{is_named}
use Rattle.graph_model.specs.Core.{degree_in, IsInCore, IsCoreNumber}
use Rattle.world_laws.specs.Examples.{a, b, c, d, triangle, loop}
use Rattle.world_laws.proofs.Counts.{length_filter_le}
use Rattle.world_laws.proofs.Members.{nodes_has, each_at}
use Rattle.world_laws.proofs.Cores.{core_own, core_bound, core_present}

pub core_of_triangle : IsCoreNumber triangle a 2
core_of_triangle = ((a ∷ b ∷ c ∷ [], refl, refl), λ j h. core_bound triangle j a h)

pub core_of_tail : IsCoreNumber triangle d 1
core_of_tail = ((a ∷ b ∷ c ∷ d ∷ [], refl, refl), λ j h. core_bound triangle j d h)

-- where the first of three items does not pass, at most two do
first_missing : {X : Type 0} (p : X → Bool) (x : X) (xs : List X) → p x ≡ false → length (filter p (x ∷ xs)) ≤ length xs
first_missing p x xs h = let m = length_filter_le p xs in let e : length (filter p (x ∷ xs)) ≡ length (filter p xs) = ap length (cond-false (p x) _ _ h) in omega arith

-- in a 3-core c would need a, which has two neighbours alone
c_needs_a : IsInCore triangle 3 c → ⊥
c_needs_a h = elim (cases_Bool (is_named h.0 a)) [
  | inl e ↦ let m : 3 ≤ 2 = core_bound triangle 3 a (h.0, h.1, e) in omega arith
  | inr e ↦
      let some : 3 ≤ degree_in triangle h.0 c = (core_own triangle 3 c h).1 in
      let few : degree_in triangle h.0 c ≤ 2 = first_missing (λ other. is_named h.0 other && not (same_name other c)) a (b ∷ d ∷ []) (ap (λ t. t && true) e) in
      omega arith
]

few_neighbours : (node : List ℕ) → (IsInCore triangle 3 node → 3 ≤ 2) → IsInCore triangle 3 node → ⊥
few_neighbours node f h = let m = f h in omega arith

pub no_core_of_three : (node : List ℕ) → IsInCore triangle 3 node → ⊥
no_core_of_three node h =
    each_at (λ n. IsInCore triangle 3 n → ⊥) node (nodes triangle)
    (few_neighbours a (core_bound triangle 3 a), (few_neighbours b (core_bound triangle 3 b), (c_needs_a, ((λ k. let m : 3 ≤ 1 = core_bound triangle 3 d k in omega arith), tt))))
    (nodes_has triangle node ∙ core_present triangle 3 node h) h

-- a loop counts nothing
loop_counts : (t : Bool) → length (cond (t && false) (a ∷ []) []) ≡ 0
loop_counts true = refl
loop_counts false = refl

pub core_of_loop : IsCoreNumber loop a 0
core_of_loop = ((a ∷ [], refl, refl), λ j h. let some : j ≤ degree_in loop h.0 a = (core_own loop j a h).1 in let none : degree_in loop h.0 a ≡ 0 = loop_counts (is_named h.0 a) in omega arith)

pub core_of_alone : IsCoreNumber loop b 0
core_of_alone = ((b ∷ [], refl, refl), λ j h. core_bound loop j b h)
