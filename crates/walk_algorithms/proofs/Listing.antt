-- Links that are sorted by both their ends.
use Rattle.std.proofs.Common.{◌≡◌, ◌+◌, ◌<◌, true, List, length, get_or, ◌∙◌, subst, arith}
use Rattle.std.specs.Prelude.{nat_lt, IsPermutation}
use Rattle.std.specs.List.{IsDistinct}
use Rattle.std.specs.List.Sorted.{IsNonDecreasingBy}
use Rattle.std.proofs.lemmas.Bool.{le-ltb}
use Rattle.std.proofs.lemmas.List.{get_or-map, length-map}
use Rattle.std.proofs.lemmas.List.Sorted.{IsPermutation-map}
use Rattle.std.proofs.lemmas.Map.Keys.{IsDistinct-IsPermutation}
use Rattle.world_laws.proofs.Members.{both_true}
use Rattle.graph_store.specs.declared.pairs.Ends.{Ends}
use Rattle.graph_store.specs.Ends.{same_ends}
use Rattle.graph_store.proofs.LinkLaws.{same_ends-equal, same_ends-own}
use Rattle.present_links.specs.declared.link_list.Link.{Link}
use Rattle.present_links.specs.Links.{ends_in, link_ends}
use Rattle.walk_algorithms.specs.Paired.{ArePaired, both_ends}

-- pairs are alike either way round
ends_swapped : (p q : Ends) → same_ends p q ≡ same_ends q p
ends_swapped p q = both_true (same_ends p q) (same_ends q p)
    (λ e. subst (λ z. same_ends z p ≡ true) (same_ends-equal p q e) (same_ends-own p))
    (λ e. subst (λ z. same_ends z q ≡ true) (same_ends-equal q p e) (same_ends-own q))

-- distinct links that are sorted by both their ends stand beside their ways back
pub paired_from_sort : (before after : List Link) → IsDistinct same_ends (ends_in before) → IsPermutation before after → IsNonDecreasingBy (λ (l : Link). both_ends (link_ends l)) after → ArePaired (ends_in after)
paired_from_sort before after once moved up = record {
  once = IsDistinct-IsPermutation same_ends ends_swapped (ends_in before) (ends_in after) (IsPermutation-map link_ends before after moved) once;
  sorted = λ k d low high.
      let none : Link = record { src = 0; dst = 0 } in
      let long = length-map after link_ends in
      let next : k + 1 < length after = omega (arith, high, long) in
      let here : k < length after = omega (arith, next) in
      (λ j. nat_lt (both_ends (get_or-map link_ends after (k + 1) none d next j)) (both_ends (get_or-map link_ends after k none d here j)))
      ∙ le-ltb (both_ends (link_ends (get_or after (k + 1) none))) (both_ends (link_ends (get_or after k none))) (up k (k + 1) none (omega arith) next);
}
