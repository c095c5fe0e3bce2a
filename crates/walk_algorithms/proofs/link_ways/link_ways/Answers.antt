use Rattle.std.proofs.Common.{rules, ◌∙◌, ap, arith, length, subst, sym}
use Rattle.std.specs.Prelude.{IsPermutation}
use Rattle.std.specs.List.{IsDistinct}
use Rattle.std.proofs.lemmas.List.{length-map}
use Rattle.std.proofs.lemmas.List.Sorted.{IsNonDecreasingBy-from_sort_by_key, IsPermutation-map, length_permutation}
use Rattle.std.proofs.lemmas.Result.{IfOk-weaker}
use Rattle.graph_store.specs.Ends.{same_ends}
use Rattle.present_links.specs.Links.{ends_in, link_ends}
use Rattle.walk_algorithms.specs.Paired.{ArePaired, both_ends}
use Rattle.walk_algorithms.proofs.Listing.{paired_from_sort}
use Rattle.walk_algorithms.proofs.Paired.{counted_permuted}
use Rattle.walk_algorithms.proofs.link_ways.link_ways.Goals as goal

pub count_links-requires-clause-paired : goal.count_links-requires-clause-paired
count_links-requires-clause-paired c =
    subst (λ links. ArePaired (ends_in links)) (sym c.as_slice.ensures.value)
    (paired_from_sort c.into_vec-links.result.items c.sort_unstable_by_key.new.self.items
    (subst (IsDistinct same_ends) (sym c.into_vec-links.ensures) c.requires.once) c.sort_unstable_by_key.ensures.permutation
    (IsNonDecreasingBy-from_sort_by_key (λ l. both_ends (link_ends l)) c.sort_unstable_by_key.new.self.items c.sort_unstable_by_key.ensures.sorted (λ a r q k. search rules)))

pub count_links-requires-clause-few : goal.count_links-requires-clause-few
count_links-requires-clause-few c =
    let sorted = ap length c.as_slice.ensures.value in
    let moved = length_permutation c.into_vec-links.result.items c.sort_unstable_by_key.new.self.items c.sort_unstable_by_key.ensures.permutation in
    let links = sym (length-map c.into_vec-links.result.items link_ends) ∙ ap length c.into_vec-links.ensures in
    let few = c.requires.few in
    omega (arith, sorted, moved, links, few)

pub returns : goal.returns
returns c =
    let moved : IsPermutation c.args.links (ends_in c.as_slice.result.now) =
    subst (λ links. IsPermutation links (ends_in c.as_slice.result.now)) c.into_vec-links.ensures
    (subst (λ links. IsPermutation (ends_in c.into_vec-links.result.items) (ends_in links)) (sym c.as_slice.ensures.value)
    (IsPermutation-map link_ends c.into_vec-links.result.items c.sort_unstable_by_key.new.self.items c.sort_unstable_by_key.ensures.permutation)) in
    IfOk-weaker c.count_links.result _ _ (λ table. counted_permuted c.args.links (ends_in c.as_slice.result.now) table moved) c.count_links.ensures
