use Rattle.std.proofs.Common.{◌≡◌, map, subst, rules}
use Rattle.std.specs.Prelude.{IsPermutation}
use Rattle.std.specs.Ordering.{is_lt}
use Rattle.std.proofs.lemmas.Fn.{always_returns_same}
use Rattle.std.proofs.lemmas.List.MinMax.{ranks_by}
use Rattle.std.proofs.lemmas.List.Sorted.{All-permutation, IsPermutation-map}
use Rattle.graph_model.specs.Names.{name_cmp, name_total}
use Rattle.node_visits.specs.Visits.{AreVisits}
use Rattle.walk_algorithms.specs.Visits.{IsNamed, visit_of}
use Rattle.walk_algorithms.proofs.Visits.{sorted_rise}
use Rattle.walk_algorithms.proofs.by_name.sorted_visits.Goals as goal

pub returns-clause-visits : goal.returns-clause-visits
returns-clause-visits c =
    let sorted = c.sort_unstable_by.new.self.items in
    subst (λ vs. IsPermutation vs (map visit_of sorted)) c.in_ok-named.ensures.visits (IsPermutation-map visit_of c.in_ok-named.named.items sorted c.sort_unstable_by.ensures.permutation)

pub returns-clause-names : goal.returns-clause-names
returns-clause-names c = All-permutation (IsNamed c.args.store.now) c.in_ok-named.named.items c.sort_unstable_by.new.self.items c.sort_unstable_by.ensures.permutation c.in_ok-named.ensures.names

pub returns-clause-rise : goal.returns-clause-rise
returns-clause-rise c =
    let s = c.args.store.now in
    let visits = c.args.visited.now.visits in
    sorted_rise s c.nodes-indexed.ensures.indexed.node_names visits (subst (λ l. AreVisits l visits) c.requires c.len-once.ensures.visits) c.in_ok-named.named.items c.sort_unstable_by.new.self.items
    c.in_ok-named.ensures.visits c.in_ok-named.ensures.names
    (All-permutation (IsNamed s) c.in_ok-named.named.items c.sort_unstable_by.new.self.items c.sort_unstable_by.ensures.permutation c.in_ok-named.ensures.names) c.sort_unstable_by.ensures.permutation
    (c.sort_unstable_by.ensures.sorted (λ x y. is_lt (name_cmp x.name.now y.name.now)) (ranks_by name_total (λ x. x.name.now)) (always_returns_same _ (λ a r. is_lt r ≡ is_lt (name_cmp a.0.now.name.now a.1.0.now.name.now)) _ (λ a r q k. search rules)))
