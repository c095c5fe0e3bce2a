use Rattle.std.proofs.Common.{◌≡◌, ◌<◌, ◌+◌, ◌*◌, List, ℕ, length, sym, ap, subst, ◌∙◌, arith}
use Rattle.std.specs.List.{AllByRecursion}
use Rattle.graph_store.specs.Contents.{Contents}
use Rattle.graph_store.specs.PairIndex.{pairs_from, pairs_to}
use Rattle.view_trait.specs.Meaning.{StepsWithin}
use Rattle.view_trait.specs.Present.{edge_count_of}
use Rattle.view_trait.proofs.Costs.{StepsWithin-both, StepsWithin-times}
use Rattle.view_trait.proofs.Pairs.{pairs_from_within, pairs_to_within}
use Rattle.view_trait.proofs.presence.has_present_pair.Goals as goal

-- the pairs of a node in a store that has the view's contents
from : (s contents : Contents) (n : ℕ) (pairs : List ℕ) → pairs ≡ pairs_from s.pairs n → s ≡ contents → pairs ≡ pairs_from contents.pairs n
from s contents n pairs e same = e ∙ ap (λ (s : Contents). pairs_from s.pairs n) same

to : (s contents : Contents) (n : ℕ) (pairs : List ℕ) → pairs ≡ pairs_to s.pairs n → s ≡ contents → pairs ≡ pairs_to contents.pairs n
to s contents n pairs e same = e ∙ ap (λ (s : Contents). pairs_to s.pairs n) same

pub any_pair_present-requires : goal.any_pair_present-requires
any_pair_present-requires g c =
    let contents = g.V.View.contents c.args.view.now in
    let pairs = from c.store-store.result.now contents c.args.n.0 c.out_pairs.result c.out_pairs.ensures c.store-store.ensures in
    subst (AllByRecursion (λ p. p < length contents.pairs)) (sym pairs) (pairs_from_within contents c.args.n.0)

pub any_pair_present-requires-else-any_pair_present : goal.any_pair_present-requires-else-any_pair_present
any_pair_present-requires-else-any_pair_present g c =
    let contents = g.V.View.contents c.args.view.now in
    let pairs = to c.store-store.result.now contents c.args.n.0 c.in_pairs.result c.in_pairs.ensures c.store-store.ensures in
    subst (AllByRecursion (λ p. p < length contents.pairs)) (sym pairs) (pairs_to_within contents c.args.n.0)

pub returns-then-any_pair_present-clause-cost : goal.returns-then-any_pair_present-clause-cost
returns-then-any_pair_present-clause-cost g c = λ h.
    let contents = g.V.View.contents c.args.view.now in
    let n = c.args.n.0 in
    let s = (g.V.View.searches c.args.view.now).edges in
    let among = length contents.accepted in
    let first = edge_count_of contents (pairs_from contents.pairs n) in
    let second = edge_count_of contents (pairs_to contents.pairs n) in
    let out = from c.store-store.result.now contents n c.out_pairs.result c.out_pairs.ensures c.store-store.ensures in
    let made : StepsWithin c.args.steps.now c.any_pair_present.new.steps (first * s) among = subst (λ (ps : List ℕ). StepsWithin c.args.steps.now c.any_pair_present.new.steps (edge_count_of contents ps * s) among) out (c.any_pair_present.ensures.cost h) in
    StepsWithin-times c.args.steps.now c.any_pair_present.new.steps first (first + second) s among (omega arith) made

pub returns-else-any_pair_present-clause-cost : goal.returns-else-any_pair_present-clause-cost
returns-else-any_pair_present-clause-cost g c = λ h.
    let contents = g.V.View.contents c.args.view.now in
    let n = c.args.n.0 in
    let s = (g.V.View.searches c.args.view.now).edges in
    let among = length contents.accepted in
    let first = edge_count_of contents (pairs_from contents.pairs n) in
    let second = edge_count_of contents (pairs_to contents.pairs n) in
    let between = c.any_pair_present.new.steps in
    let after = c.any_pair_present-else-any_pair_present.new.steps in
    let out = from c.store-store.result.now contents n c.out_pairs.result c.out_pairs.ensures c.store-store.ensures in
    let into = to c.store-store.result.now contents n c.in_pairs.result c.in_pairs.ensures c.store-store.ensures in
    let made : StepsWithin c.args.steps.now between (first * s) among = subst (λ (ps : List ℕ). StepsWithin c.args.steps.now between (edge_count_of contents ps * s) among) out (c.any_pair_present.ensures.cost h) in
    let rest : StepsWithin between after (second * s) among = subst (λ (ps : List ℕ). StepsWithin between after (edge_count_of contents ps * s) among) into (c.any_pair_present-else-any_pair_present.ensures.cost h) in
    StepsWithin-both c.args.steps.now between after first second s among made rest
