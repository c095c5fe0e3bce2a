use Rattle.std.proofs.Common.{◌≡◌, ◌<◌, ◌≤◌, ◌++◌, ◌∙◌, ℕ, ap, arith, length, subst}
use Rattle.std.specs.List.{filter}
use Rattle.std.specs.Prelude.{slice_get, Some}
use Rattle.std.proofs.lemmas.List.{take_all}
use Rattle.world_laws.proofs.ListItems.{each_at}
use Rattle.view_trait.specs.Coverage.{node_count_on, nodes_on}
use Rattle.view_trait.specs.Numbered.{is_listed}
use Rattle.view_trait.proofs.Covered.{length-nodes_on}
use Rattle.present_links.specs.Links.{has_own, is_end, is_present_number}
use Rattle.present_links.proofs.Present.{numbers_settled, numbers_within, own_more, present_listed}
use Rattle.present_links.proofs.Spent.{spent_more}
use Rattle.present_links.proofs.node_rows.present_numbers.Given.{Over}
use Rattle.present_links.proofs.node_rows.present_numbers.Goals.{After-dedup}
use Rattle.present_links.proofs.node_rows.present_numbers.Goals as goal

pub loop-i-preserved : goal.loop-i-preserved
loop-i-preserved g c =
    let s = g.V.View.contents c.args.view.now in
    let w = g.V.View.world c.args.view.now in
    let i = c.loop-i.i in
    let count : c.node_count_on-i-end.result ≡ node_count_on s c.args.roster = c.node_count_on-i-end.ensures ∙ ap (λ v. node_count_on v c.args.roster) c.store-store.ensures in
    let below : i < length (nodes_on s c.args.roster) = (let lt = c.loop-i-test.true in let long = length-nodes_on s c.args.roster in omega (arith, lt, count, long)) in
    let here : slice_get (nodes_on s c.args.roster) i ≡ Some c.node.result.0 = subst (λ v. slice_get (nodes_on v c.args.roster) i ≡ Some c.node.result.0) c.store-store.ensures c.node.ensures in
    record {
      numbers = own_more (has_own s w) (nodes_on s c.args.roster) i c.node.result.0 below here c.in_ok-numbers.numbers.items c.loop-i.numbers.items c.push_own.new.numbers.items c.loop-i.invariant.numbers c.in_ok-push_own.ensures.numbers;
      cost = spent_more c.args.steps.now c.loop-i.steps c.push_own.new.steps i (g.V.View.searches c.args.view.now).nodes (length s.accepted) c.loop-i.invariant.cost c.push_own.ensures.cost;
    }

-- what is left is the present nodes
present : (g : Over) (c : After-dedup g) → (n : ℕ) → is_listed c.dedup.new.self.items n ≡ is_present_number (g.V.View.contents c.args.view.now) (g.V.View.world c.args.view.now) n
present g c n =
    let s = g.V.View.contents c.args.view.now in
    let w = g.V.View.world c.args.view.now in
    let r = c.args.roster in
    let count : c.node_count_on-i-end.result ≡ node_count_on s r = c.node_count_on-i-end.ensures ∙ ap (λ v. node_count_on v r) c.store-store.ensures in
    let all : length (nodes_on s r) ≤ c.loop-i.i = (let le = c.loop-i-test.false in let long = length-nodes_on s r in omega (arith, le, count, long)) in
    let found : c.loop-i.numbers.items ≡ c.in_ok-numbers.numbers.items ++ filter (has_own s w) (nodes_on s r) = c.loop-i.invariant.numbers ∙ ap (λ ns. c.in_ok-numbers.numbers.items ++ filter (has_own s w) ns) (take_all c.loop-i.i (nodes_on s r) all) in
    (numbers_settled c.loop-i.numbers.items c.sort_unstable.new.self.items c.dedup.new.self.items c.sort_unstable.ensures.permutation c.sort_unstable.ensures.sorted c.dedup.ensures.filtered).1 n
    ∙ (ap (λ ns. is_listed ns n) found
    ∙ present_listed s w (g.met.V.View.shown c.args.view.now) r c.requires.covers c.in_ok-numbers.numbers.items n (c.in_ok-numbers.ensures n ∙ ap (λ links. is_end links n) c.requires.links))

pub returns-clause-rise : goal.returns-clause-rise
returns-clause-rise g c = (numbers_settled c.loop-i.numbers.items c.sort_unstable.new.self.items c.dedup.new.self.items c.sort_unstable.ensures.permutation c.sort_unstable.ensures.sorted c.dedup.ensures.filtered).0

pub returns-clause-known : goal.returns-clause-known
returns-clause-known g c = λ k d lt.
    let s = g.V.View.contents c.args.view.now in
    let w = g.V.View.world c.args.view.now in
    each_at (λ n. n < length s.nodes) c.dedup.new.self.items k d
    (numbers_within s w (g.met.V.View.shown c.args.view.now) c.dedup.new.self.items (returns-clause-rise g c) (present g (goal.at.returns-clause-known g c).After-dedup)) lt

pub returns-clause-present : goal.returns-clause-present
returns-clause-present g c = present g (goal.at.returns-clause-present g c).After-dedup
