use Rattle.std.proofs.Common.{◌≡◌, ◌<◌, ◌≤◌, ◌∙◌, ℕ, List, ap, arith, length, subst}
use Rattle.std.specs.List.{filter}
use Rattle.std.specs.Prelude.{slice_get, Some}
use Rattle.std.proofs.lemmas.List.{take_all}
use Rattle.view_trait.specs.Coverage.{edge_count_on, edges_on}
use Rattle.view_trait.specs.Numbered.{is_listed}
use Rattle.view_trait.proofs.Covered.{length-edges_on}
use Rattle.present_links.specs.Links.{has_edge}
use Rattle.present_links.proofs.Present.{numbers_settled}
use Rattle.present_links.proofs.Spent.{spent_more}
use Rattle.view_answers.proofs.EdgeList.{listed_edge, present_more}
use Rattle.view_answers.proofs.edges.present_edges.Goals as goal

pub loop-i-preserved : goal.loop-i-preserved
loop-i-preserved g c =
    let s = g.V.View.contents c.args.view.now in
    let w = g.V.View.world c.args.view.now in
    let i = c.loop-i.i in
    let count : c.edge_count_on-i-end.result ≡ edge_count_on s c.args.roster = c.edge_count_on-i-end.ensures ∙ ap (λ v. edge_count_on v c.args.roster) c.store-store.ensures in
    let below : i < length (edges_on s c.args.roster) = (let lt = c.loop-i-test.true in let long = length-edges_on s c.args.roster in omega (arith, lt, count, long)) in
    let here : slice_get (edges_on s c.args.roster) i ≡ Some c.edge.result.0 = subst (λ v. slice_get (edges_on v c.args.roster) i ≡ Some c.edge.result.0) c.store-store.ensures c.edge.ensures in
    record {
      numbers = present_more (has_edge s w) (edges_on s c.args.roster) i c.edge.result.0 below here c.loop-i.numbers.items c.push_present.new.numbers.items c.loop-i.invariant.numbers c.in_ok-push_present.ensures.numbers;
      cost = λ m. spent_more c.args.steps.now c.loop-i.steps c.push_present.new.steps i (g.V.View.searches c.args.view.now).edges (length s.accepted) (c.loop-i.invariant.cost m) (c.push_present.ensures.cost m);
    }

pub returns-clause-rise : goal.returns-clause-rise
returns-clause-rise g c = (numbers_settled c.loop-i.numbers.items c.sort_unstable.new.self.items c.dedup.new.self.items c.sort_unstable.ensures.permutation c.sort_unstable.ensures.sorted c.dedup.ensures.filtered).0

pub returns-clause-present : goal.returns-clause-present
returns-clause-present g c = λ e.
    let s = g.V.View.contents c.args.view.now in
    let w = g.V.View.world c.args.view.now in
    let r = c.args.roster in
    let count : c.edge_count_on-i-end.result ≡ edge_count_on s r = c.edge_count_on-i-end.ensures ∙ ap (λ v. edge_count_on v r) c.store-store.ensures in
    let all : length (edges_on s r) ≤ c.loop-i.i = (let le = c.loop-i-test.false in let long = length-edges_on s r in omega (arith, le, count, long)) in
    let found : c.loop-i.numbers.items ≡ filter (has_edge s w) (edges_on s r) = c.loop-i.invariant.numbers ∙ ap (filter (has_edge s w)) (take_all c.loop-i.i (edges_on s r) all) in
    (numbers_settled c.loop-i.numbers.items c.sort_unstable.new.self.items c.dedup.new.self.items c.sort_unstable.ensures.permutation c.sort_unstable.ensures.sorted c.dedup.ensures.filtered).1 e
    ∙ (ap (λ (ns : List ℕ). is_listed ns e) found
    ∙ listed_edge s w r c.requires.covers e)
