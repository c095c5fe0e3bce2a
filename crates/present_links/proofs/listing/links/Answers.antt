use Rattle.std.proofs.Common.{◌≡◌, ◌<◌, ◌≤◌, ◌∙◌, ap, arith, length, subst}
use Rattle.std.specs.Prelude.{slice_get, Some}
use Rattle.view_trait.specs.Coverage.{edge_count_on, edges_on}
use Rattle.view_trait.proofs.Covered.{length-edges_on}
use Rattle.present_links.specs.Links.{ends_in, rising_links}
use Rattle.present_links.proofs.Listed.{few_links, links_all, links_more}
use Rattle.present_links.proofs.Spent.{spent_more}
use Rattle.present_links.proofs.listing.links.Goals as goal

pub loop-i-preserved : goal.loop-i-preserved
loop-i-preserved g c =
    let s = g.V.View.contents c.args.view.now in
    let w = g.V.View.world c.args.view.now in
    let i = c.loop-i.i in
    let count : c.edge_count_on-i-end.result ≡ edge_count_on s c.args.roster = c.edge_count_on-i-end.ensures ∙ ap (λ v. edge_count_on v c.args.roster) c.store-store.ensures in
    let below : i < length (edges_on s c.args.roster) = (let lt = c.loop-i-test.true in let long = length-edges_on s c.args.roster in omega (arith, lt, count, long)) in
    let here : slice_get (edges_on s c.args.roster) i ≡ Some c.edge.result.0 = subst (λ v. slice_get (edges_on v c.args.roster) i ≡ Some c.edge.result.0) c.store-store.ensures c.edge.ensures in
    record {
      links = links_more s w (edges_on s c.args.roster) i c.edge.result.0 below here (ends_in c.loop-i.links.items) (ends_in c.push_shown.new.links.items) c.loop-i.invariant.links c.in_ok-push_shown.ensures.links;
      cost = λ m. spent_more c.args.steps.now c.loop-i.steps c.push_shown.new.steps i (g.V.View.searches c.args.view.now).edges (length s.accepted) (c.loop-i.invariant.cost m) (c.push_shown.ensures.cost m);
    }

pub returns-clause-links : goal.returns-clause-links
returns-clause-links g c =
    let s = g.V.View.contents c.args.view.now in
    let w = g.V.View.world c.args.view.now in
    let count : c.edge_count_on-i-end.result ≡ edge_count_on s c.args.roster = c.edge_count_on-i-end.ensures ∙ ap (λ v. edge_count_on v c.args.roster) c.store-store.ensures in
    let all : length (edges_on s c.args.roster) ≤ c.loop-i.i = (let le = c.loop-i-test.false in let long = length-edges_on s c.args.roster in omega (arith, le, count, long)) in
    c.from_vec.ensures ∙ links_all s w (g.met.V.View.shown c.args.view.now) c.args.roster c.requires.covers c.loop-i.i all (ends_in c.loop-i.links.items) c.loop-i.invariant.links

pub returns-clause-few : goal.returns-clause-few
returns-clause-few g c =
    let s = g.V.View.contents c.args.view.now in
    let w = g.V.View.world c.args.view.now in
    let count : c.edge_count_on-i-end.result ≡ edge_count_on s c.args.roster = c.edge_count_on-i-end.ensures ∙ ap (λ v. edge_count_on v c.args.roster) c.store-store.ensures in
    let all : length (edges_on s c.args.roster) ≤ c.loop-i.i = (let le = c.loop-i-test.false in let long = length-edges_on s c.args.roster in omega (arith, le, count, long)) in
    let is : c.from_vec.result ≡ rising_links s w = c.from_vec.ensures ∙ links_all s w (g.met.V.View.shown c.args.view.now) c.args.roster c.requires.covers c.loop-i.i all (ends_in c.loop-i.links.items) c.loop-i.invariant.links in
    let long = ap length is in
    let few = few_links s w in
    omega (arith, long, few)
