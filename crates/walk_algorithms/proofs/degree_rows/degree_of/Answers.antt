use Rattle.std.proofs.Common.{◌≤◌, arith, length, subst}
use Rattle.graph_store.specs.Contents.{Contents}
use Rattle.present_links.specs.Links.{rising_links}
use Rattle.present_links.proofs.Views.{view_links_rising}
use Rattle.walk_algorithms.proofs.Rows.{few_both, row_by_ways}
use Rattle.walk_algorithms.proofs.degree_rows.degree_of.Goals as goal

pub overflow_add-result : goal.overflow_add-result
overflow_add-result g c =
    let s = g.V.View.contents c.args.view.now in
    let w = g.V.View.world c.args.view.now in
    let r = c.requires in
    let both = few_both w s.nodes (rising_links s w) (view_links_rising s w (g.met.V.View.shown c.args.view.now)) c.args.node.0 r.within c.args.ways r.ways in
    let few : length s.nodes ≤ 1048576 = subst (λ (v : Contents). length v.nodes ≤ 1048576) c.store.ensures (let len = c.nodes-few.ensures.len in let few = c.nodes-few.ensures.few in omega arith) in
    omega (arith, both, few)

pub returns-clause-row : goal.returns-clause-row
returns-clause-row g c =
    let s = g.V.View.contents c.args.view.now in
    let w = g.V.View.world c.args.view.now in
    let r = c.requires in
    row_by_ways w s.nodes (rising_links s w) (view_links_rising s w (g.met.V.View.shown c.args.view.now)) c.args.node.0 r.within c.args.ways r.ways
