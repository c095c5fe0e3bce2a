use Rattle.std.proofs.Common.{◌∙◌, ap, map, subst, sym}
use Rattle.std.specs.List.{IsDistinct}
use Rattle.std.proofs.lemmas.Result.{IfOk-weaker}
use Rattle.std.proofs.lemmas.Simd.{map-map}
use Rattle.graph_model.specs.Answer.{degree_row}
use Rattle.graph_store.specs.Contents.{name_at}
use Rattle.graph_store.specs.Ends.{same_ends}
use Rattle.present_links.proofs.Views.{view_links_rising}
use Rattle.walk_algorithms.proofs.degree_rows.degrees.Goals as goal

pub link_ways-requires-clause-once : goal.link_ways-requires-clause-once
link_ways-requires-clause-once g c = subst (IsDistinct same_ends) (sym c.in_ok-links.ensures.links) (view_links_rising (g.V.View.contents c.args.view.now) (g.V.View.world c.args.view.now) (g.met.V.View.shown c.args.view.now)).once

pub returns-clause-rows : goal.returns-clause-rows
returns-clause-rows g c =
    let s = g.V.View.contents c.args.view.now in
    let w = g.V.View.world c.args.view.now in
    IfOk-weaker c.degrees_of.result _ _ (λ rows is. is ∙ (sym (map-map (degree_row w) (name_at s.nodes) c.in_ok-nodes.nodes) ∙ ap (map (degree_row w)) c.in_ok-nodes.ensures.names)) c.degrees_of.ensures.rows
