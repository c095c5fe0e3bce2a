use Rattle.std.proofs.Common.{◌<◌, ◌∙◌, ap, length, map, subst, sym}
use Rattle.std.specs.List.{All}
use Rattle.std.proofs.lemmas.Result.{IfOk-weaker}
use Rattle.graph_model.specs.Answer.{AreTheFacts}
use Rattle.graph_model.specs.declared.queries.Ask.TheVariants.{InComponent}
use Rattle.graph_store.specs.Contents.{name_at}
use Rattle.walk_laws.specs.Components.{others}
use Rattle.walk_laws.proofs.Components.{in_facts, no_in}
use Rattle.present_links.specs.NodeNames.{node_row_of}
use Rattle.walk_algorithms.proofs.Visits.{node_rows, others_known}
use Rattle.walk_algorithms.proofs.Walked.{shown_numbers}
use Rattle.walk_algorithms.proofs.components.in_component.Goals as goal

pub returns-clause-rows : goal.returns-clause-rows
returns-clause-rows g c =
    let s = g.V.View.contents c.args.view.now in
    let w = g.V.View.world c.args.view.now in
    let start = c.args.start.0 in
    IfOk-weaker c.component.result _ _
    (λ nodes r.
    subst (AreTheFacts w (InComponent (name_at s.nodes start))) (sym (ap (map (node_row_of s)) r.3 ∙ node_rows s (others start r.0)))
    (in_facts w s.nodes (shown_numbers s w (g.met.V.View.shown c.args.view.now)) start c.requires.start r.0 r.1 r.2)) c.component.ensures

pub returns-clause-known : goal.returns-clause-known
returns-clause-known g c =
    let s = g.V.View.contents c.args.view.now in
    let start = c.args.start.0 in
    IfOk-weaker c.component.result _ _ (λ nodes r. subst (All (λ n. n < length s.nodes)) (sym r.3) (others_known (length s.nodes) start r.0 r.1.different)) c.component.ensures

pub returns-then-not-is_present-clause-rows : goal.returns-then-not-is_present-clause-rows
returns-then-not-is_present-clause-rows g c =
    let s = g.V.View.contents c.args.view.now in
    let w = g.V.View.world c.args.view.now in
    let name = name_at s.nodes c.args.start.0 in
    subst (λ nodes. AreTheFacts w (InComponent name) (map (node_row_of s) nodes)) (sym (c.from_vec.ensures ∙ c.new.ensures.items)) (no_in w name (sym c.is_present.ensures ∙ c.if-not-is_present.true))
