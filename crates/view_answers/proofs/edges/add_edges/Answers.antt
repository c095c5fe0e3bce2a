use Rattle.std.proofs.Common.{◌∙◌, ap, length, map, sym}
use Rattle.std.proofs.lemmas.List.{length-map}
use Rattle.std.proofs.lemmas.Simd.{map-map}
use Rattle.graph_model.specs.Answer.{EdgeRow}
use Rattle.graph_model.specs.Presence.{edges}
use Rattle.view_answers.specs.Edges.{edge_told}
use Rattle.answer_parts.proofs.Written.{part_of}
use Rattle.view_answers.proofs.edges.add_edges.Goals as goal

pub returns-clause-rows : goal.returns-clause-rows
returns-clause-rows g c =
    let world = g.V.View.world c.args.view.now in
    let listed = c.as_slice.result.now in
    let sorted = c.in_ok-sorted.sorted.items in
    let same = ap (map (λ e. EdgeRow (edge_told e))) c.as_slice.ensures.value ∙ (sym (map-map EdgeRow edge_told sorted) ∙ ap (map EdgeRow) c.in_ok-sorted.ensures.names) in
    part_of c.add_listed.result world c.bounds.result (length listed) (map (λ e. EdgeRow (edge_told e)) listed) (map EdgeRow (edges world)) c.args.out.now c.add_listed.new.out c.bounds.ensures (sym (length-map listed (λ e. EdgeRow (edge_told e)))) same c.add_listed.ensures
