use Rattle.std.proofs.Common.{◌≡◌, ◌∙◌, ap, length, map, rules, subst, sym, of_z, to_z, w64}
use Rattle.std.proofs.lemmas.Int.{to_z-of_z}
use Rattle.std.proofs.lemmas.List.{length-map}
use Rattle.graph_model.specs.Answer.{IsAnswer}
use Rattle.graph_model.specs.declared.queries.Ask.TheVariants.{Arrival as ArrivalAsk}
use Rattle.graph_store.specs.Contents.{Contents}
use Rattle.temporal_reach.specs.Arrivals.{AreSeeds, arrival_row}
use Rattle.answer_parts.proofs.Plainly.{answer_added}
use Rattle.node_answers.proofs.arrivals.add_arrivals.Goals as goal

pub returns : goal.returns
returns g c =
    let contents = g.V.View.contents c.args.view.now in
    let w = g.V.View.world c.args.view.now in
    let names = c.args.seeds.now in
    let rows = c.as_slice.result.now in
    let seeds : AreSeeds contents c.in_ok-seeds.seeds names = subst (λ (s : Contents). AreSeeds s c.in_ok-seeds.seeds names) c.store.ensures c.in_ok-seeds.ensures in
    let same : to_z w64 (of_z w64 c.args.start) ≡ c.args.start = to_z-of_z w64 c.args.start (search rules) in
    let answer : IsAnswer w (ArrivalAsk c.args.start names) (map (arrival_row contents) c.in_ok-rows.rows) = subst (λ t. IsAnswer w (ArrivalAsk t names) (map (arrival_row contents) c.in_ok-rows.rows)) same (c.in_ok-rows.ensures.rows names seeds) in
    answer_added c.add_rows.result w (ArrivalAsk c.args.start names) c.bounds.result (length rows) (map (arrival_row c.store-2.result.now) rows) (map (arrival_row contents) c.in_ok-rows.rows) c.args.out.now c.add_rows.new.out c.bounds.ensures
    (sym (length-map rows (arrival_row c.store-2.result.now))) (ap (λ (s : Contents). map (arrival_row s) rows) c.store-2.ensures ∙ ap (map (arrival_row contents)) c.as_slice.ensures) answer c.add_rows.ensures
