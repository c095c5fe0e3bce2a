use Rattle.std.proofs.Common.{◌≡◌, ◌∙◌, ◌<◌, [], length, sym, ap, arith}
use Rattle.std.specs.Prelude.{slice_set}
use Rattle.std.proofs.lemmas.List.{get_or-map, map-set}
use Rattle.std.proofs.lemmas.Result.{on_ok_weaker}
use Rattle.time_history.specs.History.{UpdateList}
use Rattle.time_history.specs.Updates.{placed}
use Rattle.graph_store.specs.Histories.{updates_in}
use Rattle.graph_store.specs.Telling.{updates_of_number}
use Rattle.graph_store.proofs.filing.file_update.Goals as goal

pub returns-clause-ok : goal.returns-clause-ok
returns-clause-ok g c =
    let items = c.args.histories.now.items in
    let within : c.args.number < length items = omega (arith, c.args.histories.now.ok.0) in
    let here : updates_of_number (updates_in items) c.args.number ≡ c.index_mut-history.result.now.updates =
    get_or-map (λ (h : UpdateList). h.updates) items c.args.number c.index_mut-history.result.now [] within ∙ ap (λ (h : UpdateList). h.updates) (sym c.index_mut-history.ensures.value) in
    on_ok_weaker c.put.result
    (λ e. map-set (λ (h : UpdateList). h.updates) items c.args.number c.put.new.self
    ∙ ap (slice_set (updates_in items) c.args.number) (e ∙ ap (placed c.args.update) (sym here)))
    c.put.ensures.ok
