use Rattle.std.proofs.Common.{sym, subst}
use Rattle.time_history.specs.declared.updates.Update.{Update}
use Rattle.graph_store.specs.Histories.{updates_in}
use Rattle.graph_store.specs.Telling.{updates_of_number}
use Rattle.graph_store.specs.WithUpdate.{ArrivesNext}
use Rattle.graph_store.proofs.taking.file_numbered_edge.Goals as goal

pub file_edge-requires-clause-next : goal.file_edge-requires-clause-next
file_edge-requires-clause-next g c =
    λ i lt. subst (λ (u : Update). ArrivesNext u (updates_of_number (updates_in c.args.edge_histories.now.items) i)) (sym c.update-update.ensures) (c.requires.next c.in_ok-values.values i lt)
