use Rattle.std.proofs.Common.{sym, subst}
use Rattle.time_history.specs.declared.updates.Update.{Update}
use Rattle.graph_store.specs.Histories.{updates_in}
use Rattle.graph_store.specs.Telling.{updates_of_number}
use Rattle.graph_store.specs.WithUpdate.{ArrivesNext}
use Rattle.graph_store.proofs.taking.file_numbered.Goals as goal

pub file_node-requires-clause-next : goal.file_node-requires-clause-next
file_node-requires-clause-next g c =
    λ i lt. subst (λ (u : Update). ArrivesNext u (updates_of_number (updates_in c.args.histories.now.items) i)) (sym c.update.ensures) (c.requires.next c.in_ok-values.values i lt)
