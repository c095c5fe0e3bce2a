use Rattle.std.proofs.Common.{◌<◌, length, map, subst, sym}
use Rattle.std.specs.List.{All}
use Rattle.std.proofs.lemmas.List.Elements.{recursion_from_All}
use Rattle.std.proofs.lemmas.Result.{IfOk-weaker}
use Rattle.graph_model.specs.declared.queries.Ask.TheVariants.{Core as CoreOf}
use Rattle.graph_model.specs.Answer.{IsAnswer}
use Rattle.graph_model.specs.Core.{IsCoreNumber}
use Rattle.core_algorithm.specs.declared.core_rows.Core.{Core}
use Rattle.present_links.specs.NodeNames.{node_row_of}
use Rattle.core_algorithm.specs.Cores.{core_name}
use Rattle.core_algorithm.proofs.CoreRows.{core_answer, kept_known}
use Rattle.core_algorithm.proofs.core_rows.k_core.Goals as goal

pub returns-clause-answer : goal.returns-clause-answer
returns-clause-answer g c =
    let s = g.V.View.contents c.args.view.now in
    let w = g.V.View.world c.args.view.now in
    let cores = c.in_ok-cores.cores in
    IfOk-weaker c.nodes_from.result _ _
    (λ rows is.
    subst (λ ns. IsAnswer w (CoreOf c.args.k) (map (node_row_of s) ns)) (sym is)
    (core_answer s w cores c.in_ok-cores.ensures.nodes (recursion_from_All (λ (core : Core). IsCoreNumber w (core_name s core) core.number) cores c.in_ok-cores.ensures.numbers) c.args.k)) c.nodes_from.ensures

pub returns-clause-known : goal.returns-clause-known
returns-clause-known g c =
    let s = g.V.View.contents c.args.view.now in
    IfOk-weaker c.nodes_from.result _ _ (λ rows is. subst (All (λ n. n < length s.nodes)) (sym is) (kept_known (length s.nodes) c.args.k c.in_ok-cores.cores c.in_ok-cores.ensures.known)) c.nodes_from.ensures
