use Rattle.std.proofs.Common.{◌≡◌, ◌<◌, ◌∙◌, ℕ, List, ap, arith, length, map, subst, sym}
use Rattle.std.specs.Prelude.{◌^◌}
use Rattle.std.specs.List.{All, AllByRecursion}
use Rattle.std.proofs.lemmas.List.Elements.{All-from_recursion}
use Rattle.std.proofs.lemmas.Result.{IfOk-weaker}
use Rattle.std.proofs.lemmas.Simd.{map-map}
use Rattle.graph_model.specs.declared.queries.Direction.TheVariants.{Both}
use Rattle.graph_model.specs.Core.{IsCoreNumber}
use Rattle.graph_model.specs.Presence.{nodes}
use Rattle.graph_store.specs.Contents.{name_at}
use Rattle.present_links.specs.Adjacent.{AreAdjacent}
use Rattle.core_algorithm.specs.declared.core_rows.Core.{Core}
use Rattle.core_algorithm.specs.Cores.{IsNumberIn, core_name}
use Rattle.core_algorithm.proofs.CoreRows.{cores_named, known_rows, numbers_answer, rows_are_graph, two_ok}
use Rattle.core_algorithm.proofs.core_rows.core_numbers.Given.{Over}
use Rattle.core_algorithm.proofs.core_rows.core_numbers.Goals.{After-cores_of}
use Rattle.core_algorithm.proofs.core_rows.core_numbers.Goals as goal

pub peeled-requires : goal.peeled-requires
peeled-requires g c =
    let s = g.V.View.contents c.args.view.now in
    let w = g.V.View.world c.args.view.now in
    let few : length s.nodes < 2 ^ 32 = (let few = c.nodes-few.ensures.few in let long = c.nodes-few.ensures.len ∙ ap (λ v. length v.nodes) c.store.ensures in omega (arith, few, long)) in
    record { graph = rows_are_graph s w (g.met.V.View.shown c.args.view.now) c.in_ok-adjacent.adjacent (subst (λ links. AreAdjacent links Both c.in_ok-adjacent.adjacent) c.in_ok-links.ensures.links c.in_ok-adjacent.ensures) few }

-- the names of the nodes are those of the present nodes
named : (g : Over) (c : After-cores_of g) (cores : List Core) → map (λ (core : Core). core.node.0) cores ≡ c.in_ok-nodes.nodes → map (core_name (g.V.View.contents c.args.view.now)) cores ≡ nodes (g.V.View.world c.args.view.now)
named g c cores is =
    let s = g.V.View.contents c.args.view.now in
    sym (map-map (name_at s.nodes) (λ (core : Core). core.node.0) cores) ∙ (ap (map (name_at s.nodes)) is ∙ c.in_ok-nodes.ensures.names)

-- and their numbers the core numbers
numbered : (g : Over) (c : After-cores_of g) (cores : List Core) → map (λ (core : Core). core.node.0) cores ≡ c.in_ok-nodes.nodes → All (λ (core : Core). IsNumberIn c.in_ok-adjacent.adjacent c.as_slice.result.now core.node.0 core.number) cores
    → AllByRecursion (λ (core : Core). IsCoreNumber (g.V.View.world c.args.view.now) (core_name (g.V.View.contents c.args.view.now) core) core.number) cores
numbered g c cores is are =
    let s = g.V.View.contents c.args.view.now in
    let w = g.V.View.world c.args.view.now in
    let adjacent = c.in_ok-adjacent.adjacent in
    cores_named s w (g.met.V.View.shown c.args.view.now) adjacent (subst (λ links. AreAdjacent links Both adjacent) c.in_ok-links.ensures.links c.in_ok-adjacent.ensures) c.in_ok-numbers.numbers.items c.in_ok-numbers.ensures.numbers
    c.in_ok-nodes.nodes c.in_ok-nodes.ensures.names c.in_ok-nodes.ensures.known cores is
    (subst (λ (ns : List ℕ). All (λ (core : Core). IsNumberIn adjacent ns core.node.0 core.number) cores) c.as_slice.ensures.value are)

pub returns-clause-answer : goal.returns-clause-answer
returns-clause-answer g c =
    let here = (goal.at.returns-clause-answer g c).After-cores_of in
    let s = g.V.View.contents c.args.view.now in
    let w = g.V.View.world c.args.view.now in
    two_ok _ _ _ c.cores_of.result (λ cores is are. numbers_answer s w cores (named g here cores is) (numbered g here cores is are)) c.cores_of.ensures.nodes c.cores_of.ensures.numbers

pub returns-clause-nodes : goal.returns-clause-nodes
returns-clause-nodes g c = IfOk-weaker c.cores_of.result _ _ (λ cores is. named g (goal.at.returns-clause-nodes g c).After-cores_of cores is) c.cores_of.ensures.nodes

pub returns-clause-numbers : goal.returns-clause-numbers
returns-clause-numbers g c =
    let s = g.V.View.contents c.args.view.now in
    let w = g.V.View.world c.args.view.now in
    two_ok _ _ _ c.cores_of.result
    (λ cores is are. All-from_recursion (λ (core : Core). IsCoreNumber w (core_name s core) core.number) cores (numbered g (goal.at.returns-clause-numbers g c).After-cores_of cores is are)) c.cores_of.ensures.nodes c.cores_of.ensures.numbers

pub returns-clause-known : goal.returns-clause-known
returns-clause-known g c =
    let s = g.V.View.contents c.args.view.now in
    IfOk-weaker c.cores_of.result _ _ (λ cores is. known_rows (length s.nodes) cores (subst (All (λ n. n < length s.nodes)) (sym is) c.in_ok-nodes.ensures.known)) c.cores_of.ensures.nodes
