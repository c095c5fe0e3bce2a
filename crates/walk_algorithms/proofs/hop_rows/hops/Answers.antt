use Rattle.std.proofs.Common.{◌<◌, ◌∙◌, ap, length, map, subst, sym}
use Rattle.std.specs.List.{All}
use Rattle.std.proofs.lemmas.Result.{IfOk-weaker}
use Rattle.graph_model.specs.Answer.{AreTheFacts}
use Rattle.graph_model.specs.declared.queries.Ask.TheVariants.{Hops}
use Rattle.graph_store.specs.Contents.{Contents, name_at}
use Rattle.walk_laws.specs.Numbers.{NamesRise}
use Rattle.walk_laws.proofs.HopFacts.{distances_moved, hop_facts}
use Rattle.walk_algorithms.specs.declared.hop_rows.Hop.{Hop}
use Rattle.walk_algorithms.specs.Visits.{IsNamed, hop_of, visit_of}
use Rattle.walk_algorithms.specs.WalkRows.{hop_row_of}
use Rattle.walk_algorithms.proofs.Visits.{hop_rows, hops_known}
use Rattle.walk_algorithms.proofs.hop_rows.hops.Goals as goal

pub returns-clause-rows : goal.returns-clause-rows
returns-clause-rows g c =
    let s = g.V.View.contents c.args.view.now in
    let w = g.V.View.world c.args.view.now in
    let start = c.args.start.0 in
    let named = c.in_ok-named.named.items in
    let visits = c.in_ok-visited.visited.visits in
    let sorted = map visit_of named in
    let rise = subst (λ (v : Contents). NamesRise v.nodes sorted) c.store.ensures c.in_ok-named.ensures.rise in
    let moved = distances_moved w s.nodes c.args.direction start visits sorted c.in_ok-named.ensures.visits c.in_ok-visited.ensures.distances in
    let facts = hop_facts w s.nodes c.args.direction start sorted moved rise in
    IfOk-weaker c.rows_of.result _ _
    (λ rows e.
    subst (AreTheFacts w (Hops (name_at s.nodes start) c.args.direction)) (sym (ap (map (hop_row_of s)) (e ∙ ap (map hop_of) c.as_slice.ensures.value) ∙ hop_rows s named)) facts) c.rows_of.ensures

pub returns-clause-known : goal.returns-clause-known
returns-clause-known g c =
    let s = g.V.View.contents c.args.view.now in
    let named = c.in_ok-named.named.items in
    let names = subst (λ v. All (IsNamed v) named) c.store.ensures c.in_ok-named.ensures.names in
    IfOk-weaker c.rows_of.result _ _
    (λ rows e.
    subst (All (λ (h : Hop). h.node.0 < length s.nodes)) (sym (e ∙ ap (map hop_of) c.as_slice.ensures.value)) (hops_known s named names)) c.rows_of.ensures
