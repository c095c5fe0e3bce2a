use Rattle.std.proofs.Common.{◌≡◌, ℕ, ℤ, ◌<◌, List, [], length, map, sym, ◌∙◌, ap, subst, rules, w64}
use Rattle.std.proofs.lemmas.Int.{to_z-of_z}
use Rattle.std.specs.List.{All}
use Rattle.std.specs.List.Sorted.{IsSortedBy}
use Rattle.std.specs.Ordering.{is_lt}
use Rattle.std.proofs.lemmas.Fn.{always_returns_same}
use Rattle.std.proofs.lemmas.List.Sorted.{ranks_by}
use Rattle.std.proofs.lemmas.Result.{IfOk-weaker}
use Rattle.graph_model.specs.declared.queries.Ask.TheVariants.{Arrival as ArrivalAsk}
use Rattle.graph_model.specs.Answer.{IsAnswer}
use Rattle.graph_model.specs.Names.{name_cmp, name_total}
use Rattle.view_trait.specs.Numbered.{nodes_numbered}
use Rattle.view_trait.proofs.Kept.{node_chosen}
use Rattle.temporal_reach.specs.declared.arrivals.Arrival.{Arrival}
use Rattle.temporal_reach.specs.declared.arrivals.NamedArrival.{NamedArrival}
use Rattle.temporal_reach.specs.Arrivals.{AreSeeds, NamesEdge, arrival_row}
use Rattle.temporal_reach.specs.Search.{IsSearch}
use Rattle.temporal_reach.proofs.ArrivalRows.{rows_answer, rows_name_edges, rows_within}
use Rattle.temporal_reach.proofs.Numbering.{numbered}
use Rattle.temporal_reach.proofs.arrivals.earliest_arrival.Goals as goal

pub named_arrivals-requires : goal.named_arrivals-requires
named_arrivals-requires g c =
    let contents = g.V.View.contents c.args.view.now in
    let shown = g.met.V.View.shown c.args.view.now in
    (c.in_ok-table.ensures (nodes_numbered contents c.args.seeds.now) (λ n below. sym (node_chosen contents c.args.seeds.now n shown.indexed below))).within

pub returns-clause-rows : goal.returns-clause-rows
returns-clause-rows g c =
    let contents = g.V.View.contents c.args.view.now in
    let world = g.V.View.world c.args.view.now in
    let shown = g.met.V.View.shown c.args.view.now in
    let xs = c.in_ok-named.named.items in
    let ys = c.sort_unstable_by.new.self.items in
    let searched : (names : List (List ℕ)) → AreSeeds contents c.args.seeds.now names → IsSearch contents world names c.args.start c.in_ok-table.table [] = (λ names are. subst (λ (z : ℤ). IsSearch contents world names z c.in_ok-table.table []) (to_z-of_z w64 c.args.start c.ranges.start) (c.in_ok-table.ensures names are)) in
    let sorted : IsSortedBy (λ (x y : NamedArrival). is_lt (name_cmp x.name.now y.name.now)) ys = c.sort_unstable_by.ensures.sorted (λ x y. is_lt (name_cmp x.name.now y.name.now)) (ranks_by name_total (λ x. x.name.now)) (always_returns_same _ (λ a r. is_lt r ≡ is_lt (name_cmp a.0.now.name.now a.1.0.now.name.now)) _ (λ a r q k. search rules)) in
    IfOk-weaker c.arrivals_of.result _ _
    (λ rows is names are.
    subst (λ (l : List Arrival). IsAnswer world (ArrivalAsk c.args.start names) (map (arrival_row contents) l)) (sym (is ∙ ap (map (λ (x : NamedArrival). x.arrival)) c.as_slice.ensures.value))
    (rows_answer contents world names c.args.start c.in_ok-table.table (numbered contents world shown) (searched names are) xs ys c.in_ok-named.ensures.once c.in_ok-named.ensures.nodes c.in_ok-named.ensures.names c.sort_unstable_by.ensures.permutation sorted)) c.arrivals_of.ensures

pub returns-clause-by : goal.returns-clause-by
returns-clause-by g c =
    let contents = g.V.View.contents c.args.view.now in
    let world = g.V.View.world c.args.view.now in
    let shown = g.met.V.View.shown c.args.view.now in
    let xs = c.in_ok-named.named.items in
    let ys = c.sort_unstable_by.new.self.items in
    let searched : (names : List (List ℕ)) → AreSeeds contents c.args.seeds.now names → IsSearch contents world names c.args.start c.in_ok-table.table [] = (λ names are. subst (λ (z : ℤ). IsSearch contents world names z c.in_ok-table.table []) (to_z-of_z w64 c.args.start c.ranges.start) (c.in_ok-table.ensures names are)) in
    IfOk-weaker c.arrivals_of.result _ _
    (λ rows is names are.
    subst (All (NamesEdge contents world names c.args.start)) (sym (is ∙ ap (map (λ (x : NamedArrival). x.arrival)) c.as_slice.ensures.value))
    (rows_name_edges contents world names c.args.start c.in_ok-table.table (numbered contents world shown) (searched names are) xs ys c.in_ok-named.ensures.once c.in_ok-named.ensures.nodes c.in_ok-named.ensures.names c.sort_unstable_by.ensures.permutation)) c.arrivals_of.ensures

pub returns-clause-known : goal.returns-clause-known
returns-clause-known g c =
    let contents = g.V.View.contents c.args.view.now in
    let world = g.V.View.world c.args.view.now in
    let xs = c.in_ok-named.named.items in
    let ys = c.sort_unstable_by.new.self.items in
    IfOk-weaker c.arrivals_of.result _ _
    (λ rows is.
    subst (All (λ (a : Arrival). a.node.0 < length contents.nodes)) (sym (is ∙ ap (map (λ (x : NamedArrival). x.arrival)) c.as_slice.ensures.value))
    (rows_within contents world c.in_ok-table.table xs ys c.in_ok-named.ensures.names c.sort_unstable_by.ensures.permutation)) c.arrivals_of.ensures
