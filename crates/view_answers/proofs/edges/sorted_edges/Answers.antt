use Rattle.std.proofs.Common.{◌≡◌, ◌<◌, ◌∙◌, ap, length, map, rules, subst, sym}
use Rattle.std.specs.List.{AllByRecursion}
use Rattle.std.specs.Ordering.{is_lt}
use Rattle.std.proofs.lemmas.Fn.{always_returns_same}
use Rattle.std.proofs.lemmas.List.MinMax.{ranks_by}
use Rattle.graph_model.specs.Entity.{edge_cmp}
use Rattle.graph_store.specs.Contents.{Contents}
use Rattle.view_trait.specs.Meaning.{edge_named}
use Rattle.world_laws.proofs.ListItems.{each_at}
use Rattle.world_laws.proofs.Order.{edge_total}
use Rattle.view_answers.specs.Edges.{edge_told}
use Rattle.view_answers.proofs.EdgeList.{edges_within, sorted_is}
use Rattle.view_answers.proofs.edges.sorted_edges.Goals as goal

pub with_names-requires : goal.with_names-requires
with_names-requires g c = λ k d lt.
    let s = g.V.View.contents c.args.view.now in
    let numbers = c.in_ok-numbers.numbers.items in
    let within = edges_within s (g.V.View.world c.args.view.now) (g.met.V.View.shown c.args.view.now) numbers c.in_ok-numbers.ensures.rise c.in_ok-numbers.ensures.present in
    let here : AllByRecursion (λ e. e < length c.store.result.now.edges) c.as_slice.result.now = subst (λ (v : Contents). AllByRecursion (λ e. e < length v.edges) c.as_slice.result.now) (sym c.store.ensures) (subst (AllByRecursion (λ e. e < length s.edges)) (sym c.as_slice.ensures.value) within) in
    each_at (λ e. e < length c.store.result.now.edges) c.as_slice.result.now k d here lt

pub returns-clause-names : goal.returns-clause-names
returns-clause-names g c =
    let s = g.V.View.contents c.args.view.now in
    let numbers = c.in_ok-numbers.numbers.items in
    let xs = c.in_ok-named.named.items in
    let named : map edge_told xs ≡ map (edge_named s) numbers = c.in_ok-named.ensures ∙ (ap (λ (v : Contents). map (edge_named v) c.as_slice.result.now) c.store.ensures ∙ ap (map (edge_named s)) c.as_slice.ensures.value) in
    sorted_is s (g.V.View.world c.args.view.now) (g.met.V.View.shown c.args.view.now) numbers c.in_ok-numbers.ensures.rise c.in_ok-numbers.ensures.present edge_told xs c.sort_unstable_by.new.self.items named c.sort_unstable_by.ensures.permutation
    (c.sort_unstable_by.ensures.sorted (λ x y. is_lt (edge_cmp (edge_told x) (edge_told y))) (ranks_by edge_total edge_told) (always_returns_same _ (λ a r. is_lt r ≡ is_lt (edge_cmp (edge_told a.0.now) (edge_told a.1.0.now))) _ (λ a r q k. search rules)))
