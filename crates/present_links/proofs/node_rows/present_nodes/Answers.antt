use Rattle.std.proofs.Common.{◌≡◌, ◌<◌, ◌∙◌, rules, ap, length, map, subst, sym}
use Rattle.std.specs.List.{All, IsDistinct, list_any}
use Rattle.std.specs.Ordering.{is_lt}
use Rattle.std.proofs.lemmas.Fn.{always_returns_same}
use Rattle.std.proofs.lemmas.List.MinMax.{ranks_by}
use Rattle.std.proofs.lemmas.List.Sorted.{All-permutation}
use Rattle.std.proofs.lemmas.Result.{IfOk-weaker}
use Rattle.graph_model.specs.Names.{name_cmp, name_total, same_name}
use Rattle.world_laws.proofs.ListItems.{each_at}
use Rattle.graph_store.specs.Contents.{name_at}
use Rattle.present_links.specs.Links.{IsNamed}
use Rattle.present_links.proofs.Present.{named_names, named_within, names_once, names_present}
use Rattle.present_links.proofs.Sorted.{sorted_nodes}
use Rattle.present_links.proofs.node_rows.present_nodes.Given.{Over}
use Rattle.present_links.proofs.node_rows.present_nodes.Goals.{After-sort_unstable_by}
use Rattle.present_links.proofs.node_rows.present_nodes.Goals as goal

-- the sorted nodes have their names
still_named : (g : Over) (c : After-sort_unstable_by g) → All (IsNamed (g.V.View.contents c.args.view.now)) c.sort_unstable_by.new.self.items
still_named g c =
    let s = g.V.View.contents c.args.view.now in
    All-permutation (IsNamed s) c.in_ok-named.named.items c.sort_unstable_by.new.self.items c.sort_unstable_by.ensures.permutation
    (subst (λ v. All (IsNamed v) c.in_ok-named.named.items) c.store.ensures c.in_ok-named.ensures.names)

pub returns-clause-names : goal.returns-clause-names
returns-clause-names g c =
    let s = g.V.View.contents c.args.view.now in
    let w = g.V.View.world c.args.view.now in
    let shown = g.met.V.View.shown c.args.view.now in
    let numbers = c.in_ok-numbers.numbers.items in
    let xs = c.in_ok-named.named.items in
    let ys = c.sort_unstable_by.new.self.items in
    let named : All (IsNamed s) xs = subst (λ v. All (IsNamed v) xs) c.store.ensures c.in_ok-named.ensures.names in
    let names : map (name_at s.nodes) numbers ≡ map (λ x. x.name.now) xs = ap (map (name_at s.nodes)) (sym (c.in_ok-named.ensures.numbers ∙ c.as_slice.ensures.value)) ∙ named_names s xs named in
    let sorted = sorted_nodes (λ x. x.name.now) w xs ys
    (subst (IsDistinct same_name) names (names_once s w shown numbers c.in_ok-numbers.ensures.rise c.in_ok-numbers.ensures.present))
    (λ b. ap (λ l. list_any (same_name b) l) (sym names) ∙ names_present s w shown numbers c.in_ok-numbers.ensures.rise c.in_ok-numbers.ensures.present b) c.sort_unstable_by.ensures.permutation
    (c.sort_unstable_by.ensures.sorted (λ x y. is_lt (name_cmp x.name.now y.name.now)) (ranks_by name_total (λ x. x.name.now)) (always_returns_same _ (λ a r. is_lt r ≡ is_lt (name_cmp a.0.now.name.now a.1.0.now.name.now)) _ (λ a r q k. search rules))) in
    IfOk-weaker c.rows_of.result _ _
    (λ rows is.
    ap (map (name_at s.nodes)) (is ∙ ap (map (λ x. x.node)) c.as_slice-2.ensures.value)
    ∙ (named_names s ys (still_named g (goal.at.returns-clause-names g c).After-sort_unstable_by) ∙ sorted)) c.rows_of.ensures

pub returns-clause-known : goal.returns-clause-known
returns-clause-known g c =
    let s = g.V.View.contents c.args.view.now in
    let ys = c.sort_unstable_by.new.self.items in
    IfOk-weaker c.rows_of.result _ _
    (λ rows is.
    subst (All (λ n. n < length s.nodes)) (sym (is ∙ ap (map (λ x. x.node)) c.as_slice-2.ensures.value))
    (λ k d lt. each_at (λ n. n < length s.nodes) (map (λ x. x.node) ys) k d (named_within s ys (still_named g (goal.at.returns-clause-known g c).After-sort_unstable_by)) lt)) c.rows_of.ensures
