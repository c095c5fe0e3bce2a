use Rattle.std.proofs.Common.{◌≡◌, subst, rules}
use Rattle.std.specs.Ordering.{is_lt}
use Rattle.std.proofs.lemmas.Fn.{always_returns_same}
use Rattle.std.proofs.lemmas.List.MinMax.{ranks_by}
use Rattle.graph_model.specs.Names.{name_cmp, name_total}
use Rattle.graph_model.specs.World.{IsLawful}
use Rattle.graph_store.specs.Contents.{base_of}
use Rattle.view_lists.proofs.NamedTypes.{types_sorted}
use Rattle.view_lists.proofs.types.typed_in_order.Goals as goal

pub returns : goal.returns
returns g c =
    let contents = g.V.View.contents c.args.view.now in
    let world = g.V.View.world c.args.view.now in
    let lawful = subst (λ s. IsLawful (base_of s)) c.store-store.ensures c.events-lawful.ensures.lawful in
    let sorted = c.sort_unstable_by.ensures.sorted (λ x y. is_lt (name_cmp x.node.now y.node.now)) (ranks_by name_total (λ x. x.node.now)) (always_returns_same _ (λ a r. is_lt r ≡ is_lt (name_cmp a.0.now.node.now a.1.0.now.node.now)) _ (λ a r q k. search rules)) in
    types_sorted contents world (g.met.V.View.shown c.args.view.now) c.args.shown.now lawful c.requires c.in_ok-typed.typed.items c.sort_unstable_by.new.self.items c.in_ok-typed.ensures c.sort_unstable_by.ensures.permutation sorted
