use Rattle.std.proofs.Common.{[], ◌∷◌, ◌++◌, ◌≡◌, ◌∙◌, length, take, ap, subst, sym, arith, rules}
use Rattle.std.proofs.lemmas.List.Elements.{All-get_or}
use Rattle.graph_store.specs.Contents.{Contents}
use Rattle.view_lists.specs.Listing.{IsNumbered, IsShownEntity, entities_of, entity_named}
use Rattle.view_lists.specs.Types.{AreMarked}
use Rattle.view_lists.proofs.NamedTypes.{marked_none, marked_more, marked_all}
use Rattle.view_lists.proofs.types.named_nodes.Goals as goal

pub loop-one-init : goal.loop-one-init
loop-one-init g c =
    let count = c.nodes.ensures.len ∙ ap (λ (s : Contents). length s.nodes) c.store-store.ensures in
    marked_none (g.V.View.contents c.args.view.now) c.nodes.result c.in_ok-flags.flags.items (c.in_ok-flags.ensures.items_if_clones_equal (search rules)) count

pub mark_named-requires-clause-numbered : goal.mark_named-requires-clause-numbered
mark_named-requires-clause-numbered g c =
    let part = IsShownEntity (g.V.View.contents c.args.view.now) (g.V.View.world c.args.view.now) in
    let own = subst part (sym c.one-item.is) (All-get_or part c.args.shown.now c.loop-one.one-index c.one-item.result c.loop-one-test.true c.requires) in
    subst (λ s. IsNumbered s c.one-item.result.subject) (sym c.store-store.ensures) own.numbered

pub mark_named-requires-clause-len : goal.mark_named-requires-clause-len
mark_named-requires-clause-len g c = c.loop-one.invariant.len ∙ sym (ap (λ (s : Contents). length s.nodes) c.store-store.ensures)

pub loop-one-preserved : goal.loop-one-preserved
loop-one-preserved g c =
    let xs = c.args.shown.now in
    let i = c.loop-one.one-index in
    let es = entities_of (take i xs) in
    let before = subst (λ s. AreMarked s es c.loop-one.flags.items) (sym c.store-store.ensures) c.loop-one.invariant in
    let after = subst (λ s. AreMarked s (es ++ entity_named c.one-item.result.subject ∷ []) c.mark_named.new.flags.items) c.store-store.ensures (c.mark_named.ensures es before) in
    marked_more (g.V.View.contents c.args.view.now) xs i c.one-item.result c.mark_named.new.flags.items c.loop-one-test.true c.one-item.is after

pub returns : goal.returns
returns g c =
    let past = c.loop-one-test.false in
    let end = c.loop-one.auto.one-index-end in
    let all : c.loop-one.one-index ≡ length c.args.shown.now = omega (arith, past, end) in
    marked_all (g.V.View.contents c.args.view.now) c.args.shown.now c.loop-one.one-index c.loop-one.flags.items all c.loop-one.invariant
