use Rattle.std.proofs.Common.{◌≡◌, ◌∙◌, ◌||◌, [], ◌∷◌, ◌++◌, set, true, sym, ap, subst}
use Rattle.graph_model.specs.declared.events.Entity.TheVariants.{Node, Edge}
use Rattle.graph_model.specs.Names.{same_name}
use Rattle.graph_model.specs.Entity.{involves}
use Rattle.graph_store.specs.Contents.{name_at}
use Rattle.graph_store.specs.EdgeParts.{parts_at}
use Rattle.view_lists.specs.Listing.{entity_named, IsNumbered}
use Rattle.view_lists.specs.Types.{AreMarked}
use Rattle.view_lists.proofs.NamedTypes.{Involved, or_twice, or_last, mark_one, mark_two}
use Rattle.view_lists.proofs.types.mark_named.Goals as goal

pub returns-in-Node : goal.returns-in-Node
returns-in-Node c = λ es h.
    let s = c.args.store.now in
    let numbered = subst (IsNumbered s) c.in-Node.is c.requires.numbered in
    let entity = entity_named c.args.one.subject in
    let is : entity ≡ Node (name_at s.nodes c.in-Node.node.0) = ap entity_named c.in-Node.is ∙ ap Node (sym numbered.1) in
    let involved : Involved s entity c.in-Node.node.0 c.in-Node.node.0 = λ n. ap (involves (name_at s.nodes n)) is ∙ or_twice (same_name (name_at s.nodes n) (name_at s.nodes c.in-Node.node.0)) in
    subst (λ fs. AreMarked s (es ++ entity ∷ []) fs) (sym c.mark.ensures) (mark_one s es entity c.args.flags.now.items c.in-Node.node.0 c.nodes-indexed.ensures.indexed numbered.0 involved h)

pub returns-in-Edge : goal.returns-in-Edge
returns-in-Edge c = λ es h.
    let s = c.args.store.now in
    let numbered = subst (IsNumbered s) c.in-Edge.is c.requires.numbered in
    let entity = entity_named c.args.one.subject in
    let parts = parts_at s.edges c.in-Edge.edge.0 in
    let ends = c.edge_parts.ensures in
    let a = c.edge_parts.result.0.0 in
    let b = c.edge_parts.result.1.0 in
    let is = ap entity_named c.in-Edge.is ∙ ap Edge (sym numbered.1) in
    let involved : Involved s entity a b = λ n.
    ap (involves (name_at s.nodes n)) is
    ∙ (or_last (same_name (name_at s.nodes n) (name_at s.nodes parts.src)) (same_name (name_at s.nodes n) (name_at s.nodes parts.dst))
    ∙ (λ i. same_name (name_at s.nodes n) (name_at s.nodes (sym ends.src i)) || same_name (name_at s.nodes n) (name_at s.nodes (sym ends.dst i)))) in
    subst (λ fs. AreMarked s (es ++ entity ∷ []) fs) (sym (c.mark-in-Edge-2.ensures ∙ ap (λ fs. set fs b true) c.mark-in-Edge.ensures))
    (mark_two s es entity c.args.flags.now.items a b c.nodes-indexed.ensures.indexed ends.src_within ends.dst_within involved h)
