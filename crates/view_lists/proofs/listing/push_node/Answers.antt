use Rattle.std.proofs.Common.{◌≡◌, ◌∙◌, ◌∷◌, ◌++◌, true, false, not, [], sym, ap, subst, arith, length, map, append-nil}
use Rattle.std.specs.Prelude.{is_some, nat_lt}
use Rattle.std.specs.List.{All, filter}
use Rattle.std.proofs.lemmas.Bool.{cond-true, cond-false, lt-ltb, ltb-true}
use Rattle.std.proofs.lemmas.Bool.Decides.{nat_tests}
use Rattle.std.proofs.lemmas.List.Elements.{All-push}
use Rattle.std.proofs.lemmas.Option.{get_or_from_slice_get}
use Rattle.graph_model.specs.declared.events.Entity.TheVariants.{Node}
use Rattle.graph_store.specs.Contents.{Contents, name_at}
use Rattle.view_trait.specs.Coverage.{nodes_among}
use Rattle.view_trait.specs.Meaning.{Shows, node_at}
use Rattle.view_trait.proofs.Costs.{StepsWithin-among}
use Rattle.view_trait.proofs.Found.{events_fit, node_tells, has_last}
use Rattle.view_lists.specs.declared.listing.Subject.TheVariants.{Node as OfNode}
use Rattle.view_lists.specs.Listing.{IsShownEntity, appears, entities_of}
use Rattle.view_lists.proofs.ShownOnes.{appears_last, shown_more, shown_none}
use Rattle.view_lists.proofs.listing.push_node.Given.{Over}
use Rattle.view_lists.proofs.listing.push_node.Goals.{After-last_kind}
use Rattle.view_lists.proofs.listing.push_node.Goals as goal

known : (g : Over) (c : After-last_kind g) → nat_lt c.args.node.0 (length (g.V.View.contents c.args.view.now).nodes) ≡ true
known g c =
    let count = c.nodes.ensures.len ∙ ap (λ (v : Contents). length v.nodes) c.store-store.ensures in
    let le = c.if-node-nodes.false in
    lt-ltb c.args.node.0 (length (g.V.View.contents c.args.view.now).nodes) (omega (arith, count, le))

-- it is the one that the store has
among : (g : Over) (c : After-last_kind g) → nodes_among (g.V.View.contents c.args.view.now) (c.args.node.0 ∷ []) ≡ node_at (g.V.View.contents c.args.view.now) c.args.node.0 ∷ []
among g c =
    let s = g.V.View.contents c.args.view.now in
    ap (map (node_at s)) (cond-true (nat_lt c.args.node.0 (length s.nodes)) (c.args.node.0 ∷ []) [] (known g c))

has_event : (g : Over) (c : After-last_kind g) → appears (g.V.View.world c.args.view.now) (node_at (g.V.View.contents c.args.view.now) c.args.node.0) ≡ is_some c.last_kind.result
has_event g c =
    let contents = g.V.View.contents c.args.view.now in
    let world = g.V.View.world c.args.view.now in
    let us = c.node_history.result.now.updates in
    let tells = node_tells c.store-store.result.now contents c.args.node.0 us c.store-store.ensures c.node_history.ensures.told c.node_history.ensures.fits in
    appears_last world (node_at contents c.args.node.0) c.last_kind.result (has_last contents world (node_at contents c.args.node.0) us c.node_span-span.result c.last_kind.result tells c.node_span-span.ensures.shows c.last_kind.ensures)

pub returns-then-node-nodes-clause-entities : goal.returns-then-node-nodes-clause-entities
returns-then-node-nodes-clause-entities g c =
    let s = g.V.View.contents c.args.view.now in
    let w = g.V.View.world c.args.view.now in
    let count = c.nodes.ensures.len ∙ ap (λ (v : Contents). length v.nodes) c.store-store.ensures in
    let unknown : nat_lt c.args.node.0 (length s.nodes) ≡ false = (let le = c.if-node-nodes.true in grind (arith, nat_tests, count, le)) in
    let none : nodes_among s (c.args.node.0 ∷ []) ≡ [] = ap (map (node_at s)) (cond-false (nat_lt c.args.node.0 (length s.nodes)) (c.args.node.0 ∷ []) [] unknown) in
    sym (ap (λ es. entities_of c.args.shown.now.items ++ filter (appears w) es) none ∙ append-nil (entities_of c.args.shown.now.items))

pub returns-then-is_none-clause-entities : goal.returns-then-is_none-clause-entities
returns-then-is_none-clause-entities g c =
    let no : is_some c.last_kind.result ≡ false = c.is_none.ensures ∙ ap not c.if-is_none.true in
    shown_none (g.V.View.world c.args.view.now) c.args.shown.now.items (node_at (g.V.View.contents c.args.view.now) c.args.node.0) (has_event g (goal.at.returns-then-is_none-clause-entities g c).After-last_kind ∙ no)
    ∙ ap (λ es. entities_of c.args.shown.now.items ++ filter (appears (g.V.View.world c.args.view.now)) es) (sym (among g (goal.at.returns-then-is_none-clause-entities g c).After-last_kind))

pub returns-clause-entities : goal.returns-clause-entities
returns-clause-entities g c =
    let s = g.V.View.contents c.args.view.now in
    let t = c.store-store.result.now in
    let name : name_at s.nodes c.args.node.0 ≡ c.node_name.result.now = sym (ap (λ (v : Contents). name_at v.nodes c.args.node.0) c.store-store.ensures) ∙ get_or_from_slice_get t.nodes c.args.node.0 c.node_name.result.now [] c.node_name.ensures in
    let some : is_some c.last_kind.result ≡ true = c.is_none.ensures ∙ ap not c.if-is_none.false in
    shown_more (g.V.View.world c.args.view.now) c.args.shown.now.items c.push.new.self.items (record { subject = OfNode c.args.node c.node_name.result; span = c.node_span-span.result }) (node_at s c.args.node.0) c.in_ok-push.ensures.items (ap Node (sym name)) (has_event g (goal.at.returns-clause-entities g c).After-last_kind ∙ some)
    ∙ ap (λ es. entities_of c.args.shown.now.items ++ filter (appears (g.V.View.world c.args.view.now)) es) (sym (among g (goal.at.returns-clause-entities g c).After-last_kind))

pub returns-clause-parts : goal.returns-clause-parts
returns-clause-parts g c =
    let s = g.V.View.contents c.args.view.now in
    let w = g.V.View.world c.args.view.now in
    let t = c.store-store.result.now in
    let name : name_at s.nodes c.args.node.0 ≡ c.node_name.result.now = sym (ap (λ (v : Contents). name_at v.nodes c.args.node.0) c.store-store.ensures) ∙ get_or_from_slice_get t.nodes c.args.node.0 c.node_name.result.now [] c.node_name.ensures in
    λ h. subst (All (IsShownEntity s w)) (sym c.in_ok-push.ensures.items) (All-push (IsShownEntity s w) c.args.shown.now.items (record { subject = OfNode c.args.node c.node_name.result; span = c.node_span-span.result }) h
    (record { numbered = (ltb-true c.args.node.0 (length s.nodes) (known g (goal.at.returns-clause-parts g c).After-last_kind), name); shows = subst (λ n. Shows s w (Node n) c.node_span-span.result) name c.node_span-span.ensures.shows }))

pub returns-then-is_none-clause-cost : goal.returns-then-is_none-clause-cost
returns-then-is_none-clause-cost g c = StepsWithin-among _ _ _ _ _ c.node_span-span.ensures.cost (events_fit (g.V.View.contents c.args.view.now) (node_at (g.V.View.contents c.args.view.now) c.args.node.0))

pub returns-in_err-push-clause-cost : goal.returns-in_err-push-clause-cost
returns-in_err-push-clause-cost g c = StepsWithin-among _ _ _ _ _ c.node_span-span.ensures.cost (events_fit (g.V.View.contents c.args.view.now) (node_at (g.V.View.contents c.args.view.now) c.args.node.0))

pub returns-clause-cost : goal.returns-clause-cost
returns-clause-cost g c = StepsWithin-among _ _ _ _ _ c.node_span-span.ensures.cost (events_fit (g.V.View.contents c.args.view.now) (node_at (g.V.View.contents c.args.view.now) c.args.node.0))
