use Rattle.std.proofs.Common.{◌≡◌, ◌∙◌, ◌∷◌, ◌++◌, true, false, not, [], sym, ap, subst, arith, length, map, append-nil}
use Rattle.std.specs.Prelude.{is_some, nat_lt}
use Rattle.std.specs.List.{All, filter}
use Rattle.std.proofs.lemmas.Bool.{cond-true, cond-false, lt-ltb, ltb-true}
use Rattle.std.proofs.lemmas.Bool.Decides.{nat_tests}
use Rattle.std.proofs.lemmas.List.Elements.{All-push}
use Rattle.std.proofs.lemmas.Option.{get_or_from_slice_get}
use Rattle.graph_model.specs.declared.events.Entity.TheVariants.{Edge}
use Rattle.graph_store.specs.Contents.{Contents, name_at}
use Rattle.view_trait.specs.Coverage.{edges_among}
use Rattle.view_trait.specs.Meaning.{Shows, edge_at, edge_named}
use Rattle.view_trait.proofs.Found.{edge_tells, has_last}
use Rattle.view_lists.specs.declared.listing.Subject.TheVariants.{Edge as OfEdge}
use Rattle.view_lists.specs.Listing.{IsShownEntity, appears, entities_of}
use Rattle.view_lists.proofs.ShownOnes.{appears_last, shown_more, shown_none}
use Rattle.view_lists.proofs.listing.push_edge.Given.{Over}
use Rattle.view_lists.proofs.listing.push_edge.Goals.{After-last_kind, After-layer_name}
use Rattle.view_lists.proofs.listing.push_edge.Goals as goal

known : (g : Over) (c : After-last_kind g) → nat_lt c.args.edge.0 (length (g.V.View.contents c.args.view.now).edges) ≡ true
known g c =
    let count = c.edges.ensures ∙ ap (λ (v : Contents). length v.edges) c.store-store.ensures in
    let le = c.if-edge-edges.false in
    lt-ltb c.args.edge.0 (length (g.V.View.contents c.args.view.now).edges) (omega (arith, count, le))

-- it is the one that the store has
among : (g : Over) (c : After-last_kind g) → edges_among (g.V.View.contents c.args.view.now) (c.args.edge.0 ∷ []) ≡ edge_at (g.V.View.contents c.args.view.now) c.args.edge.0 ∷ []
among g c =
    let s = g.V.View.contents c.args.view.now in
    ap (map (edge_at s)) (cond-true (nat_lt c.args.edge.0 (length s.edges)) (c.args.edge.0 ∷ []) [] (known g c))

has_event : (g : Over) (c : After-last_kind g) → appears (g.V.View.world c.args.view.now) (edge_at (g.V.View.contents c.args.view.now) c.args.edge.0) ≡ is_some c.last_kind.result
has_event g c =
    let contents = g.V.View.contents c.args.view.now in
    let world = g.V.View.world c.args.view.now in
    let us = c.edge_history.result.now.updates in
    let tells = edge_tells c.store-store.result.now contents c.args.edge.0 us c.store-store.ensures c.edge_history.ensures.told c.edge_history.ensures.fits in
    appears_last world (edge_at contents c.args.edge.0) c.last_kind.result (has_last contents world (edge_at contents c.args.edge.0) us c.edge_span-span.result c.last_kind.result tells c.edge_span-span.ensures.shows c.last_kind.ensures)

pub returns-then-edge-edges-clause-entities : goal.returns-then-edge-edges-clause-entities
returns-then-edge-edges-clause-entities g c =
    let s = g.V.View.contents c.args.view.now in
    let w = g.V.View.world c.args.view.now in
    let count = c.edges.ensures ∙ ap (λ (v : Contents). length v.edges) c.store-store.ensures in
    let unknown : nat_lt c.args.edge.0 (length s.edges) ≡ false = (let le = c.if-edge-edges.true in grind (arith, nat_tests, count, le)) in
    let none : edges_among s (c.args.edge.0 ∷ []) ≡ [] = ap (map (edge_at s)) (cond-false (nat_lt c.args.edge.0 (length s.edges)) (c.args.edge.0 ∷ []) [] unknown) in
    sym (ap (λ es. entities_of c.args.shown.now.items ++ filter (appears w) es) none ∙ append-nil (entities_of c.args.shown.now.items))

pub returns-then-is_none-clause-entities : goal.returns-then-is_none-clause-entities
returns-then-is_none-clause-entities g c =
    let no : is_some c.last_kind.result ≡ false = c.is_none.ensures ∙ ap not c.if-is_none.true in
    shown_none (g.V.View.world c.args.view.now) c.args.shown.now.items (edge_at (g.V.View.contents c.args.view.now) c.args.edge.0) (has_event g (goal.at.returns-then-is_none-clause-entities g c).After-last_kind ∙ no)
    ∙ ap (λ es. entities_of c.args.shown.now.items ++ filter (appears (g.V.View.world c.args.view.now)) es) (sym (among g (goal.at.returns-then-is_none-clause-entities g c).After-last_kind))

named : (g : Over) (c : After-layer_name g) → edge_named (g.V.View.contents c.args.view.now) c.args.edge.0 ≡ record { src = c.node_name.result.now; dst = c.node_name-2.result.now; layer = c.layer_name.result.now }
named g c =
    let t = c.store-store.result.now in
    let parts = c.edge_parts-layer.ensures in
    let src = ap (name_at t.nodes) (sym parts.src) ∙ get_or_from_slice_get t.nodes c.edge_parts-layer.result.0.0 c.node_name.result.now [] c.node_name.ensures in
    let dst = ap (name_at t.nodes) (sym parts.dst) ∙ get_or_from_slice_get t.nodes c.edge_parts-layer.result.1.0 c.node_name-2.result.now [] c.node_name-2.ensures in
    let layer = ap (name_at t.layers) (sym parts.layer) ∙ get_or_from_slice_get t.layers c.edge_parts-layer.result.2 c.layer_name.result.now [] c.layer_name.ensures in
    subst (λ (v : Contents). edge_named v c.args.edge.0 ≡ record { src = c.node_name.result.now; dst = c.node_name-2.result.now; layer = c.layer_name.result.now }) c.store-store.ensures (λ k. record { src = src k; dst = dst k; layer = layer k })

pub returns-clause-entities : goal.returns-clause-entities
returns-clause-entities g c =
    let s = g.V.View.contents c.args.view.now in
    let name = named g (goal.at.returns-clause-entities g c).After-layer_name in
    let some : is_some c.last_kind.result ≡ true = c.is_none.ensures ∙ ap not c.if-is_none.false in
    shown_more (g.V.View.world c.args.view.now) c.args.shown.now.items c.push.new.self.items (record { subject = OfEdge c.args.edge c.node_name.result c.node_name-2.result c.layer_name.result; span = c.edge_span-span.result }) (edge_at s c.args.edge.0) c.in_ok-push.ensures.items (ap Edge (sym name)) (has_event g (goal.at.returns-clause-entities g c).After-last_kind ∙ some)
    ∙ ap (λ es. entities_of c.args.shown.now.items ++ filter (appears (g.V.View.world c.args.view.now)) es) (sym (among g (goal.at.returns-clause-entities g c).After-last_kind))

pub returns-clause-parts : goal.returns-clause-parts
returns-clause-parts g c =
    let s = g.V.View.contents c.args.view.now in
    let w = g.V.View.world c.args.view.now in
    let name = named g (goal.at.returns-clause-parts g c).After-layer_name in
    λ h. subst (All (IsShownEntity s w)) (sym c.in_ok-push.ensures.items) (All-push (IsShownEntity s w) c.args.shown.now.items (record { subject = OfEdge c.args.edge c.node_name.result c.node_name-2.result c.layer_name.result; span = c.edge_span-span.result }) h
    (record { numbered = (ltb-true c.args.edge.0 (length s.edges) (known g (goal.at.returns-clause-parts g c).After-last_kind), name); shows = subst (λ n. Shows s w (Edge n) c.edge_span-span.result) name c.edge_span-span.ensures.shows }))
