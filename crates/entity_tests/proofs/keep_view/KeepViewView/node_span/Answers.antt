use Rattle.std.proofs.Common.{◌≡◌, sym, subst, ◌∙◌}
use Rattle.graph_store.specs.Contents.{Contents}
use Rattle.view_trait.specs.Meaning.{Shows, node_at}
use Rattle.view_trait.proofs.Shown.{Shows-kept, Shows-nothing}
use Rattle.entity_tests.proofs.keep_view.KeepViewView.node_span.Given.{Over}
use Rattle.entity_tests.proofs.keep_view.KeepViewView.node_span.Goals.{After-passes_node}
use Rattle.entity_tests.proofs.keep_view.KeepViewView.node_span.Goals as goal

-- the node passes the test
kept : (g : Over) (c : After-passes_node g) → g.T.EntityTest.passes c.args.self.now.test (g.V.View.contents c.args.self.now.inner) (g.V.View.world c.args.self.now.inner) (node_at (g.V.View.contents c.args.self.now.inner) c.args.n.0) ≡ c.passes_node.result
kept g c =
    let view = c.args.self.now in
    let contents = g.V.View.contents view.inner in
    let w = g.V.View.world view.inner in
    let shows = subst (λ (s : Contents). Shows s w (node_at s c.args.n.0) c.node_span-span.result) (sym c.store.ensures) c.node_span-span.ensures.shows in
    sym (subst (λ (s : Contents). c.passes_node.result ≡ g.T.EntityTest.passes view.test s w (node_at s c.args.n.0)) c.store.ensures (c.passes_node.ensures w shows))

pub returns-then-passes_node-clause-shows : goal.returns-then-passes_node-clause-shows
returns-then-passes_node-clause-shows g c =
    let view = c.args.self.now in
    let contents = g.V.View.contents view.inner in
    let w = g.V.View.world view.inner in
    Shows-kept (g.T.EntityTest.passes view.test contents w) contents w (node_at contents c.args.n.0) c.node_span-span.result
    (kept g (goal.at.returns-then-passes_node-clause-shows g c).After-passes_node ∙ c.if-passes_node.true) c.node_span-span.ensures.shows

pub returns-else-passes_node-clause-shows : goal.returns-else-passes_node-clause-shows
returns-else-passes_node-clause-shows g c =
    let view = c.args.self.now in
    let contents = g.V.View.contents view.inner in
    let w = g.V.View.world view.inner in
    Shows-nothing (g.T.EntityTest.passes view.test contents w) contents w (node_at contents c.args.n.0) c.nothing.result
    (kept g (goal.at.returns-else-passes_node-clause-shows g c).After-passes_node ∙ c.if-passes_node.false) c.nothing.ensures
