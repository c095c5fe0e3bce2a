use Rattle.std.proofs.Common.{◌≡◌, ◌∙◌, None, sym, ap, subst}
use Rattle.std.specs.Prelude.{MatchOption}
use Rattle.graph_model.specs.Entity.{subject, what_props}
use Rattle.graph_model.specs.Accepting.{mistyped, kept_type}
use Rattle.graph_store.specs.Refusals.{IsMistyped}
use Rattle.graph_store.specs.Contents.{Contents}
use Rattle.graph_store.specs.StoreInvariant.{contents}
use Rattle.graph_store.proofs.JudgeLaws.{mistyped_is, alike-node, alike-edge}
use Rattle.graph_store.proofs.store.Store.clash_with.Goals as goal

pub returns-in-Node : goal.returns-in-Node
returns-in-Node c =
    let x = c.args.event.now in
    let accepted = (contents c.self.inside).accepted in
    subst (λ (v : Contents). MatchOption c.clash.result (mistyped v.accepted x ≡ None) (IsMistyped v.accepted x)) c.self.view_is
    (mistyped_is c.self.inside.node_keys accepted x c.in-Node.props
    (λ key. c.self.invariant.contents_are.node_types key ∙ ap (λ ys. kept_type ys key) (sym (alike-node accepted x c.in-Node.field-0 c.in-Node.props c.in-Node.is)))
    (ap what_props c.in-Node.is) c.clash.result c.clash.ensures)

pub returns-in-Add : goal.returns-in-Add
returns-in-Add c =
    let x = c.args.event.now in
    let accepted = (contents c.self.inside).accepted in
    subst (λ (v : Contents). MatchOption c.clash-in-Add.result (mistyped v.accepted x ≡ None) (IsMistyped v.accepted x)) c.self.view_is
    (mistyped_is c.self.inside.edge_keys accepted x c.in-Add.props
    (λ key. c.self.invariant.contents_are.edge_types key ∙ ap (λ ys. kept_type ys key) (sym (alike-edge accepted x c.in-Add.field-0 (ap subject c.in-Add.is))))
    (ap what_props c.in-Add.is) c.clash-in-Add.result c.clash-in-Add.ensures)
