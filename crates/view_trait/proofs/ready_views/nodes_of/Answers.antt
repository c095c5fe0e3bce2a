use Rattle.std.proofs.Common.{◌+◌, ◌<◌, take, length, sym, ◌∙◌, ap, subst, arith}
use Rattle.view_trait.specs.Drawn.{Selects}
use Rattle.view_trait.specs.Numbered.{is_listed}
use Rattle.view_trait.proofs.Rising.{listed_put}
use Rattle.view_trait.proofs.Selected.{selects_none, selects_more, selects_same}
use Rattle.view_trait.proofs.ready_views.nodes_of.Goals.{in-Some+in_ok-push, in_default}
use Rattle.view_trait.proofs.ready_views.nodes_of.Goals as goal

pub loop-i-init : goal.loop-i-init
loop-i-init c = selects_none c.args.store.now.nodes (is_listed c.new-nodes.result) (λ n. ap (λ xs. is_listed xs n) c.new-nodes.ensures)

pub loop-i-preserved : goal.loop-i-preserved
loop-i-preserved c =
    let nodes = c.args.store.now.nodes in
    let names = c.args.names.now in
    let i = c.loop-i.i in
    let lt : i < length names = omega (arith, c.loop-i-test.true, c.len-i-end.ensures) in
    elim c.match-node_of.branch [
      | in-Some+in_ok-push w ↦
          let p = w.in-Some.node.0 in
          selects_more nodes names i c.item.result.now p (is_listed c.loop-i.nodes) (is_listed c.match-node_of.nodes) c.store_facts.ensures.indexed.node_names lt c.item.ensures (sym w.in-Some.ensures.place) c.loop-i.invariant
          (λ n m. ap (λ xs. is_listed xs n) (w.nodes-is ∙ w.in_ok-push.ensures.ok) ∙ listed_put p c.loop-i.nodes n)
      | in_default w ↦ subst (λ xs. Selects nodes (take (i + 1) names) (is_listed xs)) (sym w.nodes-is) (selects_same nodes names i c.item.result.now (is_listed c.loop-i.nodes) lt c.item.ensures (sym w.in_default.ensures.place) c.loop-i.invariant)
    ]
