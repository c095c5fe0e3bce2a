use Rattle.std.proofs.Common.{◌≡◌, ℤ, Some, refl, sym, ap, ◌∙◌, to_z, of_z, w64, rules}
use Rattle.std.proofs.lemmas.Int.{to_z-of_z}
use mir.Val.{SFits}
use Rattle.view_trait.specs.Ready.{ready_kind, ready_view}
use Rattle.fused_view.specs.Runs.{narrowed}
use Rattle.fused_view.proofs.Joining.{filter_joins_on_ok, name_joins, node_cuts, other_cuts, window_joins}
use Rattle.fused_view.proofs.Merged.{dropped_more, kept_more, layers_more, run_world}
use Rattle.fused_view.proofs.run.Run.add.Goals as goal

pub returns-in-Window : goal.returns-in-Window
returns-in-Window c =
    let from = c.in-Window.from in
    let to = c.in-Window.to in
    let fits_from : SFits w64 from = search rules in
    let fits_to : SFits w64 to = search rules in
    window_joins c.args.merged.now c.args.self.now from to c.args.op.now c.narrowed_ends.result c.in-Window.is
    (c.narrowed_ends.ensures
    ∙ (ap (λ (t : ℤ). narrowed c.args.self.now.window (t, to_z w64 (of_z w64 to))) (to_z-of_z w64 from fits_from)
    ∙ ap (λ (t : ℤ). narrowed c.args.self.now.window (from, t)) (to_z-of_z w64 to fits_to)))

pub returns-in-Layers : goal.returns-in-Layers
returns-in-Layers c =
    let run = c.args.self.now in
    let bits = c.in-Layers.bits in
    name_joins c.args.merged.now run c.args.op.now c.args.merged.now _ refl refl (ap ready_kind c.in-Layers.is)
    (λ s w h.
    ap (λ m. run_world s (record run { layers = Some m }) w) c.masked_layers.ensures
    ∙ (layers_more s run bits w h ∙ sym (ap (ready_view s (run_world s run w)) c.in-Layers.is)))

pub returns-in_ok-kept_nodes-in-Subgraph : goal.returns-in_ok-kept_nodes-in-Subgraph
returns-in_ok-kept_nodes-in-Subgraph c =
    let run = c.args.self.now in
    name_joins c.args.merged.now run c.args.op.now c.args.merged.now _ refl refl (ap ready_kind c.in-Subgraph.is)
    (λ s w h.
    kept_more s run _ c.in_ok-kept_nodes-in-Subgraph.field-0 w h c.in_ok-kept_nodes-in-Subgraph.ensures
    ∙ sym (ap (ready_view s (run_world s run w)) c.in-Subgraph.is))

pub returns-in_ok-dropped_nodes-in-ExcludeNodes : goal.returns-in_ok-dropped_nodes-in-ExcludeNodes
returns-in_ok-dropped_nodes-in-ExcludeNodes c =
    let run = c.args.self.now in
    name_joins c.args.merged.now run c.args.op.now c.args.merged.now _ refl refl (ap ready_kind c.in-ExcludeNodes.is)
    (λ s w h.
    dropped_more s run _ c.in_ok-dropped_nodes-in-ExcludeNodes.field-0 w h c.in_ok-dropped_nodes-in-ExcludeNodes.ensures
    ∙ sym (ap (ready_view s (run_world s run w)) c.in-ExcludeNodes.is))

pub returns-in-EdgesWhere : goal.returns-in-EdgesWhere
returns-in-EdgesWhere c =
    let is = ap ready_kind c.in-EdgesWhere.is in
    filter_joins_on_ok c.end.result c.args.merged.now c.args.self.now c.args.op.now c.end.new.merged c.end.new.self (other_cuts (ready_kind c.args.op.now) is) c.end.ensures.views c.end.ensures.run

pub returns-in-NodesWhere : goal.returns-in-NodesWhere
returns-in-NodesWhere c =
    let is = ap ready_kind c.in-NodesWhere.is in
    filter_joins_on_ok c.end-in-NodesWhere.result c.args.merged.now c.args.self.now c.args.op.now c.end-in-NodesWhere.new.merged c.end-in-NodesWhere.new.self (node_cuts (ready_kind c.args.op.now) is) c.end-in-NodesWhere.ensures.views c.end-in-NodesWhere.ensures.run

pub returns-in-Valid : goal.returns-in-Valid
returns-in-Valid c =
    let is = ap ready_kind c.in-Valid.is in
    filter_joins_on_ok c.end-in-Valid.result c.args.merged.now c.args.self.now c.args.op.now c.end-in-Valid.new.merged c.end-in-Valid.new.self (other_cuts (ready_kind c.args.op.now) is) c.end-in-Valid.ensures.views c.end-in-Valid.ensures.run
