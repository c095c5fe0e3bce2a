use Rattle.std.proofs.Common.{◌≡◌, ◌+◌, ◌≤◌, length, w64, to_z, of_z, subst, rules}
use Rattle.std.proofs.lemmas.Int.{to_z-of_z}
use Rattle.std.proofs.lemmas.Result.{on_ok_weaker}
use mir.Val.{SFits}
use Rattle.graph_model.specs.declared.events.Model.TheVariants.{Event as Instants}
use Rattle.std.specs.Ordering.{nat_cmp}
use Rattle.graph_model.specs.Rising.{rising}
use Rattle.graph_model.specs.Window.{window}
use Rattle.graph_model.specs.World.{World, IsLawful}
use Rattle.graph_store.specs.Contents.{Contents}
use Rattle.window_sweep.specs.WindowSwept.{AreOn, IsOver, WindowSwept}
use Rattle.window_sweep.proofs.Shown.{IsSwept, all_on, few_on, swept_at}
use Rattle.window_sweep.proofs.sweep.WindowSweep.move_to.Goals as goal

nodes : (c : goal.After-refill-2) → IsSwept c.self.inside.nodes c.move_to.new.self c.refill.new.self c.args.from c.args.to
nodes c =
    let from = c.args.from in
    let to = c.args.to in
    let fits_from : SFits w64 from = search rules in
    let fits_to : SFits w64 to = search rules in
    let ok = c.in_ok-move_to.ensures in
    swept_at c.self.inside.nodes c.move_to.new.self c.refill.new.self c.listed.result.now (to_z w64 (of_z w64 from)) (to_z w64 (of_z w64 to)) from to (to_z-of_z w64 from fits_from) (to_z-of_z w64 to fits_to) ok.listed ok.few c.in_ok-refill.ensures.ok c.listed.ensures

edges : (c : goal.After-refill-2) → c.refill-2.new.self ≡ rising nat_cmp c.listed-2.result.now → IsSwept c.self.inside.edges c.move_to-2.new.self c.refill-2.new.self c.args.from c.args.to
edges c is =
    let from = c.args.from in
    let to = c.args.to in
    let fits_from : SFits w64 from = search rules in
    let fits_to : SFits w64 to = search rules in
    let ok = c.in_ok-move_to-2.ensures in
    swept_at c.self.inside.edges c.move_to-2.new.self c.refill-2.new.self c.listed-2.result.now (to_z w64 (of_z w64 from)) (to_z w64 (of_z w64 to)) from to (to_z-of_z w64 from fits_from) (to_z-of_z w64 to fits_to) ok.listed ok.few is c.listed-2.ensures

pub returns-clause-covers : goal.returns-clause-covers
returns-clause-covers c =
    let s = c.self.inside in
    let old : WindowSwept = record { nodes = s.nodes; edges = s.edges; node_list = s.node_list; edge_list = s.edge_list; first = s.first; last = s.last } in
    let new : WindowSwept = record { nodes = c.move_to.new.self; edges = c.move_to-2.new.self; node_list = c.refill.new.self; edge_list = c.refill-2.new.self; first = s.first; last = s.last } in
    on_ok_weaker c.refill-2.result (λ is.
    subst (λ (v : WindowSwept). (t : Contents) (w : World) → IsLawful w → IsOver t w v → AreOn t (window w c.args.from c.args.to) new) c.self.view_is
    (λ t w lawful over. all_on t w lawful c.args.from c.args.to old new over (nodes c) (edges c is)))
    c.refill-2.ensures.ok

pub returns-clause-few : goal.returns-clause-few
returns-clause-few c =
    let s = c.self.inside in
    let old : WindowSwept = record { nodes = s.nodes; edges = s.edges; node_list = s.node_list; edge_list = s.edge_list; first = s.first; last = s.last } in
    let new : WindowSwept = record { nodes = c.move_to.new.self; edges = c.move_to-2.new.self; node_list = c.refill.new.self; edge_list = c.refill-2.new.self; first = s.first; last = s.last } in
    on_ok_weaker c.refill-2.result (λ is.
    subst (λ (v : WindowSwept). (t : Contents) (w : World) → IsLawful w → w.model ≡ Instants → IsOver t w v → length new.node_list + length new.edge_list ≤ length (window w c.args.from c.args.to).events) c.self.view_is
    (λ t w lawful model over. few_on t w lawful c.args.from c.args.to old new over (nodes c) (edges c is) model))
    c.refill-2.ensures.ok
