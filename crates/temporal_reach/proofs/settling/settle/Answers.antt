use Rattle.std.proofs.Common.{◌≡◌, ℤ, ℕ, length, sym, subst, to_z, of_z, w64, List, []}
use Rattle.std.proofs.lemmas.Int.{to_z-of_z}
use Rattle.graph_model.specs.World.{World}
use Rattle.graph_store.specs.declared.walks.EdgeId.{EdgeId}
use Rattle.graph_store.specs.Contents.{Contents}
use Rattle.view_trait.specs.Meaning.{IsShown, edge_named}
use Rattle.view_trait.specs.Numbered.{nodes_numbered}
use Rattle.view_trait.proofs.Kept.{node_chosen}
use Rattle.temporal_reach.specs.declared.reach_table.Reached.TheVariants.{Moment}
use Rattle.temporal_reach.specs.Arrivals.{AreSeeds}
use Rattle.temporal_reach.specs.Reaching.{Puts}
use Rattle.temporal_reach.specs.Offers.{AreOffered, LeavesAnew}
use Rattle.temporal_reach.specs.Search.{IsSearch}
use Rattle.temporal_reach.proofs.Closed.{closed, fewer}
use Rattle.temporal_reach.proofs.NodeSettled.{settled, settled_within}
use Rattle.temporal_reach.proofs.SeedSettled.{search_begun}
use Rattle.temporal_reach.proofs.settling.settle.Goals as goal

-- the seeds by their own names
own_names : (contents : Contents) (world : World) (seeds : List ℕ) → IsShown contents world → AreSeeds contents seeds (nodes_numbered contents seeds)
own_names contents world seeds shown = λ n below. sym (node_chosen contents seeds n shown.indexed below)

pub loop-moment-init : goal.loop-moment-init
loop-moment-init g c = λ names are.
    let contents = g.V.View.contents c.args.view.now in
    let world = g.V.View.world c.args.view.now in
    search_begun contents world c.args.seeds.now names _ c.in_ok-table.table c.in_ok-table.frontier are c.in_ok-table.ensures

pub next_new-requires : goal.next_new-requires
next_new-requires g c = λ x k.
    let contents = g.V.View.contents c.args.view.now in
    let shown = g.met.V.View.shown c.args.view.now in
    ((c.loop-moment.invariant (nodes_numbered contents c.args.seeds.now) (own_names contents (g.V.View.world c.args.view.now) c.args.seeds.now shown)).offered x k).exists

pub offer_from-requires : goal.offer_from-requires
offer_from-requires g c =
    let contents = g.V.View.contents c.args.view.now in
    let world = g.V.View.world c.args.view.now in
    let shown = g.met.V.View.shown c.args.view.now in
    let names = nodes_numbered contents c.args.seeds.now in
    let h = c.loop-moment.invariant names (own_names contents world c.args.seeds.now shown) in
    settled_within contents world names _ c.loop-moment.table c.loop-moment.frontier c.next_new.new.frontier c.in-Some.moment c.in-Some.edge c.in-Some.node.0 (λ k below. (shown.indexed.within k below).1) h c.in-Some.ensures

pub loop-moment-smaller : goal.loop-moment-smaller
loop-moment-smaller g c =
    let contents = g.V.View.contents c.args.view.now in
    let world = g.V.View.world c.args.view.now in
    let shown = g.met.V.View.shown c.args.view.now in
    let names = nodes_numbered contents c.args.seeds.now in
    let h = c.loop-moment.invariant names (own_names contents world c.args.seeds.now shown) in
    let n = c.in-Some.node.0 in
    let within = settled_within contents world names _ c.loop-moment.table c.loop-moment.frontier c.next_new.new.frontier c.in-Some.moment c.in-Some.edge n (λ k below. (shown.indexed.within k below).1) h c.in-Some.ensures in
    fewer (length contents.nodes) c.loop-moment.table c.put.new.self n _ within c.in-Some.ensures.unreached c.in_ok-put.ensures

pub loop-moment-preserved : goal.loop-moment-preserved
loop-moment-preserved g c = λ names are.
    let contents = g.V.View.contents c.args.view.now in
    let world = g.V.View.world c.args.view.now in
    let shown = g.met.V.View.shown c.args.view.now in
    let h = c.loop-moment.invariant names are in
    let first = c.in-Some.ensures in
    let m = c.in-Some.moment in
    let n = c.in-Some.node.0 in
    let by : EdgeId = record { 0 = c.in-Some.edge } in
    let within = settled_within contents world names _ c.loop-moment.table c.loop-moment.frontier c.next_new.new.frontier m c.in-Some.edge n (λ k below. (shown.indexed.within k below).1) h first in
    let plain : to_z w64 (of_z w64 m) ≡ m = to_z-of_z w64 m (c.contact_facts.ensures (edge_named contents c.in-Some.edge) m (h.offered (m, c.in-Some.edge) first.among).contact) in
    settled contents world names _ c.loop-moment.table c.put.new.self c.loop-moment.frontier c.next_new.new.frontier c.offer_from.new.frontier m by n h within first
    (subst (λ (z : ℤ). Puts c.loop-moment.table n (Moment z by) c.put.new.self) plain c.in_ok-put.ensures)
    (subst (λ (z : ℤ). AreOffered contents world z (LeavesAnew contents c.put.new.self n) (λ k. ⊥) c.next_new.new.frontier c.offer_from.new.frontier) plain c.in_ok-offer_from.ensures)

pub returns : goal.returns
returns g c = λ names are.
    let contents = g.V.View.contents c.args.view.now in
    let world = g.V.View.world c.args.view.now in
    let h = c.loop-moment.invariant names are in
    subst (λ (z : ℤ). IsSearch contents world names z c.loop-moment.table []) (to_z-of_z w64 c.args.start c.ranges.start) (closed contents world names _ c.loop-moment.table c.loop-moment.frontier h c.in_default.ensures)
