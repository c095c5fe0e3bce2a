use Rattle.std.proofs.Common.{◌≡◌, ◌<◌, ◌≤◌, ℤ, take, length, sym, ◌∙◌, ap, subst, arith, to_z, of_z, w64}
use Rattle.std.proofs.lemmas.Int.{to_z-of_z}
use Rattle.std.proofs.lemmas.List.{take_all}
use Rattle.graph_store.specs.Contents.{Contents}
use Rattle.view_trait.proofs.Selected.{take_push}
use Rattle.temporal_reach.specs.Offers.{AreOffered, LeavesAnew}
use Rattle.temporal_reach.specs.Search.{IsBegun}
use Rattle.temporal_reach.proofs.SeedSettled.{begun_further, begun_same}
use Rattle.temporal_reach.proofs.settling.begin.Goals as goal

pub loop-i-preserved-then-seed-nodes : goal.loop-i-preserved-then-seed-nodes
loop-i-preserved-then-seed-nodes g c =
    let contents = g.V.View.contents c.args.view.now in
    let world = g.V.View.world c.args.view.now in
    let seeds = c.args.seeds.now in
    let i = c.loop-i.i in
    let below : i < length seeds = (let lt = c.loop-i-test.true in let long = c.len-i-end.ensures.len in omega (arith, lt, long)) in
    let count : c.nodes-nodes.result ≡ length contents.nodes = c.nodes-nodes.ensures.len ∙ ap (λ (s : Contents). length s.nodes) c.store.ensures in
    let beyond : length contents.nodes ≤ c.item-seed.result.0 = (let far = c.if-seed-nodes.true in omega (arith, far, count)) in
    record {
      begun = subst (λ xs. IsBegun contents world xs (to_z w64 (of_z w64 c.args.start)) c.loop-i.table c.loop-i.frontier) (sym (take_push seeds i c.item-seed.result.0 below c.item-seed.ensures)) (begun_same contents world (take i seeds) (to_z w64 (of_z w64 c.args.start)) c.loop-i.table c.loop-i.frontier c.item-seed.result.0 c.loop-i.invariant.begun beyond);
    }

pub loop-i-preserved : goal.loop-i-preserved
loop-i-preserved g c =
    let contents = g.V.View.contents c.args.view.now in
    let world = g.V.View.world c.args.view.now in
    let seeds = c.args.seeds.now in
    let i = c.loop-i.i in
    let below : i < length seeds = (let lt = c.loop-i-test.true in let long = c.len-i-end.ensures.len in omega (arith, lt, long)) in
    let count : c.nodes-nodes.result ≡ length contents.nodes = c.nodes-nodes.ensures.len ∙ ap (λ (s : Contents). length s.nodes) c.store.ensures in
    let within : c.item-seed.result.0 < length contents.nodes = (let near = c.if-seed-nodes.false in omega (arith, near, count)) in
    let start = to_z w64 (of_z w64 c.args.start) in
    let before = c.moment_before-before.result in
    let more = subst (λ (z : ℤ). AreOffered contents world z (LeavesAnew contents c.put.new.self c.item-seed.result.0) (λ k. ⊥) c.loop-i.frontier c.offer_from.new.frontier) (to_z-of_z w64 before (record { sfits = c.moment_before-before.type_inv })) c.in_ok-offer_from.ensures in
    record {
      begun = subst (λ xs. IsBegun contents world xs start c.put.new.self c.offer_from.new.frontier) (sym (take_push seeds i c.item-seed.result.0 below c.item-seed.ensures)) (begun_further contents world (take i seeds) start before c.loop-i.table c.put.new.self c.loop-i.frontier c.offer_from.new.frontier c.item-seed.result.0 c.loop-i.invariant.begun within c.in_ok-put.ensures c.moment_before-before.ensures more);
    }

pub returns : goal.returns
returns g c =
    let seeds = c.args.seeds.now in
    let all : length seeds ≤ c.loop-i.i = (let le = c.loop-i-test.false in let long = c.len-i-end.ensures.len in omega (arith, le, long)) in
    let contents = g.V.View.contents c.args.view.now in
    let world = g.V.View.world c.args.view.now in
    subst (λ (z : ℤ). IsBegun contents world seeds z c.loop-i.table c.loop-i.frontier) (to_z-of_z w64 c.args.start c.ranges.start)
    (subst (λ xs. IsBegun contents world xs (to_z w64 (of_z w64 c.args.start)) c.loop-i.table c.loop-i.frontier) (take_all c.loop-i.i seeds all) c.loop-i.invariant.begun)
