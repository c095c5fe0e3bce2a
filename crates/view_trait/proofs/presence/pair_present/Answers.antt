use Rattle.std.proofs.Common.{◌≡◌, ◌<◌, ◌+◌, ◌-◌, ◌||◌, ℕ, true, length, sym, ap, subst, ◌∙◌, arith}
use Rattle.std.specs.List.{list_any, AllByRecursion}
use Rattle.std.proofs.lemmas.Bool.{or_left}
use Rattle.graph_model.specs.Presence.{edge_present}
use Rattle.graph_store.specs.Ends.{ends_at}
use Rattle.graph_store.specs.EdgeIndex.{edges_between}
use Rattle.graph_store.specs.Contents.{Contents}
use Rattle.view_trait.specs.Meaning.{edge_named}
use Rattle.view_trait.specs.Present.{edge_count}
use Rattle.view_trait.proofs.Costs.{StepsWithin-each, StepsWithin-times}
use Rattle.view_trait.proofs.Pairs.{edges_within, pair_is}
use Rattle.view_trait.proofs.presence.pair_present.Goals as goal

pub loop-e-init : goal.loop-e-init
loop-e-init g c =
    let contents = g.V.View.contents c.args.view.now in
    let world = g.V.View.world c.args.view.now in
    let edges = c.edges_of-edges.ensures ∙ ap (λ (s : Contents). edges_between s.edges (ends_at s.pairs c.args.p.0)) c.store.ensures in
    record {
      within = subst (AllByRecursion (λ e. e < length contents.edges)) (sym edges) (edges_within contents (ends_at contents.pairs c.args.p.0));
      left = ap (list_any (λ e. edge_present world (edge_named contents e))) (sym edges);
      few = (let n = ap length edges in omega (arith, n));
      cost = λ h. omega arith;
    }

pub loop-e-preserved : goal.loop-e-preserved
loop-e-preserved g c =
    let contents = g.V.View.contents c.args.view.now in
    let world = g.V.View.world c.args.view.now in
    let shows = λ (e : ℕ). edge_present world (edge_named contents e) in
    let rest = c.next.new.self in
    let more : length c.loop-e.edges ≡ length rest + 1 = ap length c.in-Some.ensures.steps ∙ omega arith in
    record {
      within = (subst (AllByRecursion (λ e. e < length contents.edges)) c.in-Some.ensures.steps c.loop-e.invariant.within).1;
      left = c.loop-e.invariant.left ∙ (ap (list_any shows) c.in-Some.ensures.steps ∙ ap (λ b. b || list_any shows rest) (sym c.edge_present.ensures.present ∙ c.if-edge_present.false));
      few = (let n = c.loop-e.invariant.few in omega (arith, n, more));
      cost = λ h. StepsWithin-each _ _ _ (edge_count contents c.args.p.0) _ _ _ _ more c.loop-e.invariant.few (c.loop-e.invariant.cost h) (c.edge_present.ensures.cost h);
    }

pub returns-then-edge_present-clause-cost : goal.returns-then-edge_present-clause-cost
returns-then-edge_present-clause-cost g c = λ h.
    let contents = g.V.View.contents c.args.view.now in
    let all = edge_count contents c.args.p.0 in
    let more : length c.loop-e.edges ≡ length c.next.new.self + 1 = ap length c.in-Some.ensures.steps ∙ omega arith in
    let made = StepsWithin-each _ _ _ all _ _ _ _ more c.loop-e.invariant.few (c.loop-e.invariant.cost h) (c.edge_present.ensures.cost h) in
    StepsWithin-times _ _ (all - length c.next.new.self) all _ _ (omega arith) made

pub returns-clause-cost : goal.returns-clause-cost
returns-clause-cost g c = λ h.
    let all = edge_count (g.V.View.contents c.args.view.now) c.args.p.0 in
    StepsWithin-times _ _ (all - length c.loop-e.edges) all _ _ (omega arith) (c.loop-e.invariant.cost h)

pub returns-then-edge_present-clause-present : goal.returns-then-edge_present-clause-present
returns-then-edge_present-clause-present g c =
    let contents = g.V.View.contents c.args.view.now in
    let world = g.V.View.world c.args.view.now in
    let shows = λ (e : ℕ). edge_present world (edge_named contents e) in
    let here : shows c.in-Some.e.0 ≡ true = sym c.edge_present.ensures.present ∙ c.if-edge_present.true in
    let some : list_any shows c.loop-e.edges ≡ true = ap (list_any shows) c.in-Some.ensures.steps ∙ or_left (shows c.in-Some.e.0) (list_any shows c.next.new.self) here in
    sym (sym (pair_is contents world c.args.p.0 (g.met.V.View.shown c.args.view.now) c.requires) ∙ (c.loop-e.invariant.left ∙ some))

pub returns-clause-present : goal.returns-clause-present
returns-clause-present g c =
    let contents = g.V.View.contents c.args.view.now in
    let world = g.V.View.world c.args.view.now in
    let shows = λ (e : ℕ). edge_present world (edge_named contents e) in
    sym (sym (pair_is contents world c.args.p.0 (g.met.V.View.shown c.args.view.now) c.requires) ∙ (c.loop-e.invariant.left ∙ ap (list_any shows) c.in_default.ensures.steps.0))
