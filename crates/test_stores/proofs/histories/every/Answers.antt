use Rattle.std.proofs.Common.{◌≡◌, ◌+◌, ◌<◌, ◌≤◌, ◌≤ℤ◌, ◌<ℤ◌, ℕ, List, length, ap, arith, subst, sym, false, ◌∙◌, to_z, w64}
use Rattle.std.specs.List.{All}
use Rattle.std.proofs.lemmas.Int.{ints}
use Rattle.std.proofs.lemmas.Bool.Decides.{nat_tests}
use Rattle.graph_model.specs.Interval.{earliest, latest}
use Rattle.time_history.specs.declared.updates.Update.{Update}
use Rattle.time_history.specs.Kinds.{is_node, is_delete}
use Rattle.time_history.specs.Updates.{placed}
use Rattle.time_history.proofs.Placed.{length-placed, All-placed}
use Rattle.test_stores.proofs.histories.every.Goals as goal

-- what holds of all updates and of one more
kept : (P : Update → Type 0) (u : Update) (us vs : List Update) → vs ≡ placed u us → All P us → P u → All P vs
kept P u us vs e h k = subst (All P) (sym e) (All-placed P u us h k)

small : (n m : ℕ) → n < m → m ≤ 100 → (earliest ≤ℤ to_z w64 n) × (to_z w64 n <ℤ latest)
small n m lt le = (omega (arith, ints), omega (arith, ints))

pub loop-i-preserved : goal.loop-i-preserved
loop-i-preserved g c =
    let e = c.in_ok-put.ensures.ok in
    let inv = c.loop-i.invariant in
    let us = c.loop-i.history.updates in
    let u : Update = record { time = to_z w64 c.loop-i.time; order = 0; arrival = c.loop-i.i; kind = c.kind_of.result; props = c.if-i-deletion.props } in
    record {
      len = omega (arith, ap length e, length-placed u us, inv.len);
      time = omega (arith, c.requires.start);
      arrived = kept (λ (x : Update). x.arrival < c.loop-i.i + 1) u us c.put.new.self.updates e (λ k d lt. omega (arith, inv.arrived k d lt)) (omega arith);
      edges = kept (λ (x : Update). is_node x.kind ≡ false) u us c.put.new.self.updates e inv.edges c.kind_of.ensures.edge;
      range = kept (λ (x : Update). (earliest ≤ℤ x.time) × (x.time <ℤ latest)) u us c.put.new.self.updates e inv.range (small c.loop-i.time c.args.times.2 inv.time c.requires.round);
      kept = λ le. kept (λ (x : Update). is_delete x.kind ≡ false) u us c.put.new.self.updates e (inv.kept (omega arith)) (c.kind_of.ensures.deletes ∙ grind (arith, nat_tests));
    }
