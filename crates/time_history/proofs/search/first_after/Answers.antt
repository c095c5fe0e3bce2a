use Rattle.std.proofs.Common.{◌≡◌, ℕ, ◌+◌, ◌-◌, ◌^◌, ◌<◌, ◌≤◌, arith, sym}
use Rattle.graph_model.specs.Searches.{digits}
use Rattle.world_laws.proofs.Digits.{digits-binary, digits-half}
use Rattle.chunk_list.specs.Middle.{IsShorter}
use Rattle.time_history.proofs.Probes.{passes_up_to, fails_from}
use Rattle.time_history.proofs.search.first_after.Goals as goal

-- a shorter number has one digit less
digits-shorter : (n whole : ℕ) → 0 < whole → IsShorter n whole → digits n + 1 ≤ digits whole
digits-shorter n whole some h =
    let one = digits-half whole some in
    let back : digits whole - 1 + 1 ≡ digits whole = omega arith in
    let below : whole < 2 ^ (digits whole - 1 + 1) = (digits-binary whole (digits whole - 1 + 1)).0 (omega arith) in
    omega (arith, (digits-binary n (digits whole - 1)).1 (h (digits whole - 1) below))

paid : (d m s t n : ℕ) → m + 1 ≤ d → t ≡ s + 1 → s + d ≤ n → t + m ≤ n
paid d m s t n h e le = omega arith

pub loop-low-preserved-then-test : goal.loop-low-preserved-then-test
loop-low-preserved-then-test g c =
    let low = c.loop-low.low in
    let high = c.loop-low.high in
    let lt = c.loop-low-test.true in
    let inv = c.loop-low.invariant in
    let mid = c.middle-mid.result in
    let m = c.middle-mid.ensures in
    let some : 0 < high - low = omega arith in
    record {
      from = omega (arith, inv.from, m.from);
      order = omega (arith, m.to);
      to = inv.to;
      before = λ k a b. passes_up_to c.args.probe c.args.column.now.stamps mid k c.requires.rising (omega (arith, m.to, inv.to, c.requires.within)) (sym c.if-test.ensures.value) b;
      after = inv.after;
      cost = paid (digits (high - low)) (digits (high - (mid + 1))) c.loop-low.steps c.test.new.steps _ (digits-shorter (high - (mid + 1)) (high - low) some m.after) c.test.ensures.cost inv.cost;
    }

pub loop-low-preserved : goal.loop-low-preserved
loop-low-preserved g c =
    let low = c.loop-low.low in
    let high = c.loop-low.high in
    let lt = c.loop-low-test.true in
    let inv = c.loop-low.invariant in
    let mid = c.middle-mid.result in
    let m = c.middle-mid.ensures in
    let some : 0 < high - low = omega arith in
    record {
      from = inv.from;
      order = m.from;
      to = omega (arith, m.to, inv.to);
      before = inv.before;
      after = λ k a b. fails_from c.args.probe c.args.column.now.stamps mid k c.requires.rising (omega (arith, b, c.requires.within)) (sym c.if-test.ensures.value) a;
      cost = paid (digits (high - low)) (digits (mid - low)) c.loop-low.steps c.test.new.steps _ (digits-shorter (mid - low) (high - low) some m.before) c.test.ensures.cost inv.cost;
    }
