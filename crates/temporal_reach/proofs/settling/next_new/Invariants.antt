use Rattle.std.proofs.Common.{◌≡◌, ◌⊎◌, ℤ, ℕ, None, length}
use Rattle.std.specs.List.{Contains}
use Rattle.graph_store.specs.EdgeParts.{parts_at}
use Rattle.temporal_reach.specs.Reaching.{reached_at}
use Rattle.temporal_reach.proofs.settling.next_new.Given as goal

-- what is left was there, and what is gone leads to nodes that are reached
abbrev pub invariant-loop-offer : goal.invariant-loop-offer
invariant-loop-offer g l =
    let contents = g.V.View.contents l.fn.view in
    record {
      among : (y : ℤ × ℕ) → Contains l.frontier y → Contains l.fn.frontier y;
      gone : (y : ℤ × ℕ) → Contains l.fn.frontier y → Contains l.frontier y ⊎ (reached_at l.fn.table (parts_at contents.edges y.1).dst ≡ None → ⊥);
    }

abbrev pub decreases-loop-offer : goal.decreases-loop-offer
decreases-loop-offer g l = length l.frontier
