use Rattle.std.proofs.Common.{◌≡◌, ◌+◌, drop}
use Rattle.std.specs.Prelude.{nat_lt}
use Rattle.std.specs.List.{position_or_len}
use Rattle.graph_store.proofs.numbered.place_of.Given as goal

-- the place is that in all items, if it is that in the rest after as many as were seen
abbrev pub invariant-loop-item : goal.invariant-loop-item
invariant-loop-item l = record {
  seen : l.place ≡ l.item-index;
  rest : l.place + position_or_len (λ p. nat_lt l.key p.key) (drop l.item-index l.items) ≡ position_or_len (λ p. nat_lt l.key p.key) l.items;
}
