use Rattle.std.proofs.Common.{◌≡◌, ◌+◌, drop}
use Rattle.std.specs.List.{position_or_len}
use Rattle.std.specs.Ordering.{is_lt}
use Rattle.graph_model.specs.Names.{name_cmp}
use Rattle.graph_model.proofs.properties.place_of.Given as goal

-- the place is that in all items, if it is that in the rest after as many as were seen
abbrev pub invariant-loop-item : goal.invariant-loop-item
invariant-loop-item l = record {
  seen : l.place ≡ l.item-index;
  rest : l.place + position_or_len (λ p. is_lt (name_cmp l.key p.key)) (drop l.item-index l.items) ≡ position_or_len (λ p. is_lt (name_cmp l.key p.key)) l.items;
}
