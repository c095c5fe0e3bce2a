use Rattle.std.proofs.Common.{◌≡◌, ◌+◌, drop}
use Rattle.std.specs.List.{position_or_len}
use Rattle.std.specs.Ordering.{is_lt}
use Rattle.graph_model.specs.Names.{name_cmp}
use Rattle.view_lists.proofs.borrowed.place_of.Given as goal

-- the place is that in all properties, if it is that in the rest after as many as were seen
abbrev pub invariant-loop-property : goal.invariant-loop-property
invariant-loop-property l = record {
  seen : l.place ≡ l.property-index;
  rest : l.place + position_or_len (λ p. is_lt (name_cmp l.key p.key.now)) (drop l.property-index l.props) ≡ position_or_len (λ p. is_lt (name_cmp l.key p.key.now)) l.props;
}
