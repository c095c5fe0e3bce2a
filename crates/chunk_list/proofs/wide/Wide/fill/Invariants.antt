use Rattle.std.proofs.Common.{◌≡◌, ◌++◌, ◌<◌, length}
use Rattle.std.specs.Vec.Iter.{into_iter_items}
use Rattle.chunk_list.proofs.wide.Wide.fill.Given as goal

abbrev pub invariant-loop-item : goal.invariant-loop-item
invariant-loop-item g l = record {
  items : l.self.items ++ into_iter_items l.item-iterator ≡ l.fn.self.items ++ l.fn.items.items;
  room : length (into_iter_items l.item-iterator) < l.self.spare;
}
