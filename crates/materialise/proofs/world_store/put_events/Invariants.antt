use Rattle.std.proofs.Common.{◌≡◌, [], take}
use Rattle.materialise.proofs.world_store.put_events.Given as goal

abbrev pub invariant-loop-i : goal.invariant-loop-i
invariant-loop-i g l = record {
  events : l.store.accepted ≡ take l.i l.list;
  model : l.store.model ≡ l.fn.store.model;
  bounds : l.store.bounds ≡ l.fn.store.bounds;
  types : l.store.types ≡ [];
}
