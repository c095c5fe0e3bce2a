use Rattle.std.proofs.Common.{◌≡◌, take}
use Rattle.materialise.proofs.world_store.put_types.Given as goal

abbrev pub invariant-loop-i : goal.invariant-loop-i
invariant-loop-i l = record {
  types : l.store.types ≡ take l.i l.types;
  events : l.store.accepted ≡ l.fn.store.accepted;
  model : l.store.model ≡ l.fn.store.model;
  bounds : l.store.bounds ≡ l.fn.store.bounds;
}
