use Rattle.std.proofs.Common.{refl}
use Rattle.graph_store.proofs.NewStore.{IsStored-nothing}
use Rattle.graph_store.proofs.store.Store.new.Goals as goal

pub invariant_of-result : goal.invariant_of-result
invariant_of-result c =
    IsStored-nothing _ refl c.new.ensures.names c.new.ensures.limit c.new-2.ensures.names c.new-2.ensures.limit c.new-3.ensures.names c.new-3.ensures.limit c.new-4.ensures
    c.new-5.ensures c.new-6.ensures c.new-7.ensures.nodes c.new-7.ensures.edges c.new-8.ensures.items c.new-9.ensures.items
