use Rattle.std.proofs.Common.{◌≡◌, ℕ, ◌&&◌, nat_lt}
use Rattle.graph_model.specs.Keep.{has_type}
use Rattle.graph_store.specs.Contents.{name_at}
use Rattle.view_trait.specs.Numbered.{is_listed}
use Rattle.view_trait.proofs.ready_views.typed_nodes.Given as goal

abbrev pub invariant-loop-n : goal.invariant-loop-n
invariant-loop-n l = (m : ℕ) → is_listed l.nodes m ≡ (nat_lt m l.n && has_type l.fn.store.types l.fn.names (name_at l.fn.store.nodes m))
