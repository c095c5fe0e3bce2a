-- The searches of a view that keeps what passes a test.
use Rattle.std.proofs.Common.{◌≡◌, ◌+◌, Bool, true, false, refl, arith}
use Rattle.graph_model.specs.Searches.{Searches}
use Rattle.entity_tests.specs.Tests.{end_searches, searches_kept}

pub node_searches_kept : (asks : Bool) (s : Searches) → (searches_kept asks s).nodes ≡ s.nodes
node_searches_kept true s = refl
node_searches_kept false s = refl

pub edge_searches_kept : (asks : Bool) (s : Searches) → (searches_kept asks s).edges ≡ end_searches asks s + s.edges
edge_searches_kept true s = omega arith
edge_searches_kept false s = omega arith
