use Rattle.std.proofs.Common.{◌≡◌, ◌<◌, length, subst, sym}
use Rattle.std.specs.Prelude.{Some, slice_get}
use Rattle.view_trait.specs.Coverage.{node_count_on, nodes_on}
use Rattle.view_trait.proofs.Covered.{range_place}
use Rattle.view_trait.proofs.rosters.Roster.node.Goals as goal

pub returns-in-All : goal.returns-in-All
returns-in-All c =
    let store = c.args.store.now in
    let below : c.args.i < length store.nodes = subst (λ r. c.args.i < node_count_on store r) c.in-All.is c.requires in
    subst (λ r. slice_get (nodes_on store r) c.args.i ≡ Some c.args.i) (sym c.in-All.is) (range_place (length store.nodes) c.args.i below)
