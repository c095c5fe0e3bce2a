use Rattle.std.proofs.Common.{length, subst, sym}
use Rattle.std.specs.Ordering.{nat_cmp}
use Rattle.graph_model.specs.Rising.{Rises}
use Rattle.view_trait.specs.Coverage.{edges_on, nodes_on}
use Rattle.view_trait.proofs.OnRoster.{range_rises}
use Rattle.view_trait.proofs.facts.roster_facts.Goals as goal

pub returns-in-All-clause-nodes : goal.returns-in-All-clause-nodes
returns-in-All-clause-nodes c = subst (λ r. Rises nat_cmp (nodes_on c.args.store.now r)) (sym c.in-All.is) (range_rises 0 (length c.args.store.now.nodes))

pub returns-in-All-clause-edges : goal.returns-in-All-clause-edges
returns-in-All-clause-edges c = subst (λ r. Rises nat_cmp (edges_on c.args.store.now r)) (sym c.in-All.is) (range_rises 0 (length c.args.store.now.edges))
