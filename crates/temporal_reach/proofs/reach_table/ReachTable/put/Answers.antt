use Rattle.std.proofs.Common.{ap, ◌∙◌}
use Rattle.std.specs.Prelude.{nat_eq}
use Rattle.indexmap.specs.IndexMap.{insert_entry}
use Rattle.temporal_reach.proofs.TablePlaces.{put_entry}
use Rattle.temporal_reach.proofs.reach_table.ReachTable.put.Goals as goal

pub returns : goal.returns
returns c = put_entry c.args.self.now c.insert.new.self.entries c.args.n.0 c.args.reached (c.in_ok-insert.ensures.entries ∙ ap (λ es. insert_entry nat_eq es c.args.n.0 c.args.reached) c.self.view_is)
