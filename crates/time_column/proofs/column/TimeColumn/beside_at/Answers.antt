use Rattle.std.proofs.Common.{ap}
use Rattle.time_column.proofs.Stamps.{lent_in}
use Rattle.time_column.proofs.column.TimeColumn.beside_at.Goals as goal

pub returns : goal.returns
returns g c = lent_in c.self.inside.rows.items c.args.self.now.besides c.args.i c.beside.result.now (ap (λ v. v.besides) c.self.view_is) c.requires c.beside.ensures
