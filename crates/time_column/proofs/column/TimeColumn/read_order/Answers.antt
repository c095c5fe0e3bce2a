use Rattle.std.proofs.Common.{ap}
use Rattle.time_column.proofs.Stamps.{order_in}
use Rattle.time_column.proofs.column.TimeColumn.read_order.Goals as goal

pub returns : goal.returns
returns g c = order_in c.self.inside.rows.items c.args.self.now.stamps c.args.i c.beside.result.now (ap (λ v. v.stamps) c.self.view_is) c.requires c.beside.ensures
