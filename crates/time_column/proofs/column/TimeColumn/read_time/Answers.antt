use Rattle.std.proofs.Common.{ap, w64, ◌∙◌}
use Rattle.std.proofs.lemmas.Int.{to_z-of_z}
use Rattle.time_column.proofs.Stamps.{time_in}
use Rattle.time_column.proofs.column.TimeColumn.read_time.Goals as goal

pub returns : goal.returns
returns g c =
    to_z-of_z w64 c.key.result (record { sfits = c.key.type_inv })
    ∙ time_in c.self.inside.rows.items c.args.self.now.stamps c.args.i c.key.result (ap (λ v. v.stamps) c.self.view_is) c.requires c.key.ensures
