use Rattle.std.proofs.Common.{ℤ, ap, w64, to_z, of_z, subst, sym}
use Rattle.std.proofs.lemmas.Int.{to_z-of_z}
use Rattle.time_column.specs.declared.column.Mark.{Mark}
use Rattle.time_column.specs.Stamp.{IsRising}
use Rattle.time_column.proofs.Stamps.{stamps_of-put, besides_of-put}
use Rattle.time_column.proofs.column.TimeColumn.put.Goals as goal

pub invariant_of-self : goal.invariant_of-self
invariant_of-self g c =
    let mark : Mark _ _ = record { arrival = c.args.arrival; order = c.args.order; tag = c.args.beside.0; beside = c.args.beside.1 } in
    let row : ℤ × Mark _ _ = (to_z w64 (of_z w64 c.args.time), mark) in
    subst IsRising (sym (stamps_of-put c.self.inside.rows.items c.put.new.self.items c.args.i row c.args.time c.args.self.now.stamps (ap (λ v. v.stamps) c.self.view_is) c.requires.place c.put.ensures.items (to_z-of_z w64 c.args.time c.ranges.time))) c.requires.rising

pub returns-clause-stamps : goal.returns-clause-stamps
returns-clause-stamps g c =
    let mark : Mark _ _ = record { arrival = c.args.arrival; order = c.args.order; tag = c.args.beside.0; beside = c.args.beside.1 } in
    let row : ℤ × Mark _ _ = (to_z w64 (of_z w64 c.args.time), mark) in
    stamps_of-put c.self.inside.rows.items c.put.new.self.items c.args.i row c.args.time c.args.self.now.stamps (ap (λ v. v.stamps) c.self.view_is) c.requires.place c.put.ensures.items (to_z-of_z w64 c.args.time c.ranges.time)

pub returns-clause-besides : goal.returns-clause-besides
returns-clause-besides g c =
    let mark : Mark _ _ = record { arrival = c.args.arrival; order = c.args.order; tag = c.args.beside.0; beside = c.args.beside.1 } in
    let row : ℤ × Mark _ _ = (to_z w64 (of_z w64 c.args.time), mark) in
    besides_of-put c.self.inside.rows.items c.put.new.self.items c.args.i row c.args.self.now.stamps c.args.self.now.besides (ap (λ v. v.stamps) c.self.view_is) (ap (λ v. v.besides) c.self.view_is) c.requires.place c.put.ensures.items
