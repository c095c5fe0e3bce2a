use Rattle.std.proofs.Common.{◌≡◌, ◌+◌, length, take, arith}
use Rattle.std.proofs.lemmas.List.{length-take-le}
use Rattle.outside_io.proofs.Reading.{Reads-stands}
use Rattle.outside_io.proofs.all_bytes.read_all.Goals as goal

pub returns-then-n-max-clause-stands : goal.returns-then-n-max-clause-stands
returns-then-n-max-clause-stands g c =
    let piece = take c.in-Ok-read.n c.read.new.buf in
    let given : g.I.Inputs.given c.read.new.self ≡ length c.loop-n.bytes.items + length piece = omega (arith, c.in-Ok-read.ensures.given, c.in-Ok-read.ensures.within, c.loop-n.bytes.small, length-take-le c.in-Ok-read.n c.read.new.buf c.in-Ok-read.ensures.within) in
    Reads-stands _ _ _ piece _ _ _ c.loop-n.invariant.reads c.in-Ok-read.ensures.gives given
