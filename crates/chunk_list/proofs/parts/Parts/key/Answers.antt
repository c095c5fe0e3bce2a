use Rattle.std.proofs.Common.{◌<◌, ◌+◌, ◌∙◌, ap, arith, length, get_or, []}
use Rattle.chunk_list.specs.Parts.{joined, part_at}
use Rattle.std.specs.Map.{keys_of}
use Rattle.chunk_list.proofs.Joined.{length-starts, read_at}
use Rattle.chunk_list.proofs.Pairing.{found_key}
use Rattle.chunk_list.proofs.parts.Parts.key.Goals as goal

pub get-requires : goal.get-requires
get-requires g c = omega (arith, c.part_of-at.ensures.within, ap length c.as_slice.ensures.value, ap length c.self.invariant.begins, length-starts 0 c.self.inside.parts.items)

pub returns : goal.returns
returns g c =
    let s = c.self.inside in
    let ps = s.parts.items in
    let at = c.part_of-at.result in
    let f = c.part_of-at.ensures in
    let within : at < length ps = omega (arith, f.within, ap length c.as_slice.ensures.value) in
    let high : c.args.i < get_or s.firsts.items at 0 + length (part_at ps at) = omega (arith, f.high, ap (λ qs. length (part_at qs at)) c.as_slice.ensures.value) in
    let in_list : c.args.i < length (joined ps) = omega (arith, c.requires, ap (λ v. length v.items) c.self.view_is) in
    let part = read_at ps at c.index.result.now [] within c.index.ensures in
    found_key s.firsts.items ps at c.args.i c.get.result c.index.result.now c.key.result c.self.invariant.begins within f.low high in_list c.get.ensures part c.key.ensures ∙ ap (λ v. get_or (keys_of v.items) c.args.i c.key.result) c.self.view_is
