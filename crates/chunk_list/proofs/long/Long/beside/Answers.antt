use Rattle.std.proofs.Common.{◌<◌, ◌∙◌, length, get_or, ap, arith}
use Rattle.chunk_list.specs.Besides.{besides_of}
use Rattle.chunk_list.proofs.Lookups.{length-looked_up, beside-looked_up}
use Rattle.chunk_list.proofs.long.Long.beside.Goals as goal

pub returns : goal.returns
returns g c =
    let s = c.self.inside in
    let item = c.get-place.result in
    let items = ap (λ v. v.items) c.self.view_is in
    let within : c.args.i < length s.parts.items = omega (arith, c.requires, ap length items, length-looked_up s.besides.items s.parts.items c.self.invariant) in
    beside-looked_up s.besides.items s.parts.items c.args.i item.0 item.1 c.index.result.now c.self.invariant within c.get-place.ensures c.index.ensures
    ∙ ap (λ xs. get_or (besides_of xs) c.args.i c.index.result.now) items
