use Rattle.std.proofs.Common.{◌≡◌, length, ap, arith}
use Rattle.chunk_list.proofs.Pairing.{many_pairs}
use Rattle.chunk_list.proofs.columns.Columns.reserve.Goals as goal

pub reserve_block-requires : goal.reserve_block-requires
reserve_block-requires g c =
    let s = c.self.inside in
    let even : length s.besides.items ≡ length s.keys.items = omega (arith, s.keys.ok.0, s.besides.ok.0, c.self.invariant) in
    let many = many_pairs s.keys.items s.besides.items c.args.self.now.items even (ap (λ v. v.items) c.self.view_is) in
    omega (arith, c.requires, many, s.keys.ok.0)

pub reserve_block-requires-2 : goal.reserve_block-requires-2
reserve_block-requires-2 g c =
    let s = c.self.inside in
    let even : length s.besides.items ≡ length s.keys.items = omega (arith, s.keys.ok.0, s.besides.ok.0, c.self.invariant) in
    let many = many_pairs s.keys.items s.besides.items c.args.self.now.items even (ap (λ v. v.items) c.self.view_is) in
    omega (arith, c.requires, many, s.keys.ok.0, c.self.invariant)
