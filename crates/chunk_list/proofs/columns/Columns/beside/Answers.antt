use Rattle.std.proofs.Common.{◌≡◌, length, ap, arith}
use Rattle.chunk_list.proofs.Pairing.{many_pairs, beside_at}
use Rattle.chunk_list.proofs.columns.Columns.beside.Goals as goal

pub index-requires : goal.index-requires
index-requires g c =
    let s = c.self.inside in
    let even : length s.besides.items ≡ length s.keys.items = omega (arith, s.keys.ok.0, s.besides.ok.0, c.self.invariant) in
    let many = many_pairs s.keys.items s.besides.items c.args.self.now.items even (ap (λ v. v.items) c.self.view_is) in
    omega (arith, c.requires, many, s.keys.ok.0, c.self.invariant)

pub returns : goal.returns
returns g c =
    let s = c.self.inside in
    let even : length s.besides.items ≡ length s.keys.items = omega (arith, s.keys.ok.0, s.besides.ok.0, c.self.invariant) in
    beside_at s.keys.items s.besides.items c.args.self.now.items c.args.i c.index.result.now even (ap (λ v. v.items) c.self.view_is) c.index.ensures
