use Rattle.std.proofs.Common.{◌≡◌, ◌∙◌, length, take, ap, arith}
use Rattle.std.specs.List.{zip}
use Rattle.chunk_list.proofs.Pairing.{many_pairs, zip-take}
use Rattle.chunk_list.proofs.columns.Columns.truncate.Goals as goal

pub returns-clause-items : goal.returns-clause-items
returns-clause-items g c =
    let s = c.self.inside in
    let even : length s.besides.items ≡ length s.keys.items = omega (arith, s.keys.ok.0, s.besides.ok.0, c.self.invariant) in
    let many = many_pairs s.keys.items s.besides.items c.args.self.now.items even (ap (λ v. v.items) c.self.view_is) in
    ap (λ ks. zip ks c.truncate-2.new.self.items) c.truncate.ensures.items
    ∙ (ap (λ vs. zip (take c.args.to s.keys.items) vs) c.truncate-2.ensures.items
    ∙ (zip-take s.keys.items s.besides.items c.args.to even ∙ ap (λ v. take c.args.to v.items) c.self.view_is))

pub returns-clause-spare : goal.returns-clause-spare
returns-clause-spare g c =
    let s = c.self.inside in
    let even : length s.besides.items ≡ length s.keys.items = omega (arith, s.keys.ok.0, s.besides.ok.0, c.self.invariant) in
    let many = many_pairs s.keys.items s.besides.items c.args.self.now.items even (ap (λ v. v.items) c.self.view_is) in
    omega (arith, many, ap (λ v. v.spare) c.self.view_is, c.requires, c.self.invariant, s.keys.ok.0, s.besides.ok.0, c.truncate.ensures.len, c.truncate.ensures.capacity, c.truncate-2.ensures.len, c.truncate-2.ensures.capacity)
