use Rattle.std.proofs.Common.{◌≡◌, ◌∙◌, ◌++◌, ◌+◌, ◌≤◌, length, ap, arith}
use Rattle.std.specs.Prelude.{vec_len, vec_capacity}
use Rattle.chunk_list.proofs.Joined.{where_ok}
use Rattle.chunk_list.proofs.Pairing.{many_pairs, all_besides}
use Rattle.chunk_list.proofs.columns.Columns.give_besides.Goals as goal

pub invariant_of-self : goal.invariant_of-self
invariant_of-self g c =
    let s = c.self.inside in
    let even : length s.besides.items ≡ length s.keys.items = omega (arith, s.keys.ok.0, s.besides.ok.0, c.self.invariant) in
    let many = many_pairs s.keys.items s.besides.items c.args.self.now.items even (ap (λ v. v.items) c.self.view_is) in
    let room : vec_len c.args.besides.now + vec_len s.besides ≤ vec_capacity c.args.besides.now = omega (arith, c.requires, many, even, s.besides.ok.0) in
    let none = where_ok c.append.result _ _ _ (c.append.ensures.succeeds room) c.append.ensures.other_len in
    omega (arith, none, c.truncate.ensures.len)

pub returns-clause-besides : goal.returns-clause-besides
returns-clause-besides g c =
    let s = c.self.inside in
    let items = ap (λ v. v.items) c.self.view_is in
    let even : length s.besides.items ≡ length s.keys.items = omega (arith, s.keys.ok.0, s.besides.ok.0, c.self.invariant) in
    let many = many_pairs s.keys.items s.besides.items c.args.self.now.items even items in
    let room : vec_len c.args.besides.now + vec_len s.besides ≤ vec_capacity c.args.besides.now = omega (arith, c.requires, many, even, s.besides.ok.0) in
    where_ok c.append.result _ _ _ (c.append.ensures.succeeds room) c.append.ensures.items
    ∙ ap (λ vs. c.args.besides.now.items ++ vs) (all_besides s.keys.items s.besides.items c.args.self.now.items even items)
