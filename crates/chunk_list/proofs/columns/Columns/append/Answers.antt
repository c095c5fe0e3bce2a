use Rattle.std.proofs.Common.{◌≡◌, ◌∙◌, ◌++◌, length, drop, ap, arith}
use Rattle.std.specs.List.{zip}
use Rattle.chunk_list.proofs.Pairing.{many_pairs, zip-append, zip-drop}
use Rattle.chunk_list.proofs.columns.Columns.append.Goals as goal

pub append_from-requires-clause-place : goal.append_from-requires-clause-place
append_from-requires-clause-place g c =
    let s = c.self.inside in
    let o = c.other.inside in
    let even : length s.besides.items ≡ length s.keys.items = omega (arith, s.keys.ok.0, s.besides.ok.0, c.self.invariant) in
    let even_other : length o.besides.items ≡ length o.keys.items = omega (arith, o.keys.ok.0, o.besides.ok.0, c.other.invariant) in
    let many = many_pairs o.keys.items o.besides.items c.args.other.now.items even_other (ap (λ v. v.items) c.other.view_is) in
    let spare = ap (λ v. v.spare) c.self.view_is in
    omega (arith, c.requires.place, many, ap length c.as_slice.ensures.value)

pub append_from-requires-clause-room : goal.append_from-requires-clause-room
append_from-requires-clause-room g c =
    let s = c.self.inside in
    let o = c.other.inside in
    let even : length s.besides.items ≡ length s.keys.items = omega (arith, s.keys.ok.0, s.besides.ok.0, c.self.invariant) in
    let even_other : length o.besides.items ≡ length o.keys.items = omega (arith, o.keys.ok.0, o.besides.ok.0, c.other.invariant) in
    let many = many_pairs o.keys.items o.besides.items c.args.other.now.items even_other (ap (λ v. v.items) c.other.view_is) in
    let spare = ap (λ v. v.spare) c.self.view_is in
    omega (arith, c.requires.room, many, ap length c.as_slice.ensures.value, spare, s.keys.ok)

pub append_from-requires-2-clause-place : goal.append_from-requires-2-clause-place
append_from-requires-2-clause-place g c =
    let s = c.self.inside in
    let o = c.other.inside in
    let even : length s.besides.items ≡ length s.keys.items = omega (arith, s.keys.ok.0, s.besides.ok.0, c.self.invariant) in
    let even_other : length o.besides.items ≡ length o.keys.items = omega (arith, o.keys.ok.0, o.besides.ok.0, c.other.invariant) in
    let many = many_pairs o.keys.items o.besides.items c.args.other.now.items even_other (ap (λ v. v.items) c.other.view_is) in
    let spare = ap (λ v. v.spare) c.self.view_is in
    omega (arith, c.requires.place, many, ap length c.as_slice-2.ensures.value, even_other)

pub append_from-requires-2-clause-room : goal.append_from-requires-2-clause-room
append_from-requires-2-clause-room g c =
    let s = c.self.inside in
    let o = c.other.inside in
    let even : length s.besides.items ≡ length s.keys.items = omega (arith, s.keys.ok.0, s.besides.ok.0, c.self.invariant) in
    let even_other : length o.besides.items ≡ length o.keys.items = omega (arith, o.keys.ok.0, o.besides.ok.0, c.other.invariant) in
    let many = many_pairs o.keys.items o.besides.items c.args.other.now.items even_other (ap (λ v. v.items) c.other.view_is) in
    let spare = ap (λ v. v.spare) c.self.view_is in
    omega (arith, c.requires.room, many, ap length c.as_slice-2.ensures.value, even_other, spare, s.besides.ok)

pub returns-clause-items : goal.returns-clause-items
returns-clause-items g c =
    let s = c.self.inside in
    let o = c.other.inside in
    let even : length s.besides.items ≡ length s.keys.items = omega (arith, s.keys.ok.0, s.besides.ok.0, c.self.invariant) in
    let even_other : length o.besides.items ≡ length o.keys.items = omega (arith, o.keys.ok.0, o.besides.ok.0, c.other.invariant) in
    let many = many_pairs o.keys.items o.besides.items c.args.other.now.items even_other (ap (λ v. v.items) c.other.view_is) in
    let spare = ap (λ v. v.spare) c.self.view_is in
    let from = c.args.from in
    ap (λ ks. zip ks c.append_from-2.new.items.items) (c.append_from.ensures.items ∙ ap (λ ks. s.keys.items ++ drop from ks) c.as_slice.ensures.value)
    ∙ (ap (λ vs. zip (s.keys.items ++ drop from o.keys.items) vs) (c.append_from-2.ensures.items ∙ ap (λ vs. s.besides.items ++ drop from vs) c.as_slice-2.ensures.value)
    ∙ (zip-append s.keys.items (drop from o.keys.items) s.besides.items (drop from o.besides.items) even
    ∙ (ap (λ ps. zip s.keys.items s.besides.items ++ ps) (zip-drop o.keys.items o.besides.items from even_other ∙ ap (λ v. drop from v.items) c.other.view_is)
    ∙ ap (λ v. v.items ++ drop from c.args.other.now.items) c.self.view_is)))

pub returns-clause-spare : goal.returns-clause-spare
returns-clause-spare g c =
    let s = c.self.inside in
    let o = c.other.inside in
    let even : length s.besides.items ≡ length s.keys.items = omega (arith, s.keys.ok.0, s.besides.ok.0, c.self.invariant) in
    let even_other : length o.besides.items ≡ length o.keys.items = omega (arith, o.keys.ok.0, o.besides.ok.0, c.other.invariant) in
    let many = many_pairs o.keys.items o.besides.items c.args.other.now.items even_other (ap (λ v. v.items) c.other.view_is) in
    let spare = ap (λ v. v.spare) c.self.view_is in
    omega (arith, c.requires.place, many, even_other, spare, ap length c.as_slice.ensures.value, ap length c.as_slice-2.ensures.value, c.append_from.ensures.len, c.append_from.ensures.capacity, c.append_from-2.ensures.len, c.append_from-2.ensures.capacity)
