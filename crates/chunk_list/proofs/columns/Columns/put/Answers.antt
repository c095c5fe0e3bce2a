use Rattle.std.proofs.Common.{◌≡◌, ◌<◌, ◌∙◌, length, ap, arith}
use Rattle.std.specs.Prelude.{vec_len, vec_capacity}
use Rattle.std.specs.List.{insert, zip}
use Rattle.chunk_list.proofs.Joined.{where_ok}
use Rattle.chunk_list.proofs.Pairing.{many_pairs, zip-insert}
use Rattle.chunk_list.proofs.columns.Columns.put.Goals as goal

pub insert-requires : goal.insert-requires
insert-requires g c =
    let s = c.self.inside in
    let even : length s.besides.items ≡ length s.keys.items = omega (arith, s.keys.ok.0, s.besides.ok.0, c.self.invariant) in
    let many = many_pairs s.keys.items s.besides.items c.args.self.now.items even (ap (λ v. v.items) c.self.view_is) in
    omega (arith, c.requires.place, many, s.keys.ok.0)

pub insert-requires-2 : goal.insert-requires-2
insert-requires-2 g c =
    let s = c.self.inside in
    let even : length s.besides.items ≡ length s.keys.items = omega (arith, s.keys.ok.0, s.besides.ok.0, c.self.invariant) in
    let many = many_pairs s.keys.items s.besides.items c.args.self.now.items even (ap (λ v. v.items) c.self.view_is) in
    omega (arith, c.requires.place, many, s.keys.ok.0, c.self.invariant)

pub returns-clause-items : goal.returns-clause-items
returns-clause-items g c =
    let s = c.self.inside in
    let even : length s.besides.items ≡ length s.keys.items = omega (arith, s.keys.ok.0, s.besides.ok.0, c.self.invariant) in
    let many = many_pairs s.keys.items s.besides.items c.args.self.now.items even (ap (λ v. v.items) c.self.view_is) in
    let items = ap (λ v. v.items) c.self.view_is in
    let spare = ap (λ v. v.spare) c.self.view_is in
    let room_keys : vec_len s.keys < vec_capacity s.keys = omega (arith, c.requires.room, spare) in
    let room_besides : vec_len s.besides < vec_capacity s.besides = omega (arith, c.requires.room, spare) in
    let keys = where_ok c.insert.result _ _ _ (c.insert.ensures.succeeds room_keys) c.insert.ensures.items in
    let besides = where_ok c.insert-2.result _ _ _ (c.insert-2.ensures.succeeds room_besides) c.insert-2.ensures.items in
    let item = c.args.item in
    ap (λ ks. zip ks c.insert-2.new.self.items) keys
    ∙ (ap (λ vs. zip (insert s.keys.items c.args.i item.0) vs) besides
    ∙ (zip-insert s.keys.items s.besides.items c.args.i item.0 item.1 even (omega (arith, c.requires.place, many)) ∙ ap (λ ps. insert ps c.args.i item) items))
