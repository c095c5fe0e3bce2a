use Rattle.std.proofs.Common.{◌≡◌, ◌∙◌, ◌<◌, ◌≤◌, ◌++◌, [], ◌∷◌, length, ap, arith}
use Rattle.std.specs.Prelude.{vec_len, vec_capacity}
use Rattle.std.specs.List.{insert}
use Rattle.chunk_list.specs.Long.{looked_up}
use Rattle.chunk_list.proofs.Joined.{where_ok}
use Rattle.chunk_list.proofs.Lookups.{length-looked_up, looked_up-insert}
use Rattle.chunk_list.proofs.long.Long.put.Goals as goal

pub returns-clause-items : goal.returns-clause-items
returns-clause-items g c =
    let s = c.self.inside in
    let vs = s.besides.items in
    let ps = s.parts.items in
    let items = ap (λ v. v.items) c.self.view_is in
    let room : vec_len s.besides < vec_capacity s.besides = omega (arith, c.requires.room, ap (λ v. v.spare) c.self.view_is) in
    let besides = where_ok c.push.result _ _ _ (c.push.ensures.succeeds room) c.push.ensures.items in
    let le : c.args.i ≤ length ps = omega (arith, c.requires.place, ap length items, length-looked_up vs ps c.self.invariant) in
    let next : c.len-place.result ≡ length vs = omega (arith, c.len-place.ensures, s.besides.ok.0) in
    let item = c.args.item in
    ap (λ xs. looked_up xs c.put.new.self.items) besides
    ∙ (ap (λ xs. looked_up (vs ++ item.1 ∷ []) xs) (c.put.ensures.items ∙ ap (λ n. insert ps c.args.i (item.0, n)) next)
    ∙ (looked_up-insert vs ps c.args.i item.0 item.1 c.self.invariant le ∙ ap (λ xs. insert xs c.args.i item) items))
