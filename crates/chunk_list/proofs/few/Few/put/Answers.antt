use Rattle.std.proofs.Common.{◌<◌, ◌∙◌, ap, arith}
use Rattle.std.specs.Prelude.{None, vec_len, vec_capacity}
use Rattle.std.specs.List.{last_or}
use Rattle.std.specs.Map.{keys_of}
use Rattle.chunk_list.proofs.Joined.{where_ok}
use Rattle.chunk_list.proofs.Lasts.{last-push, last-insert}
use Rattle.chunk_list.proofs.few.Few.put.Goals as goal

pub invariant_of-self : goal.invariant_of-self
invariant_of-self g c =
    let s = c.self.inside in
    let room : vec_len s.items < vec_capacity s.items = omega (arith, c.requires.room, ap (λ v. v.spare) c.self.view_is) in
    let items = where_ok c.insert.result _ _ _ (c.insert.ensures.succeeds room) c.insert.ensures.items in
    ap (λ ps. last_or None (keys_of ps)) items
    ∙ (last-insert None s.items.items c.args.i c.args.item (omega (arith, c.if-i-len.true, c.len.ensures, s.items.ok.0)) ∙ c.self.invariant)

pub invariant_of-self-2 : goal.invariant_of-self-2
invariant_of-self-2 g c =
    let s = c.self.inside in
    ap (λ ps. last_or None (keys_of ps)) c.push_reserved.ensures.items ∙ last-push None s.items.items c.args.item
