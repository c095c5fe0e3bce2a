use Rattle.std.proofs.Common.{◌≡◌, length, sym, ap, ◌∙◌, arith, not}
use Rattle.std.specs.Prelude.{nat_lt}
use Rattle.std.specs.List.{insert, position_or_len}
use Rattle.std.proofs.lemmas.List.Sums.{prefix_len-le-length}
use Rattle.graph_store.specs.Numbered.{pairs_in}
use Rattle.graph_store.proofs.NumberLaws.{put_item}
use Rattle.graph_store.proofs.numbered.put.Goals as goal

pub insert-requires : goal.insert-requires
insert-requires c =
    let k = prefix_len-le-length (λ p. not (nat_lt c.args.item.key p.key)) c.as_slice.result.now in
    let e : length c.as_slice.result.now ≡ length c.args.items.now.items = ap length c.as_slice.ensures in
    omega (arith, k, e, c.place_of-place.ensures)

pub returns-clause-ok : goal.returns-clause-ok
returns-clause-ok c =
    ap pairs_in c.in_ok-insert.ensures.ok
    ∙ (ap (λ n. pairs_in (insert c.args.items.now.items n c.args.item)) (c.place_of-place.ensures ∙ ap (position_or_len (λ p. nat_lt c.args.item.key p.key)) c.as_slice.ensures)
    ∙ sym (put_item c.args.item c.args.items.now.items))
