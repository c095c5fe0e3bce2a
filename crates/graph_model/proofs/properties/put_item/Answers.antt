use Rattle.std.proofs.Common.{sym, ap, ◌∙◌, arith, not}
use Rattle.std.specs.List.{insert, position_or_len}
use Rattle.std.specs.Ordering.{is_lt}
use Rattle.std.proofs.lemmas.List.Sums.{prefix_len-le-length}
use Rattle.graph_model.specs.Names.{name_cmp}
use Rattle.graph_model.specs.Pairs.{pairs}
use Rattle.graph_model.proofs.PropItems.{put_item}
use Rattle.graph_model.proofs.properties.put_item.Goals as goal

pub insert-requires : goal.insert-requires
insert-requires c =
    let k = prefix_len-le-length (λ p. not (is_lt (name_cmp c.args.item.key p.key))) c.as_slice.result.now in
    omega (arith, c.as_slice.ensures.len)

pub returns-clause-ok : goal.returns-clause-ok
returns-clause-ok c =
    ap pairs c.in_ok-insert.ensures.items
    ∙ (ap (λ n. pairs (insert c.args.items.now.items n c.args.item)) (c.place_of-place.ensures ∙ ap (position_or_len (λ p. is_lt (name_cmp c.args.item.key p.key))) c.as_slice.ensures.value)
    ∙ sym (put_item c.args.item c.args.items.now.items))
