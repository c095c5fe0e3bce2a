use Rattle.std.proofs.Common.{sym, ap, ◌∙◌, arith, not}
use Rattle.std.specs.List.{insert, position_or_len}
use Rattle.std.specs.Ordering.{is_lt}
use Rattle.std.proofs.lemmas.List.Sums.{prefix_len-le-length}
use Rattle.graph_model.specs.Names.{name_cmp}
use Rattle.view_lists.specs.declared.borrowed.Property.{Property}
use Rattle.view_lists.specs.Borrowed.{props_borrowed}
use Rattle.view_lists.proofs.BorrowedProps.{put_borrowed}
use Rattle.view_lists.proofs.borrowed.put_value.Goals as goal

pub insert-requires : goal.insert-requires
insert-requires c =
    let k = prefix_len-le-length (λ p. not (is_lt (name_cmp c.args.key.now p.key.now))) c.as_slice.result.now in
    omega (arith, c.as_slice.ensures.len)

pub returns : goal.returns
returns c =
    let x : Property = record { key = c.args.key; value = c.args.value } in
    ap props_borrowed c.in_ok-insert.ensures.items
    ∙ (ap (λ n. props_borrowed (insert c.args.props.now.items n x)) (c.place_of-place.ensures ∙ ap (position_or_len (λ p. is_lt (name_cmp c.args.key.now p.key.now))) c.as_slice.ensures.value)
    ∙ sym (put_borrowed x c.args.props.now.items))
