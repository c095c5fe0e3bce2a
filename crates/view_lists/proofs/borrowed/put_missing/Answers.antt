use Rattle.std.proofs.Common.{◌≡◌, ◌∙◌, sym, ap, subst, OnOk}
use Rattle.std.specs.List.{list_any}
use Rattle.std.proofs.lemmas.Bool.{cond-true, cond-false}
use Rattle.graph_model.specs.Names.{same_name}
use Rattle.graph_model.specs.Props.{has_key, put_prop}
use Rattle.view_lists.specs.Borrowed.{props_borrowed}
use Rattle.view_lists.proofs.BorrowedProps.{has_key-borrowed}
use Rattle.view_lists.proofs.borrowed.put_missing.Goals as goal

pub returns-then-has_value : goal.returns-then-has_value
returns-then-has_value c =
    let key = c.args.key.now in
    let old = props_borrowed c.args.props.now.items in
    let there = has_key-borrowed key c.args.props.now.items ∙ (ap (list_any (λ p. same_name key p.key.now)) (sym c.as_slice.ensures.value) ∙ sym c.if-has_value.ensures) in
    sym (cond-true (has_key key old) old (put_prop (key, c.args.value.now) old) there)

pub returns : goal.returns
returns c =
    let key = c.args.key.now in
    let old = props_borrowed c.args.props.now.items in
    let lacks = has_key-borrowed key c.args.props.now.items ∙ (ap (list_any (λ p. same_name key p.key.now)) (sym c.as_slice.ensures.value) ∙ sym c.if-has_value.ensures) in
    subst (λ ps. OnOk c.put_value.result (props_borrowed c.put_value.new.props.items ≡ ps)) (sym (cond-false (has_key key old) old (put_prop (key, c.args.value.now) old) lacks)) c.put_value.ensures
