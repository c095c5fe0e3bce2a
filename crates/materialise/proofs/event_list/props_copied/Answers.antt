use Rattle.std.proofs.Common.{◌≡◌, ◌-◌, ◌<◌, ℕ, List, length, map, get_or, ap, sym, ◌∙◌, arith}
use Rattle.std.proofs.lemmas.List.{get_or-map, length-map}
use Rattle.graph_model.specs.declared.properties.Value.{Value}
use Rattle.view_lists.specs.declared.borrowed.Property.{Property}
use Rattle.view_lists.specs.Borrowed.{props_borrowed}
use Rattle.view_lists.proofs.BorrowedProps.{copied_more}
use Rattle.materialise.proofs.event_list.props_copied.Goals as goal

pub loop-i-preserved : goal.loop-i-preserved
loop-i-preserved c =
    let ps = c.args.props.now in
    let i = c.loop-i.i in
    let x = c.index-props-i.result in
    let f : Property → List ℕ × Value = λ p. (p.key.now, p.value.now) in
    let some = c.loop-i-test.true in
    let within = c.loop-i.invariant.within in
    let count = length-map ps f in
    let lt : i - 1 < length ps = omega (arith, some, within) in
    let is : f x ≡ get_or (map f ps) (i - 1) (f x) = ap f c.index-props-i.is ∙ sym (get_or-map f ps (i - 1) x (f x) lt) in
    record {
      within = omega (arith, some, within);
      copied = copied_more (props_borrowed ps) i (f x) c.loop-i.copied c.put_copy.new.props c.requires some (omega (arith, count, within)) is c.loop-i.invariant.copied c.in_ok-put_copy.ensures;
    }
