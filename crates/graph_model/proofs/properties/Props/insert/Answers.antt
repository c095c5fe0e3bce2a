use Rattle.std.proofs.Common.{◌≡◌, false, length, sym, ap, subst, ◌∙◌, arith}
use Rattle.graph_model.specs.Pairs.{pairs}
use Rattle.graph_model.specs.Props.{has_key, put_prop, KeysRise}
use Rattle.graph_model.proofs.PropItems.{KeysRise-put, length-put_prop, length-pairs}
use Rattle.graph_model.proofs.properties.Props.insert.Goals as goal

pub invariant_of-self-2 : goal.invariant_of-self-2
invariant_of-self-2 c =
    let old = c.self.inside.items.items in
    let new = c.put_item.new.items.items in
    let put : pairs new ≡ put_prop (c.args.key, c.args.value) (pairs old) = c.in_ok-put_item.ensures.ok in
    let free : has_key c.args.key (pairs old) ≡ false = ap (has_key c.args.key) c.self.view_is ∙ (sym c.has.ensures ∙ c.if-has.false) in
    let e : length (pairs new) ≡ length (put_prop (c.args.key, c.args.value) (pairs old)) = ap length put in (
      omega (arith, e, length-put_prop (c.args.key, c.args.value) (pairs old), length-pairs old, length-pairs new, c.put_item.new.items.ok.0, c.self.inside.items.ok.0, c.self.invariant.0),
      subst KeysRise (sym put) (KeysRise-put (c.args.key, c.args.value) (pairs old) free c.self.invariant.1),
    )
