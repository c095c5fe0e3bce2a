use Rattle.std.proofs.Common.{◌+◌, ◌<◌, take, length, [], sym, ◌∙◌, ap, subst, arith}
use Rattle.std.proofs.lemmas.List.Quantifiers.{position-Some}
use Rattle.graph_model.specs.Names.{same_name}
use Rattle.view_trait.specs.Drawn.{Selects}
use Rattle.view_trait.specs.Numbered.{has_bit}
use Rattle.view_trait.proofs.Selected.{selects_none, selects_more, selects_same, no_bit, bit_set}
use Rattle.view_trait.proofs.ready_views.layer_bits.Goals.{in-Some, in_default}
use Rattle.view_trait.proofs.ready_views.layer_bits.Goals as goal

pub loop-i-init : goal.loop-i-init
loop-i-init c = selects_none c.args.store.now.layers (has_bit 0) no_bit

pub loop-i-preserved : goal.loop-i-preserved
loop-i-preserved c =
    let layers = c.args.store.now.layers in
    let names = c.args.names.now in
    let i = c.loop-i.i in
    let lt : i < length names = omega (arith, c.loop-i-test.true, c.len-i-end.ensures) in
    elim c.match-layer_of.branch [
      | in-Some w ↦
          let p = w.in-Some.layer in
          let place = sym w.in-Some.ensures.place in
          let r = position-Some (same_name c.item.result.now) layers p [] place in
          let few = c.store_facts.ensures.few_layers in
          let within : p < 64 = (let a = r.0 in omega (arith, a, few)) in
          selects_more layers names i c.item.result.now p (has_bit c.loop-i.bits) (has_bit c.match-layer_of.bits) c.store_facts.ensures.indexed.layer_names lt c.item.ensures place c.loop-i.invariant
          (λ n m. ap (λ b. has_bit b n) w.bits-is ∙ bit_set c.loop-i.bits p n within)
      | in_default w ↦ subst (λ b. Selects layers (take (i + 1) names) (has_bit b)) (sym w.bits-is) (selects_same layers names i c.item.result.now (has_bit c.loop-i.bits) lt c.item.ensures (sym w.in_default.ensures.place) c.loop-i.invariant)
    ]
