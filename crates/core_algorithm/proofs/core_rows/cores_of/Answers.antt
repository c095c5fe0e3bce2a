use Rattle.std.proofs.Common.{◌≡◌, ◌<◌, ◌∙◌, ◌∷◌, ◌++◌, [], ap, arith, get_or, length, map, subst, sym}
use Rattle.std.specs.List.{All}
use Rattle.std.proofs.lemmas.List.{map-append, take_more}
use Rattle.std.proofs.lemmas.List.Elements.{All-push}
use Rattle.std.proofs.lemmas.Option.{get_or_from_slice_get}
use Rattle.core_algorithm.specs.declared.core_rows.Core.{Core}
use Rattle.core_algorithm.specs.Cores.{IsNumberIn}
use Rattle.core_algorithm.proofs.core_rows.cores_of.Goals as goal

pub loop-i-preserved : goal.loop-i-preserved
loop-i-preserved c =
    let i = c.loop-i.i in
    let below : i < length c.args.nodes.now = (let lt = c.loop-i-test.true in let long = c.len-i-end.ensures in omega (arith, lt, long)) in
    let here : get_or c.args.nodes.now i 0 ≡ c.item-node.result.0 = get_or_from_slice_get c.args.nodes.now i c.item-node.result.0 0 c.item-node.ensures in
    let core : Core = record { node = c.item-node.result; number = c.number_of-number.result } in
    record {
      nodes =
          ap (map (λ (k : Core). k.node.0)) c.in_ok-push.ensures.items
          ∙ (map-append (λ (k : Core). k.node.0) c.loop-i.cores.items (core ∷ [])
          ∙ ((λ k. c.loop-i.invariant.nodes k ++ sym here k ∷ []) ∙ sym (take_more c.args.nodes.now i 0 below)));
      numbers =
          subst (All (λ (k : Core). IsNumberIn c.args.adjacent.now c.args.numbers.now k.node.0 k.number)) (sym c.in_ok-push.ensures.items)
          (All-push (λ (k : Core). IsNumberIn c.args.adjacent.now c.args.numbers.now k.node.0 k.number) c.loop-i.cores.items core c.loop-i.invariant.numbers c.number_of-number.ensures);
    }
