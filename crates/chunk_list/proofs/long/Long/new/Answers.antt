use Rattle.std.proofs.Common.{◌≡◌, ◌∙◌, ◌≤◌, ◌+◌, length, length-append, ap, sym, arith, subst}
use Rattle.std.proofs.lemmas.List.Edits.{length-insert}
use Rattle.std.proofs.lemmas.List.{length-map}
use Rattle.chunk_list.specs.Besides.{besides_of}
use Rattle.chunk_list.specs.Long.{AreBelow}
use Rattle.chunk_list.proofs.Lookups.{AreBelow-insert, looked_up-next}
use Rattle.chunk_list.proofs.long.Long.new.Goals as goal

pub loop-i-preserved : goal.loop-i-preserved
loop-i-preserved g c =
    let l = c.loop-i in
    let h = l.invariant in
    let le : l.i ≤ length l.places.items = omega (arith, h.places) in
    record {
      items = looked_up-next l.places.items c.put.new.self.items c.args.columns.now.items l.i c.key.result h.items h.places h.below (omega (arith, c.loop-i-test.true, c.len-i-end.ensures)) c.key.ensures c.put.ensures.items;
      places = ap length c.put.ensures.items ∙ (length-insert l.places.items l.i (c.key.result, l.i) le ∙ ap (λ n. n + 1) h.places);
      below = subst (AreBelow (l.i + 1)) (sym c.put.ensures.items) (AreBelow-insert l.i l.places.items l.i c.key.result le h.below);
      spare = omega (arith, h.spare, c.put.ensures.spare);
    }

pub invariant_of-result : goal.invariant_of-result
invariant_of-result g c =
    let l = c.loop-i in
    let items = c.args.columns.now.items in
    let besides = ap length c.give_besides.ensures.besides in
    let many : length c.give_besides.new.besides.items ≡ length items = omega (arith, besides, ap length c.in_ok-besides.ensures.items, length-append c.in_ok-besides.besides.items (besides_of items), length-map items (λ p. p.1)) in
    subst (AreBelow (length c.give_besides.new.besides.items)) (sym c.in_ok-parts.ensures.items) (λ j d lt. omega (arith, l.invariant.below j d lt, l.invariant.places, c.loop-i-test.false, c.len-i-end.ensures, l.auto.i-end, many))
