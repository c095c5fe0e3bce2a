use Rattle.std.proofs.Common.{◌≡◌, ◌∙◌, ◌++◌, [], ◌∷◌, ap, arith, get_or, sym}
use Rattle.std.proofs.lemmas.List.FromFn.{map-range_with_len_more}
use Rattle.std.proofs.lemmas.Option.{get_or_from_slice_get}
use Rattle.walk_algorithms.specs.Parts.{part_at}
use Rattle.walk_algorithms.proofs.labels.parts_of.Goals as goal

pub loop-i-preserved : goal.loop-i-preserved
loop-i-preserved c =
    let nodes = c.args.nodes.now in
    let sets = c.args.sets.now in
    let i = c.loop-i.i in
    let least : c.least-least.result ≡ get_or sets i 0 = sym (ap (λ s. get_or s i 0) (sym c.loop-i.invariant.same) ∙ get_or_from_slice_get c.loop-i.sets i c.least-least.result 0 c.least-least.ensures.least) in
    let node : c.item.result.0 ≡ get_or nodes i 0 = sym (get_or_from_slice_get nodes i c.item.result.0 0 c.item.ensures) in
    let label : c.item-in-loop-i.result.0 ≡ get_or nodes (get_or sets i 0) 0 = sym (get_or_from_slice_get nodes c.least-least.result c.item-in-loop-i.result.0 0 c.item-in-loop-i.ensures) ∙ ap (λ k. get_or nodes k 0) least in
    let part : (record { node = c.item.result; label = c.item-in-loop-i.result }) ≡ part_at nodes sets i = λ k. record { node = record { 0 = node k }; label = record { 0 = label k } } in
    record {
      same = c.least-least.ensures.same ∙ c.loop-i.invariant.same;
      rows = c.in_ok-push.ensures.items ∙ ((λ k. c.loop-i.invariant.rows k ++ part k ∷ []) ∙ sym (map-range_with_len_more (part_at nodes sets) 0 i i (omega arith)));
    }
