use Rattle.std.proofs.Common.{◌≡◌, ◌∙◌, ◌<◌, ℕ, List, length, sym, ap, arith}
use Rattle.std.specs.Prelude.{slice_get, slice_index_or, map}
use Rattle.std.proofs.lemmas.List.{length-map, get_or_default}
use Rattle.graph_model.specs.declared.properties.Value.{Value}
use Rattle.time_history.specs.Pairs.{pairs_of}
use Rattle.time_history.proofs.Keys.{value_item}
use Rattle.time_history.proofs.updates.KeyValues.value_at.Goals as goal

pub returns : goal.returns
returns c =
    let items = c.items.result.now in
    let many : length (pairs_of items) ≡ length items = length-map _ _ in
    let lt : c.args.i < length items = omega (arith, c.requires, ap length c.items.ensures.pairs, many) in
    let found = slice_index_or items c.args.i c.index-items-i.result in
    ap (λ (ps : List (ℕ × Value)). slice_get (map (λ (p : ℕ × Value). p.1) ps) c.args.i) (sym c.items.ensures.pairs) ∙ value_item items c.args.i found lt (get_or_default items c.args.i c.index-items-i.result found lt)
