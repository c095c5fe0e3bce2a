use Rattle.std.proofs.Common.{◌≡◌, ◌∙◌, ◌+◌, ◌<◌, length, get_or, sym, ap, arith}
use Rattle.std.specs.Prelude.{slice_range}
use Rattle.std.proofs.lemmas.List.{get_or_default}
use Rattle.present_links.specs.Adjacent.{AdjacentNodes, row_at}
use Rattle.present_links.proofs.OffsetParts.{length-parts, part_at}
use Rattle.present_links.proofs.adjacency.Adjacent.neighbours.Goals as goal

pub index-requires : goal.index-requires
index-requires c =
    let rows = ap (λ (a : AdjacentNodes). length a.rows) c.self.view_is in
    let long = length-parts c.self.inside.others.items c.self.inside.starts.items (length c.self.inside.nodes.items) c.self.invariant.count in
    omega (arith, c.requires, rows, long, c.self.invariant.count, c.self.inside.starts.ok.0)

pub overflow_add-place : goal.overflow_add-place
overflow_add-place c =
    let rows = ap (λ (a : AdjacentNodes). length a.rows) c.self.view_is in
    let long = length-parts c.self.inside.others.items c.self.inside.starts.items (length c.self.inside.nodes.items) c.self.invariant.count in
    omega (arith, c.requires, rows, long, c.self.invariant.count, c.self.inside.starts.ok.0, c.self.inside.starts.ok.1, c.self.inside.starts.small)

pub index-requires-2 : goal.index-requires-2
index-requires-2 c =
    let rows = ap (λ (a : AdjacentNodes). length a.rows) c.self.view_is in
    let long = length-parts c.self.inside.others.items c.self.inside.starts.items (length c.self.inside.nodes.items) c.self.invariant.count in
    omega (arith, c.requires, rows, long, c.self.invariant.count, c.self.inside.starts.ok.0)

pub part-requires-clause-order : goal.part-requires-clause-order
part-requires-clause-order c =
    let lt : c.args.place < length c.self.inside.nodes.items = (
    let rows = ap (λ (a : AdjacentNodes). length a.rows) c.self.view_is in
    let long = length-parts c.self.inside.others.items c.self.inside.starts.items (length c.self.inside.nodes.items) c.self.invariant.count in
    omega (arith, c.requires, rows, long)
    ) in
    let from : c.index.result.now ≡ get_or c.self.inside.starts.items c.args.place 0 =
    c.index.ensures ∙ get_or_default c.self.inside.starts.items c.args.place c.index.result.now 0 (omega (arith, lt, c.self.invariant.count)) in
    let to : c.index-2.result.now ≡ get_or c.self.inside.starts.items (c.args.place + 1) 0 =
    c.index-2.ensures ∙ get_or_default c.self.inside.starts.items (c.args.place + 1) c.index-2.result.now 0 (omega (arith, lt, c.self.invariant.count)) in
    omega (arith, from, to, c.self.invariant.upward c.args.place lt)

pub part-requires-clause-within : goal.part-requires-clause-within
part-requires-clause-within c =
    let below : c.args.place + 1 < length c.self.inside.starts.items = (
    let rows = ap (λ (a : AdjacentNodes). length a.rows) c.self.view_is in
    let long = length-parts c.self.inside.others.items c.self.inside.starts.items (length c.self.inside.nodes.items) c.self.invariant.count in
    omega (arith, c.requires, rows, long, c.self.invariant.count)
    ) in
    let to : c.index-2.result.now ≡ get_or c.self.inside.starts.items (c.args.place + 1) 0 =
    c.index-2.ensures ∙ get_or_default c.self.inside.starts.items (c.args.place + 1) c.index-2.result.now 0 below in
    omega (arith, to, c.self.invariant.inside (c.args.place + 1) below, ap length c.as_slice.ensures.value)

pub returns : goal.returns
returns c =
    let lt : c.args.place < length c.self.inside.nodes.items = (
    let rows = ap (λ (a : AdjacentNodes). length a.rows) c.self.view_is in
    let long = length-parts c.self.inside.others.items c.self.inside.starts.items (length c.self.inside.nodes.items) c.self.invariant.count in
    omega (arith, c.requires, rows, long)
    ) in
    let from : c.index.result.now ≡ get_or c.self.inside.starts.items c.args.place 0 =
    c.index.ensures ∙ get_or_default c.self.inside.starts.items c.args.place c.index.result.now 0 (omega (arith, lt, c.self.invariant.count)) in
    let to : c.index-2.result.now ≡ get_or c.self.inside.starts.items (c.args.place + 1) 0 =
    c.index-2.ensures ∙ get_or_default c.self.inside.starts.items (c.args.place + 1) c.index-2.result.now 0 (omega (arith, lt, c.self.invariant.count)) in
    c.part.ensures
    ∙ ((λ i. slice_range (c.as_slice.ensures.value i) (from i) (to i))
    ∙ (sym (part_at c.self.inside.others.items c.self.inside.starts.items (length c.self.inside.nodes.items) c.args.place c.self.invariant.count lt)
    ∙ ap (λ (a : AdjacentNodes). row_at a.rows c.args.place) c.self.view_is))
