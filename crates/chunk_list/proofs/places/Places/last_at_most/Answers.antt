use Rattle.std.proofs.Common.{arith, ap, ◌≡◌, ◌<◌, ◌≤◌, ◌*◌, ◌+◌, length, get_or}
use Rattle.chunk_list.proofs.Joined.{read_at}
use Rattle.chunk_list.proofs.Sums.{sum_at, many, located_here, located_next}
use Rattle.chunk_list.proofs.places.Places.last_at_most.Goals as goal

pub last_at_most-requires-clause-first : goal.last_at_most-requires-clause-first
last_at_most-requires-clause-first c =
    let s = c.self.inside in
    let gs = s.groups.items in
    let ns = s.own.items in
    let xs = c.args.self.now.items in
    let e = ap (λ v. v.items) c.self.view_is in
    let a = c.self.invariant in
    let gsame = c.as_slice.ensures.value in
    let nsame = c.as_slice-2.ensures.value in
    let f = c.last_at_most-group.ensures in
    let g = c.last_at_most-group.result in
    let in_groups : g < length gs = omega (arith, f.to, c.len.ensures, s.groups.ok.0) in
    let low : get_or gs g 0 ≤ c.args.i = omega (arith, f.here, ap (λ ys. get_or ys g 0) gsame) in
    let base = read_at gs g c.index.result.now 0 in_groups c.index.ensures in
    let turned : g * 64 ≡ 64 * g = omega arith in
    omega (arith, ap (λ ys. get_or ys (g * 64) 0) nsame, ap (λ i. get_or ns i 0) turned, a.zero g in_groups)

pub returns-clause-within : goal.returns-clause-within
returns-clause-within c =
    let s = c.self.inside in
    let gs = s.groups.items in
    let ns = s.own.items in
    let xs = c.args.self.now.items in
    let e = ap (λ v. v.items) c.self.view_is in
    let a = c.self.invariant in
    let gsame = c.as_slice.ensures.value in
    let nsame = c.as_slice-2.ensures.value in
    let f = c.last_at_most-group.ensures in
    let g = c.last_at_most-group.result in
    let in_groups : g < length gs = omega (arith, f.to, c.len.ensures, s.groups.ok.0) in
    let low : get_or gs g 0 ≤ c.args.i = omega (arith, f.here, ap (λ ys. get_or ys g 0) gsame) in
    let base = read_at gs g c.index.result.now 0 in_groups c.index.ensures in
    let r = c.last_at_most.result in
    let h = c.last_at_most.ensures in
    let to = c.min.ensures in
    let len = c.len-2.ensures in
    omega (arith, h.to, to, len, many gs ns xs e, s.own.ok.0, a.begun g in_groups)

pub returns-clause-here : goal.returns-clause-here
returns-clause-here c =
    let s = c.self.inside in
    let gs = s.groups.items in
    let ns = s.own.items in
    let xs = c.args.self.now.items in
    let e = ap (λ v. v.items) c.self.view_is in
    let a = c.self.invariant in
    let gsame = c.as_slice.ensures.value in
    let nsame = c.as_slice-2.ensures.value in
    let f = c.last_at_most-group.ensures in
    let g = c.last_at_most-group.result in
    let in_groups : g < length gs = omega (arith, f.to, c.len.ensures, s.groups.ok.0) in
    let low : get_or gs g 0 ≤ c.args.i = omega (arith, f.here, ap (λ ys. get_or ys g 0) gsame) in
    let base = read_at gs g c.index.result.now 0 in_groups c.index.ensures in
    let r = c.last_at_most.result in
    let h = c.last_at_most.ensures in
    let to = c.min.ensures in
    let len = c.len-2.ensures in
    let in_own : r < length ns = omega (arith, h.to, to, len, s.own.ok.0, a.begun g in_groups) in
    omega (arith, sum_at gs ns xs r e in_own, located_here gs ns g r c.args.i h.from (omega (arith, h.to, to)) low (omega (arith, h.here, base, ap (λ ys. get_or ys r 0) nsame)))

pub returns-clause-next : goal.returns-clause-next
returns-clause-next c = λ lt.
    let s = c.self.inside in
    let gs = s.groups.items in
    let ns = s.own.items in
    let xs = c.args.self.now.items in
    let e = ap (λ v. v.items) c.self.view_is in
    let a = c.self.invariant in
    let gsame = c.as_slice.ensures.value in
    let nsame = c.as_slice-2.ensures.value in
    let f = c.last_at_most-group.ensures in
    let g = c.last_at_most-group.result in
    let in_groups : g < length gs = omega (arith, f.to, c.len.ensures, s.groups.ok.0) in
    let low : get_or gs g 0 ≤ c.args.i = omega (arith, f.here, ap (λ ys. get_or ys g 0) gsame) in
    let base = read_at gs g c.index.result.now 0 in_groups c.index.ensures in
    let r = c.last_at_most.result in
    let h = c.last_at_most.ensures in
    let to = c.min.ensures in
    let len = c.len-2.ensures in
    let in_own : r + 1 < length ns = omega (arith, lt, many gs ns xs e) in
    omega (
      arith,
      sum_at gs ns xs (r + 1) e in_own,
      located_next gs ns g r c.args.i (g * 64 + c.min.result) a (omega (arith, to, len, s.own.ok.0)) h.from h.to
          (λ m. omega (arith, h.next m, base, ap (λ ys. get_or ys (r + 1) 0) nsame)) (λ m. omega (arith, f.next (omega (arith, m, c.len.ensures, s.groups.ok.0)), ap (λ ys. get_or ys (g + 1) 0) gsame)) in_own,
    )
