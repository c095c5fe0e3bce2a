use Rattle.std.proofs.Common.{arith, ap, ◌<◌, ◌/◌, length}
use Rattle.chunk_list.proofs.Joined.{read_at}
use Rattle.chunk_list.proofs.Sums.{sum_at, many}
use Rattle.chunk_list.proofs.places.Places.get.Goals as goal

pub index-requires : goal.index-requires
index-requires c =
    let s = c.self.inside in
    omega (arith, many s.groups.items s.own.items c.args.self.now.items (ap (λ v. v.items) c.self.view_is), c.requires, c.self.invariant.covered, s.groups.ok.0)

pub index-requires-2 : goal.index-requires-2
index-requires-2 c =
    let s = c.self.inside in
    omega (arith, many s.groups.items s.own.items c.args.self.now.items (ap (λ v. v.items) c.self.view_is), c.requires, s.own.ok.0)

pub overflow_add-result : goal.overflow_add-result
overflow_add-result c =
    let s = c.self.inside in
    let lt : c.args.k < length s.own.items = omega (arith, many s.groups.items s.own.items c.args.self.now.items (ap (λ v. v.items) c.self.view_is), c.requires) in
    let group = read_at s.groups.items (c.args.k / 64) c.index.result.now 0 (omega (arith, c.self.invariant.covered)) c.index.ensures in
    let own = read_at s.own.items c.args.k c.index-2.result.now 0 lt c.index-2.ensures in
    record { fits = omega (arith, group, own, c.self.invariant.fits c.args.k lt) }

pub returns : goal.returns
returns c =
    let s = c.self.inside in
    let lt : c.args.k < length s.own.items = omega (arith, many s.groups.items s.own.items c.args.self.now.items (ap (λ v. v.items) c.self.view_is), c.requires) in
    let group = read_at s.groups.items (c.args.k / 64) c.index.result.now 0 (omega (arith, c.self.invariant.covered)) c.index.ensures in
    let own = read_at s.own.items c.args.k c.index-2.result.now 0 lt c.index-2.ensures in
    omega (arith, group, own, sum_at s.groups.items s.own.items c.args.self.now.items c.args.k (ap (λ v. v.items) c.self.view_is) lt)
