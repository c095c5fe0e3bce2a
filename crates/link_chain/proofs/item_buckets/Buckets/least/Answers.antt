use Rattle.std.proofs.Common.{◌<◌, length, ap, subst, arith}
use Rattle.std.proofs.lemmas.List.{get_or_read}
use Rattle.link_chain.specs.Indexes.{nowhere}
use Rattle.link_chain.specs.FirstsAndPlaces.{AreBuckets}
use Rattle.link_chain.proofs.BucketResults.{all_empty, empty_at, first_is, least_in, once_is}
use Rattle.link_chain.proofs.item_buckets.Buckets.least.Goals as goal

pub returns-then-self-len-clause-item : goal.returns-then-self-len-clause-item
returns-then-self-len-clause-item c =
    let s = c.self.inside in
    let e = ap (λ v. v.lists) c.self.view_is in
    let lt : s.low < length s.firsts.items = omega (arith, c.if-self-len.true, c.len.ensures, s.firsts.ok.0) in
    omega (
      arith,
      least_in s.firsts.items s.places.items c.args.self.now.lists s.low e c.self.invariant.buckets c.self.invariant.least lt,
      get_or_read s.firsts.items s.low c.index.result.now lt c.index.ensures nowhere,
      ap (λ v. v.items) c.self.view_is,
    )

pub returns-then-self-len-clause-bucket : goal.returns-then-self-len-clause-bucket
returns-then-self-len-clause-bucket c =
    let s = c.self.inside in
    let here : AreBuckets s.firsts.items s.places.items c.args.self.now.lists = subst (AreBuckets s.firsts.items s.places.items) (ap (λ v. v.lists) c.self.view_is) c.self.invariant.buckets in
    omega (arith, c.if-self-len.true, c.len.ensures, s.firsts.ok.0, here.same)

pub returns-then-self-len-clause-lower : goal.returns-then-self-len-clause-lower
returns-then-self-len-clause-lower c =
    let s = c.self.inside in
    λ b lt. empty_at s.firsts.items s.places.items c.args.self.now.lists b (ap (λ v. v.lists) c.self.view_is) c.self.invariant.buckets (c.self.invariant.least.below b lt)

pub returns-then-self-len-clause-once : goal.returns-then-self-len-clause-once
returns-then-self-len-clause-once c =
    let s = c.self.inside in
    once_is s.firsts.items s.places.items c.args.self.now.lists (ap (λ v. v.lists) c.self.view_is) c.self.invariant.buckets

pub returns-else-self-len-clause-none : goal.returns-else-self-len-clause-none
returns-else-self-len-clause-none c =
    let s = c.self.inside in
    all_empty s.firsts.items s.places.items c.args.self.now.lists s.low (ap (λ v. v.lists) c.self.view_is) c.self.invariant.buckets c.self.invariant.least
    (omega (arith, c.if-self-len.false, c.len.ensures, s.firsts.ok.0))

pub returns-else-self-len-clause-once : goal.returns-else-self-len-clause-once
returns-else-self-len-clause-once c =
    let s = c.self.inside in
    once_is s.firsts.items s.places.items c.args.self.now.lists (ap (λ v. v.lists) c.self.view_is) c.self.invariant.buckets

pub returns-then-self-len-clause-first : goal.returns-then-self-len-clause-first
returns-then-self-len-clause-first c =
    let s = c.self.inside in
    let lt : s.low < length s.firsts.items = omega (arith, c.if-self-len.true, c.len.ensures, s.firsts.ok.0) in
    first_is s.firsts.items s.places.items c.args.self.now.lists s.low c.index.result.now (ap (λ v. v.lists) c.self.view_is) c.self.invariant.buckets c.self.invariant.least lt
    (get_or_read s.firsts.items s.low c.index.result.now lt c.index.ensures nowhere)
