use Rattle.std.proofs.Common.{ℕ, List, ap, ◌∙◌, subst, arith}
use Rattle.link_chain.specs.FirstsAndPlaces.{IsLeast}
use Rattle.link_chain.proofs.BucketResults.{take_is, bucket_is, below_is}
use Rattle.link_chain.proofs.item_buckets.Buckets.take.Goals as goal

pub unlink-requires-clause-bucket : goal.unlink-requires-clause-bucket
unlink-requires-clause-bucket c =
    let s = c.self.inside in
    bucket_is s.firsts.items s.places.items c.args.self.now.lists c.args.item (ap (λ v. v.lists) c.self.view_is) c.self.invariant.buckets c.requires.stands

pub settle-self-inside-requires-clause-below : goal.settle-self-inside-requires-clause-below
settle-self-inside-requires-clause-below c =
    let s = c.self.inside in
    below_is s.firsts.items c.as_slice.result.now s.places.items c.args.self.now.lists c.args.item s.low (ap (λ v. v.lists) c.self.view_is) c.self.invariant.buckets c.requires.stands c.self.invariant.least
    (c.as_slice.ensures.value ∙ c.unlink.ensures.firsts)

pub invariant_of-self : goal.invariant_of-self
invariant_of-self c =
    let s = c.self.inside in record {
      buckets = (take_is s.firsts.items c.unlink.new.firsts.items s.places.items c.unlink.new.places.items c.args.self.now.lists c.args.item (ap (λ v. v.lists) c.self.view_is) c.self.invariant.buckets
          c.requires.stands c.unlink.ensures.firsts c.unlink.ensures.places).buckets;
      least = subst (λ (fs : List ℕ). IsLeast fs c.settle-self-inside.result) c.as_slice.ensures.value c.settle-self-inside.ensures;
      few = omega (arith, c.unlink.new.firsts.ok.0, c.unlink.ensures.firsts_len, s.firsts.ok.0, c.self.invariant.few);
    }

pub returns-clause-lists : goal.returns-clause-lists
returns-clause-lists c =
    let s = c.self.inside in
    (take_is s.firsts.items c.unlink.new.firsts.items s.places.items c.unlink.new.places.items c.args.self.now.lists c.args.item (ap (λ v. v.lists) c.self.view_is) c.self.invariant.buckets
    c.requires.stands c.unlink.ensures.firsts c.unlink.ensures.places).lists
