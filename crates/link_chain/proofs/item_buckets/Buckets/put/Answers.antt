use Rattle.std.proofs.Common.{ℕ, ◌<◌, List, length, ap, subst, arith}
use Rattle.link_chain.specs.FirstsAndPlaces.{IsLeast}
use Rattle.link_chain.proofs.BucketResults.{put_is}
use Rattle.link_chain.proofs.item_buckets.Buckets.put.Goals as goal

pub invariant_of-self : goal.invariant_of-self
invariant_of-self c =
    let s = c.self.inside in
    let it : c.args.item < length s.places.items = omega (arith, c.requires.item, ap (λ v. v.items) c.self.view_is) in record {
      buckets = (put_is s.firsts.items c.link.new.firsts.items s.places.items c.link.new.places.items c.args.self.now.lists c.args.item c.args.bucket (ap (λ v. v.lists) c.self.view_is) c.self.invariant.buckets
          it c.requires.bucket c.requires.free c.link.ensures.firsts c.link.ensures.places).buckets;
      least = subst (λ (fs : List ℕ). IsLeast fs c.settle-self-inside.result) c.as_slice.ensures.value c.settle-self-inside.ensures;
      few = omega (arith, c.link.new.firsts.ok.0, c.link.ensures.firsts_len, s.firsts.ok.0, c.self.invariant.few);
    }

pub returns-clause-lists : goal.returns-clause-lists
returns-clause-lists c =
    let s = c.self.inside in
    let it : c.args.item < length s.places.items = omega (arith, c.requires.item, ap (λ v. v.items) c.self.view_is) in
    (put_is s.firsts.items c.link.new.firsts.items s.places.items c.link.new.places.items c.args.self.now.lists c.args.item c.args.bucket (ap (λ v. v.lists) c.self.view_is) c.self.invariant.buckets
    it c.requires.bucket c.requires.free c.link.ensures.firsts c.link.ensures.places).lists
