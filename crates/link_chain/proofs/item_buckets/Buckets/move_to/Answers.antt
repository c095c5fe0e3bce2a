use Rattle.std.proofs.Common.{◌≡◌, ℕ, ◌<◌, List, length, ap, ◌∙◌, subst, arith}
use Rattle.link_chain.specs.FirstsAndPlaces.{IsLeast}
use Rattle.link_chain.proofs.BucketResults.{move_is, bucket_is, below_move}
use Rattle.link_chain.proofs.item_buckets.Buckets.move_to.Goals as goal

pub unlink-requires-clause-bucket : goal.unlink-requires-clause-bucket
unlink-requires-clause-bucket c =
    let s = c.self.inside in
    bucket_is s.firsts.items s.places.items c.args.self.now.lists c.args.item (ap (λ v. v.lists) c.self.view_is) c.self.invariant.buckets c.requires.stands

pub settle-self-inside-requires-clause-below : goal.settle-self-inside-requires-clause-below
settle-self-inside-requires-clause-below c =
    let s = c.self.inside in
    λ k lt. below_move s.firsts.items c.unlink.new.firsts.items c.as_slice.result.now s.places.items c.args.self.now.lists c.args.item c.args.bucket s.low (ap (λ v. v.lists) c.self.view_is) c.self.invariant.buckets c.requires.stands c.self.invariant.least
    c.unlink.ensures.firsts (c.as_slice.ensures.value ∙ c.link.ensures.firsts) k (omega (arith, lt, c.min-from.ensures))

pub invariant_of-self : goal.invariant_of-self
invariant_of-self c =
    let s = c.self.inside in
    let it : c.args.item < length s.places.items = omega (arith, c.requires.item, ap (λ v. v.items) c.self.view_is) in
    let len : length c.unlink.new.places.items ≡ length s.places.items = omega (arith, c.unlink.new.places.ok.0, c.unlink.ensures.places_len, s.places.ok.0) in record {
      buckets = (move_is s.firsts.items c.unlink.new.firsts.items c.link.new.firsts.items s.places.items c.unlink.new.places.items c.link.new.places.items c.args.self.now.lists c.args.item c.args.bucket (ap (λ v. v.lists) c.self.view_is) c.self.invariant.buckets
          it c.requires.bucket c.requires.stands c.unlink.ensures.firsts c.unlink.ensures.places len c.link.ensures.firsts c.link.ensures.places).buckets;
      least = subst (λ (fs : List ℕ). IsLeast fs c.settle-self-inside.result) c.as_slice.ensures.value c.settle-self-inside.ensures;
      few = omega (arith, c.link.new.firsts.ok.0, c.link.ensures.firsts_len, c.unlink.ensures.firsts_len, s.firsts.ok.0, c.self.invariant.few);
    }

pub returns-clause-lists : goal.returns-clause-lists
returns-clause-lists c =
    let s = c.self.inside in
    let it : c.args.item < length s.places.items = omega (arith, c.requires.item, ap (λ v. v.items) c.self.view_is) in
    let len : length c.unlink.new.places.items ≡ length s.places.items = omega (arith, c.unlink.new.places.ok.0, c.unlink.ensures.places_len, s.places.ok.0) in
    (move_is s.firsts.items c.unlink.new.firsts.items c.link.new.firsts.items s.places.items c.unlink.new.places.items c.link.new.places.items c.args.self.now.lists c.args.item c.args.bucket (ap (λ v. v.lists) c.self.view_is) c.self.invariant.buckets
    it c.requires.bucket c.requires.stands c.unlink.ensures.firsts c.unlink.ensures.places len c.link.ensures.firsts c.link.ensures.places).lists
