use Rattle.std.proofs.Common.{ℕ, sym, subst, arith}
use Rattle.link_chain.specs.FirstsAndPlaces.{IsLeast}
use Rattle.link_chain.proofs.BucketResults.{empty_is, empty_least}
use Rattle.link_chain.proofs.item_buckets.gather.Goals as goal

pub invariant_of-result : goal.invariant_of-result
invariant_of-result c =
    let f = c.args.firsts in
    let p = c.args.places in record {
      buckets = (empty_is f.items p.items f.len c.requires.empty (omega (arith, c.requires.few, p.ok.0))).buckets;
      least = subst (λ (m : ℕ). IsLeast f.items m) (sym c.len-low.ensures) (empty_least f.items f.len c.requires.empty);
      few = omega (arith, c.requires.few_buckets, f.ok.0);
    }

pub returns-clause-lists : goal.returns-clause-lists
returns-clause-lists c =
    let f = c.args.firsts in
    let p = c.args.places in
    (empty_is f.items p.items f.len c.requires.empty (omega (arith, c.requires.few, p.ok.0))).lists
