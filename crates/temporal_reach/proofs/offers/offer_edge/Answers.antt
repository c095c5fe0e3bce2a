use Rattle.std.proofs.Common.{◌≡◌, ℤ, ◌∷◌, subst, to_z, of_z, w64}
use Rattle.std.specs.Prelude.{IsPermutation}
use Rattle.std.proofs.lemmas.Int.{to_z-of_z}
use Rattle.view_trait.specs.Meaning.{edge_named}
use Rattle.temporal_reach.specs.Offers.{AreOffered}
use Rattle.temporal_reach.proofs.Offering.{offered_push}
use Rattle.temporal_reach.proofs.offers.offer_edge.Goals as goal

pub returns-in_ok-push : goal.returns-in_ok-push
returns-in_ok-push g c =
    let contents = g.V.View.contents c.args.view.now in
    let world = g.V.View.world c.args.view.now in
    let e = c.args.e.0 in
    let m = c.in-Some.moment in
    let next = c.in-Some.ensures in
    let fits = c.contact_facts.ensures (edge_named contents e) m next.1 in
    subst (λ a. AreOffered contents world a (λ k. k ≡ e) (λ k. ⊥) c.args.frontier.now c.push.new.self) (to_z-of_z w64 c.args.after c.ranges.after)
    (offered_push contents world (to_z w64 (of_z w64 c.args.after)) e m c.args.frontier.now c.push.new.self next
    (subst (λ (z : ℤ). IsPermutation ((z, e) ∷ c.args.frontier.now) c.push.new.self) (to_z-of_z w64 m fits) c.in_ok-push.ensures))
