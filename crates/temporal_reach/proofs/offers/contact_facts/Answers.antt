use Rattle.temporal_reach.proofs.Inside.{contact_fits}
use Rattle.temporal_reach.proofs.offers.contact_facts.Goals as goal

pub returns : goal.returns
returns g c = λ edge t contact. contact_fits (g.V.View.world c.args.view.now) edge t c.bounds-bounds.result (g.met.V.View.shown c.args.view.now).lawful c.bounds-bounds.ensures contact c.lo-low.ensures.low c.hi-high.ensures.high
