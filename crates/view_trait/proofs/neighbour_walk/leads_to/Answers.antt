use Rattle.std.proofs.Common.{◌≡◌, ◌∙◌, sym, ap, Some, None}
use Rattle.std.specs.Prelude.{position}
use Rattle.graph_store.specs.Ends.{same_ends}
use Rattle.graph_store.specs.Contents.{Contents}
use Rattle.view_trait.proofs.Pairs.{found_leads, missed_leads}
use Rattle.view_trait.proofs.neighbour_walk.leads_to.Goals as goal

pub returns-in-Some : goal.returns-in-Some
returns-in-Some g c =
    let contents = g.V.View.contents c.args.view.now in
    let world = g.V.View.world c.args.view.now in
    let place : position (same_ends (record { src = c.args.src.0; dst = c.args.dst.0 })) contents.pairs ≡ Some c.in-Some.p.0 =
    ap (λ (s : Contents). position (same_ends (record { src = c.args.src.0; dst = c.args.dst.0 })) s.pairs) (sym c.store.ensures) ∙ sym c.in-Some.ensures.place in
    c.pair_present.ensures.present ∙ found_leads contents world c.args.src.0 c.args.dst.0 c.in-Some.p.0 place

pub returns-in-None : goal.returns-in-None
returns-in-None g c =
    let contents = g.V.View.contents c.args.view.now in
    let world = g.V.View.world c.args.view.now in
    let place : position (same_ends (record { src = c.args.src.0; dst = c.args.dst.0 })) contents.pairs ≡ None =
    ap (λ (s : Contents). position (same_ends (record { src = c.args.src.0; dst = c.args.dst.0 })) s.pairs) (sym c.store.ensures) ∙ sym c.in-None.ensures.place in
    sym (missed_leads contents world c.args.src.0 c.args.dst.0 (g.met.V.View.shown c.args.view.now) c.requires.src c.requires.dst place)
