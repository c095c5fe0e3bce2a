use Rattle.std.proofs.Common.{◌∙◌}
use Rattle.graph_model.specs.World.{World, base}
use Rattle.world_laws.proofs.Base.{base_of_itself}
use Rattle.materialise.proofs.TakenInTurn.{with_no_types}
use Rattle.materialise.proofs.world_store.put_world.Goals as goal

pub put_events-requires-clause-storable : goal.put_events-requires-clause-storable
put_events-requires-clause-storable g c =
    let was = c.args.store.now in
    let w : World = record { model = was.model; bounds = was.bounds; events = c.args.list.now; types = c.args.types.now } in
    with_no_types w c.requires.storable

pub returns : goal.returns
returns g c =
    let was = c.args.store.now in
    let w : World = record { model = was.model; bounds = was.bounds; events = c.args.list.now; types = c.args.types.now } in
    let first = c.in_ok-put_events.ensures in
    let next = c.in_ok-put_types.ensures in
    let model = next.model ∙ first.model in
    let bounds = next.bounds ∙ first.bounds in
    let events = next.events ∙ first.events in
    (λ k. base (model k) (bounds k) (next.types k) (events k)) ∙ base_of_itself w c.requires.storable.lawful
