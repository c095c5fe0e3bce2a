use Rattle.std.proofs.Common.{subst, to_z, of_z, w64}
use Rattle.std.proofs.lemmas.Int.{to_z-of_z}
use Rattle.view_trait.specs.Contacts.{IsContactAfter}
use Rattle.view_trait.specs.Meaning.{edge_named}
use Rattle.view_trait.proofs.Found.{edge_tells, model_found}
use Rattle.view_trait.proofs.NextContact.{next_is}
use Rattle.view_trait.proofs.contacts.next_contact.Goals as goal

pub returns : goal.returns
returns g c =
    let contents = g.V.View.contents c.args.view.now in
    let world = g.V.View.world c.args.view.now in
    let shown = g.met.V.View.shown c.args.view.now in
    subst (λ a. IsContactAfter world (edge_named contents c.args.e.0) a c.next_contact.result) (to_z-of_z w64 c.args.after c.ranges.after)
    (next_is contents world c.args.e.0 c.model.result c.bounds.result c.edge_history.result.now.updates c.edge_span-span.result (to_z w64 (of_z w64 c.args.after)) c.next_contact.result
    (record {
      shown = shown;
      model_is = model_found c.store-store.result.now contents world c.model.result c.store-store.ensures shown c.model.ensures;
      bounds_are = c.bounds.ensures;
      tells = edge_tells c.store-store.result.now contents c.args.e.0 c.edge_history.result.now.updates c.store-store.ensures c.edge_history.ensures.told c.edge_history.ensures.fits;
      shows = c.edge_span-span.ensures.shows;
    })
    c.next_contact.ensures)
