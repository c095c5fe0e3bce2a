use Rattle.std.proofs.Common.{length, subst}
use Rattle.std.specs.Option.{option_copied}
use Rattle.time_history.specs.Asked.{AreNamed}
use Rattle.graph_store.specs.Contents.{Contents}
use Rattle.graph_store.specs.Keys.{key_name}
use Rattle.view_trait.specs.Meaning.{edge_at}
use Rattle.view_trait.proofs.Found.{edge_tells}
use Rattle.view_answers.proofs.Asked.{value_is}
use Rattle.view_answers.proofs.point.edge_value.Goals as goal

pub returns-clause-value : goal.returns-clause-value
returns-clause-value g c =
    let contents = g.V.View.contents c.args.view.now in
    let us = c.edge_history.result.now.updates in
    let tells = edge_tells c.store-store.result.now contents c.args.e.0 us c.store-store.ensures c.edge_history.ensures.told c.edge_history.ensures.fits in
    let keys = subst (λ (s : Contents). AreNamed (key_name s.edge_keys) (length s.edge_keys) us) c.store-store.ensures c.edge_history.ensures.keys in
    value_is contents (g.V.View.world c.args.view.now) (edge_at contents c.args.e.0) us c.edge_span-span.result (length contents.edge_keys) c.args.key (option_copied c.value.result) tells c.edge_span-span.ensures.shows keys c.requires.key c.value.ensures
