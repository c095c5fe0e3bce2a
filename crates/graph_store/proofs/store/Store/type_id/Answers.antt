use Rattle.std.proofs.Common.{◌≡◌, ◌∙◌, [], ap, subst}
use Rattle.std.specs.Prelude.{is_some}
use Rattle.std.specs.List.{list_any}
use Rattle.graph_model.specs.Names.{same_name}
use Rattle.graph_model.specs.Accepting.{type_names}
use Rattle.graph_store.specs.Contents.{Contents}
use Rattle.graph_store.proofs.Readers.{is_some-position}
use Rattle.graph_store.proofs.store.Store.type_id.Goals as goal

pub returns-clause-known : goal.returns-clause-known
returns-clause-known c =
    subst (λ (v : Contents). is_some c.find.result ≡ list_any (same_name c.args.kind.now) (type_names v.types)) c.self.view_is
    (ap is_some c.find.ensures ∙ (is_some-position (same_name c.args.kind.now) c.self.inside.kinds.names [] ∙ c.self.invariant.contents_are.known_kinds c.args.kind.now))
