use Rattle.std.proofs.Common.{◌≡◌, ◌∙◌, ◌<◌, length, option_map, sym, ap, subst}
use Rattle.std.specs.Prelude.{IfSome}
use Rattle.graph_model.specs.World.{type_of}
use Rattle.graph_store.specs.Contents.{Contents, name_at}
use Rattle.graph_store.proofs.TypeReaders.{kind_of-number, kind_within}
use Rattle.graph_store.proofs.store.Store.type_of.Goals as goal

pub returns-clause-kind : goal.returns-clause-kind
returns-clause-kind c =
    let lt : c.args.n.0 < length c.self.inside.nodes.names = subst (λ (v : Contents). c.args.n.0 < length v.nodes) (sym c.self.view_is) c.requires in
    subst (λ (v : Contents). option_map (name_at v.kinds) c.kind_of.result ≡ type_of v.types (name_at v.nodes c.args.n.0)) c.self.view_is
    (ap (option_map (name_at c.self.inside.kinds.names)) c.kind_of.ensures ∙ sym (kind_of-number c.self.inside c.self.invariant c.args.n.0 lt))

pub returns-clause-within : goal.returns-clause-within
returns-clause-within c =
    subst (λ (v : Contents). IfSome c.kind_of.result (λ kind. kind < length v.kinds)) c.self.view_is
    (kind_within c.self.inside c.self.invariant c.kind_of.result c.args.n.0 c.kind_of.ensures)
