use Rattle.std.proofs.Common.{◌≡◌, ◌∙◌, ◌<◌, None, length, option_map, sym, ap, subst}
use Rattle.std.specs.Prelude.{IfSome}
use Rattle.graph_model.specs.World.{type_of}
use Rattle.graph_store.specs.Contents.{Contents, name_at}
use Rattle.graph_store.proofs.TypeReaders.{kind_found, kind_missed, kind_within}
use Rattle.graph_store.proofs.store.Store.kind_of.Goals as goal

pub returns-in-Some-clause-kind : goal.returns-in-Some-clause-kind
returns-in-Some-clause-kind c =
    subst (λ (v : Contents). option_map (name_at v.kinds) c.kind_of.result ≡ type_of v.types c.args.node.now) c.self.view_is
    (ap (option_map (name_at c.self.inside.kinds.names)) c.kind_of.ensures ∙ kind_found c.self.inside c.self.invariant c.args.node.now c.in-Some.number (sym c.in-Some.ensures))

pub returns-in-Some-clause-within : goal.returns-in-Some-clause-within
returns-in-Some-clause-within c =
    subst (λ (v : Contents). IfSome c.kind_of.result (λ kind. kind < length v.kinds)) c.self.view_is
    (kind_within c.self.inside c.self.invariant c.kind_of.result c.in-Some.number c.kind_of.ensures)

pub returns-in-None-clause-kind : goal.returns-in-None-clause-kind
returns-in-None-clause-kind c =
    subst (λ (v : Contents). None ≡ type_of v.types c.args.node.now) c.self.view_is
    (sym (kind_missed c.self.inside c.self.invariant c.args.node.now (sym c.in-None.ensures)))
