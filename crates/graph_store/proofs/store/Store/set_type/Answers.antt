use Rattle.std.proofs.Common.{◌≡◌, ◌∙◌, rules, true, None, is_some, sym, ap, subst}
use Rattle.graph_model.specs.World.{type_of}
use Rattle.graph_model.specs.Accepting.{type_refusal}
use Rattle.graph_store.specs.Contents.{Contents, name_at}
use Rattle.graph_store.specs.WithType.{with_type}
use Rattle.graph_store.specs.StoreInvariant.{contents}
use Rattle.graph_store.proofs.TypeReaders.{typed_again, is_some-map}
use Rattle.graph_store.proofs.store.Store.set_type.Goals as goal

pub returns-then-is_some-clause-ok : goal.returns-then-is_some-clause-ok
returns-then-is_some-clause-ok c =
    let found : is_some c.kind_of.result ≡ true = search rules in
    let has : is_some (type_of (contents c.self.inside).types c.args.node) ≡ true =
    ap (λ (v : Contents). is_some (type_of v.types c.args.node)) c.self.view_is ∙ (sym (ap is_some c.kind_of.ensures.kind) ∙ (is_some-map (name_at c.args.self.now.kinds) c.kind_of.result ∙ found)) in
    let fine : type_refusal (contents c.self.inside).accepted (contents c.self.inside).types c.args.node c.args.kind ≡ None =
    ap (λ (v : Contents). type_refusal v.accepted v.types c.args.node c.args.kind) c.self.view_is ∙ c.in_default.ensures.refusal in
    sym (subst (λ (v : Contents). with_type v c.args.node c.args.kind ≡ v) c.self.view_is (typed_again c.self.inside c.self.invariant c.args.node c.args.kind has fine))

pub returns-then-is_some-clause-types : goal.returns-then-is_some-clause-types
returns-then-is_some-clause-types c =
    ap (λ (v : Contents). v.types) (returns-then-is_some-clause-ok c)
