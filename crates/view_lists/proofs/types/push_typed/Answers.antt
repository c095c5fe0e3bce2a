use Rattle.std.proofs.Common.{◌≡◌, ◌∙◌, ◌++◌, [], true, ap, sym, rules}
use Rattle.std.proofs.lemmas.Bool.{cond-true}
use Rattle.std.proofs.lemmas.Option.{get_or_from_slice_get}
use Rattle.graph_store.specs.Contents.{name_at}
use Rattle.view_lists.specs.Types.{types_listed, typed_node}
use Rattle.view_lists.proofs.NamedTypes.{typed_push}
use Rattle.view_lists.proofs.types.push_typed.Goals as goal

pub returns-in_ok-push : goal.returns-in_ok-push
returns-in_ok-push c =
    let s = c.args.store.now in
    let node = sym (get_or_from_slice_get s.nodes c.args.n.0 c.node_name-node.result.now [] c.node_name-node.ensures) in
    let kind = sym (get_or_from_slice_get s.kinds c.in-Some.kind c.type_name-kind.result.now [] c.type_name-kind.ensures) in
    let yes : c.args.is_named ≡ true = search rules in
    typed_push c.args.typed.now.items c.push.new.self.items (record { node = c.node_name-node.result; kind = c.type_name-kind.result }) s.types (name_at s.nodes c.args.n.0) (name_at s.kinds c.in-Some.kind) c.in_ok-push.ensures.items node kind (sym c.in-Some.ensures.kind)
    ∙ ap (λ zs. types_listed c.args.typed.now.items ++ zs) (sym (cond-true c.args.is_named (typed_node s.types (name_at s.nodes c.args.n.0)) [] yes))
