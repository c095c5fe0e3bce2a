use Rattle.std.proofs.Common.{◌≡◌, ◌∙◌, ◌++◌, ◌∷◌, [], None, sym, ap, subst}
use Rattle.std.specs.Prelude.{position}
use Rattle.indexmap.specs.IndexSet.{insert_key}
use Rattle.graph_model.specs.Names.{same_name}
use Rattle.graph_model.specs.World.{type_of}
use Rattle.graph_store.specs.TypeIndex.{kind_in}
use Rattle.graph_store.specs.Histories.{updates_in}
use Rattle.graph_store.specs.WithUpdate.{with_history}
use Rattle.graph_store.specs.Contents.{Contents}
use Rattle.graph_store.specs.StoreInvariant.{contents}
use Rattle.graph_store.specs.WithType.{with_type}
use Rattle.graph_store.proofs.TypeReaders.{number_untyped}
use Rattle.graph_store.proofs.TakeType.{contents-typed, IsStored-typed}
use Rattle.graph_store.proofs.store.Store.add_type.Goals as goal

pub put-requires-clause-absent : goal.put-requires-clause-absent
put-requires-clause-absent c =
    let absent : type_of (contents c.self.inside).types c.args.node ≡ None = subst (λ (v : Contents). type_of v.types c.args.node ≡ None) (sym c.self.view_is) c.requires.absent in
    let names : c.number_node-number.new.nodes.names ≡ insert_key same_name c.self.inside.nodes.names c.args.node = c.number_node-number.ensures.names ∙ ap (λ ns. insert_key same_name ns c.args.node) c.in_ok-reserve_nodes.ensures.names in
    subst (λ ps. kind_in ps c.number_node-number.result ≡ None) (sym c.in_ok-reserve-2.ensures.numbers)
    (number_untyped c.self.inside c.self.invariant c.args.node c.number_node-number.result (ap (position (same_name c.args.node)) (sym names) ∙ c.number_node-number.ensures.number) absent)

pub invariant_of-self-2 : goal.invariant_of-self-2
invariant_of-self-2 c =
    let node = c.number_node-number.ensures in
    let kind = c.number_name-kind_number.ensures in
    let names : c.number_node-number.new.nodes.names ≡ insert_key same_name c.self.inside.nodes.names c.args.node = node.names ∙ ap (λ ns. insert_key same_name ns c.args.node) c.in_ok-reserve_nodes.ensures.names in
    let kinds : c.number_name-kind_number.new.names.names ≡ insert_key same_name c.self.inside.kinds.names c.args.kind = kind.names ∙ ap (λ ns. insert_key same_name ns c.args.kind) c.in_ok-reserve.ensures.names in
    let filed : updates_in c.number_node-number.new.histories.items ≡ with_history c.self.inside.nodes.names c.args.node (updates_in c.self.inside.node_histories.items) =
    node.filed ∙ (λ i. with_history (c.in_ok-reserve_nodes.ensures.names i) c.args.node (updates_in (c.in_ok-reserve_nodes.ensures.histories i))) in
    let absent : type_of (contents c.self.inside).types c.args.node ≡ None = subst (λ (v : Contents). type_of v.types c.args.node ≡ None) (sym c.self.view_is) c.requires.absent in
    IsStored-typed c.self.inside c.self.invariant c.args.node c.args.kind c.number_node-number.new.nodes c.number_name-kind_number.new.names c.put.new.self c.number_node-number.new.links c.number_node-number.new.histories
    c.number_node-number.result c.number_name-kind_number.result names (node.limit ∙ c.in_ok-reserve_nodes.ensures.limit) kinds (kind.limit ∙ c.in_ok-reserve.ensures.limit) node.number kind.number
    (c.put.ensures ∙ ap (λ ps. ps ++ (c.number_node-number.result, c.number_name-kind_number.result) ∷ []) c.in_ok-reserve-2.ensures.numbers) node.linked (node.edges ∙ c.in_ok-reserve_nodes.ensures.edges) (node.pairs ∙ c.in_ok-reserve_nodes.ensures.pairs) filed absent

pub returns-clause-ok : goal.returns-clause-ok
returns-clause-ok c =
    let node = c.number_node-number.ensures in
    let kind = c.number_name-kind_number.ensures in
    let names : c.number_node-number.new.nodes.names ≡ insert_key same_name c.self.inside.nodes.names c.args.node = node.names ∙ ap (λ ns. insert_key same_name ns c.args.node) c.in_ok-reserve_nodes.ensures.names in
    let kinds : c.number_name-kind_number.new.names.names ≡ insert_key same_name c.self.inside.kinds.names c.args.kind = kind.names ∙ ap (λ ns. insert_key same_name ns c.args.kind) c.in_ok-reserve.ensures.names in
    let filed : updates_in c.number_node-number.new.histories.items ≡ with_history c.self.inside.nodes.names c.args.node (updates_in c.self.inside.node_histories.items) =
    node.filed ∙ (λ i. with_history (c.in_ok-reserve_nodes.ensures.names i) c.args.node (updates_in (c.in_ok-reserve_nodes.ensures.histories i))) in
    let absent : type_of (contents c.self.inside).types c.args.node ≡ None = subst (λ (v : Contents). type_of v.types c.args.node ≡ None) (sym c.self.view_is) c.requires.absent in
    contents-typed c.self.inside c.self.invariant c.args.node c.args.kind c.number_node-number.new.nodes c.number_name-kind_number.new.names c.put.new.self c.number_node-number.new.links c.number_node-number.new.histories
    c.number_node-number.result c.number_name-kind_number.result names (node.limit ∙ c.in_ok-reserve_nodes.ensures.limit) kinds (kind.limit ∙ c.in_ok-reserve.ensures.limit) node.number kind.number
    (c.put.ensures ∙ ap (λ ps. ps ++ (c.number_node-number.result, c.number_name-kind_number.result) ∷ []) c.in_ok-reserve-2.ensures.numbers) node.linked (node.edges ∙ c.in_ok-reserve_nodes.ensures.edges) (node.pairs ∙ c.in_ok-reserve_nodes.ensures.pairs) filed absent
    ∙ ap (λ (v : Contents). with_type v c.args.node c.args.kind) c.self.view_is
