use Rattle.std.proofs.Common.{ℕ, List, map, subst}
use Rattle.serde_json.specs.View.{view}
use Rattle.graph_model.specs.QueryPlaces.{word_of}
use Rattle.query_script.specs.Tables.{keeping_forms}
use Rattle.query_script.proofs.Words.{Misses, by_word-missed}
use Rattle.query_script.proofs.forms.keeping_view_by.Goals as goal

pub returns-in_default : goal.returns-in_default
returns-in_default c =
    let P : List ℕ → Type 0 = λ word. Misses keeping_forms word in
    let missed : P c.word.result.now = (c.in_default.not-layers, (c.in_default.not-exclude_layers, (c.in_default.not-subgraph, (c.in_default.not-exclude_nodes, (c.in_default.not-node_types, (c.in_default.not-edges_where, (c.in_default.not-nodes_where, (c.in_default.not-valid, tt)))))))) in
    λ _. by_word-missed keeping_forms (word_of (map view c.args.items.now)) (map view c.args.items.now) (subst P c.word.ensures missed)
