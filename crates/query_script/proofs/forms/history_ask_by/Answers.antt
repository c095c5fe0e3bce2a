use Rattle.std.proofs.Common.{ℕ, List, map, subst}
use Rattle.serde_json.specs.View.{view}
use Rattle.graph_model.specs.QueryPlaces.{word_of}
use Rattle.query_script.specs.Tables.{history_forms}
use Rattle.query_script.proofs.Words.{Misses, by_word-missed}
use Rattle.query_script.proofs.forms.history_ask_by.Goals as goal

pub returns-in_default : goal.returns-in_default
returns-in_default c =
    let P : List ℕ → Type 0 = λ word. Misses history_forms word in
    let missed : P c.word.result.now = (c.in_default.not-node_history, (c.in_default.not-edge_history, (c.in_default.not-node_value, (c.in_default.not-edge_value, (c.in_default.not-edge_alive, (c.in_default.not-materialise, tt)))))) in
    λ _. by_word-missed history_forms (word_of (map view c.args.items.now)) (map view c.args.items.now) (subst P c.word.ensures missed)
