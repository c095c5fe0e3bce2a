use Rattle.std.proofs.Common.{ℕ, List, map, subst, sym}
use Rattle.std.specs.Prelude.{take}
use Rattle.serde_json.specs.View.{view}
use Rattle.graph_model.specs.QueryForms.{ask_forms}
use Rattle.graph_model.specs.QueryPlaces.{word_of}
use Rattle.query_script.specs.Refusing.{Gives}
use Rattle.query_script.specs.Tables.{history_forms}
use Rattle.query_script.proofs.Words.{Misses, by_word-behind}
use Rattle.query_script.proofs.forms.ask_by.Goals as goal

pub returns-in_default : goal.returns-in_default
returns-in_default c =
    let P : List ℕ → Type 0 = λ word. Misses (take 11 ask_forms) word in
    let missed : P c.word.result.now = (c.in_default.not-nodes, (c.in_default.not-edges, (c.in_default.not-events, (c.in_default.not-degree, (c.in_default.not-hops, (c.in_default.not-weak, (c.in_default.not-out_component, (c.in_default.not-in_component, (c.in_default.not-core, (c.in_default.not-core_numbers, (c.in_default.not-arrival, tt))))))))))) in
    let behind = by_word-behind (take 11 ask_forms) history_forms (word_of (map view c.args.items.now)) (map view c.args.items.now) (subst P c.word.ensures missed) in
    subst (λ said. Gives c.history_ask_by.result said) (sym behind) c.history_ask_by.ensures
