use Rattle.std.proofs.Common.{ℕ, List, map, subst, sym}
use Rattle.std.specs.Prelude.{take}
use Rattle.serde_json.specs.View.{view}
use Rattle.graph_model.specs.QueryForms.{view_forms}
use Rattle.graph_model.specs.QueryPlaces.{word_of}
use Rattle.query_script.specs.Refusing.{Gives}
use Rattle.query_script.specs.Tables.{keeping_forms}
use Rattle.query_script.proofs.Words.{Misses, by_word-behind}
use Rattle.query_script.proofs.forms.view_by.Goals as goal

pub returns-in_default : goal.returns-in_default
returns-in_default c =
    let P : List ℕ → Type 0 = λ word. Misses (take 4 view_forms) word in
    let missed : P c.word.result.now = (c.in_default.not-window, (c.in_default.not-at, (c.in_default.not-before, (c.in_default.not-after, tt)))) in
    let behind = by_word-behind (take 4 view_forms) keeping_forms (word_of (map view c.args.items.now)) (map view c.args.items.now) (subst P c.word.ensures missed) in
    subst (λ said. Gives c.keeping_view_by.result said) (sym behind) c.keeping_view_by.ensures
