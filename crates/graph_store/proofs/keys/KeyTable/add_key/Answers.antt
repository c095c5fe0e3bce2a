use Rattle.std.proofs.Common.{◌≡◌, ◌∙◌, List, ℕ, false, sym, ap}
use Rattle.std.specs.Prelude.{is_some}
use Rattle.indexmap.specs.IndexMap.{insert_entry}
use Rattle.graph_model.specs.declared.properties.ValueType.{ValueType}
use Rattle.graph_model.specs.Names.{same_name}
use Rattle.graph_model.specs.ValueKind.{value_type}
use Rattle.graph_store.specs.Keys.{type_in}
use Rattle.graph_store.proofs.KeyLaws.{insert_entry-with_key}
use Rattle.graph_store.proofs.keys.KeyTable.add_key.Goals as goal

pub returns-clause-ok : goal.returns-clause-ok
returns-clause-ok c =
    let new : is_some (type_in c.args.self.now c.args.key.now) ≡ false = sym c.has.ensures ∙ c.if-has.false in
    c.in_ok-insert.ensures.entries
    ∙ (ap (λ k. insert_entry same_name c.self.inside.types.entries k c.type_of.result) c.in_ok-key.ensures
    ∙ (ap (λ t. insert_entry same_name c.self.inside.types.entries c.args.key.now t) c.type_of.ensures
    ∙ (ap (λ (es : List (List ℕ × ValueType)). insert_entry same_name es c.args.key.now (value_type c.args.value.now)) c.self.view_is
    ∙ insert_entry-with_key c.args.self.now c.args.key.now c.args.value.now new)))
