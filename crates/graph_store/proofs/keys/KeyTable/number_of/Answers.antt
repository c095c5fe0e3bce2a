use Rattle.std.proofs.Common.{◌∙◌, ℕ, List, [], map, sym, ap}
use Rattle.std.proofs.lemmas.List.Quantifiers.{position-Some}
use Rattle.graph_model.specs.declared.properties.ValueType.{ValueType}
use Rattle.graph_model.specs.Names.{same_name}
use Rattle.world_laws.proofs.Order.{same_name-exact}
use Rattle.graph_store.specs.Keys.{key_name}
use Rattle.graph_store.proofs.keys.KeyTable.number_of.Goals as goal

pub returns-clause-name : goal.returns-clause-name
returns-clause-name c =
    let h = position-Some (same_name c.args.key.now) (map (λ (p : List ℕ × ValueType). p.0) c.self.inside.types.entries) c.unwrap.result [] (sym c.get_index_of.ensures.index ∙ c.unwrap.ensures) in
    ap (λ (es : List (List ℕ × ValueType)). key_name es c.unwrap.result) (sym c.self.view_is)
    ∙ sym (same_name-exact c.args.key.now (key_name c.self.inside.types.entries c.unwrap.result) h.1)
