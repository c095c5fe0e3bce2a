use Rattle.std.proofs.Common.{sym, ap, ◌∙◌}
use Rattle.std.specs.List.{list_any}
use Rattle.graph_model.specs.Names.{same_name}
use Rattle.graph_model.specs.Props.{has_key}
use Rattle.graph_model.proofs.PropItems.{has_key-pairs}
use Rattle.graph_model.proofs.properties.Props.has.Goals as goal

pub returns : goal.returns
returns c =
    c.has_item.ensures ∙ (ap (list_any (λ p. same_name c.args.key.now p.key)) c.as_slice.ensures.value
    ∙ (sym (has_key-pairs c.args.key.now c.self.inside.items.items) ∙ ap (has_key c.args.key.now) c.self.view_is))
