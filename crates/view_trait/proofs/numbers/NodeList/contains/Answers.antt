use Rattle.std.proofs.Common.{sym, subst, ap, ◌∙◌}
use Rattle.std.specs.Ordering.{nat_cmp}
use Rattle.graph_model.specs.Rising.{Rises}
use Rattle.view_trait.specs.Numbered.{is_listed}
use Rattle.view_trait.proofs.Rising.{listed_search}
use Rattle.view_trait.proofs.numbers.NodeList.contains.Goals as goal

pub returns : goal.returns
returns c =
    let items = c.deref.result.now in
    let rise = subst (Rises nat_cmp) (sym c.deref.ensures.value) c.self.invariant in
    c.is_ok.ensures.value ∙ (listed_search items c.args.n.0 c.binary_search.result rise c.binary_search.ensures.position ∙ ap (λ xs. is_listed xs c.args.n.0) (c.deref.ensures.value ∙ c.self.view_is))
