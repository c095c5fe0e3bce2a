use Rattle.std.proofs.Common.{◌≡◌, ◌∙◌, List, ℕ, ap, false, subst, sym}
use Rattle.std.specs.Prelude.{IfNone}
use Rattle.std.specs.Result.{result_ok}
use Rattle.std.specs.Ordering.{nat_cmp}
use Rattle.graph_model.specs.Rising.{Rises}
use Rattle.view_trait.specs.Numbered.{is_listed}
use Rattle.present_links.specs.Adjacent.{AdjacentNodes}
use Rattle.present_links.proofs.AmongNumbers.{none_found}
use Rattle.present_links.proofs.adjacency.Adjacent.place_of.Goals as goal

pub returns-clause-none : goal.returns-clause-none
returns-clause-none c =
    let at : c.as_slice.result.now ≡ c.args.self.now.nodes = c.as_slice.ensures.value ∙ ap (λ (a : AdjacentNodes). a.nodes) c.self.view_is in
    subst (λ o. IfNone o (is_listed c.args.self.now.nodes c.args.n.0 ≡ false)) (sym c.ok.ensures.value)
    (subst (λ (xs : List ℕ). IfNone (result_ok c.binary_search.result) (is_listed xs c.args.n.0 ≡ false)) at
    (none_found c.as_slice.result.now c.args.n.0 c.binary_search.result (subst (Rises nat_cmp) (sym c.as_slice.ensures.value) c.self.invariant.rise) c.binary_search.ensures.position))
