use Rattle.std.proofs.Common.{◌≡◌, List, Bool, false, true, set, max, sym, ap, ◌∙◌, subst, arith, ℕ}
use Rattle.link_chain.specs.Buckets.{count_of}
use Rattle.core_algorithm.specs.Peeled.{is_left, AreShelved, IsState}
use Rattle.core_algorithm.proofs.OnePeeled.{left_in}
use Rattle.core_algorithm.proofs.Placing.{row_fits, peeled_state}
use Rattle.core_algorithm.proofs.peeling.Peeling.peel.Goals as goal

pub neighbours-others-requires : goal.neighbours-others-requires
neighbours-others-requires c = let lt = left_in c.args.self.now.left.items c.args.node c.requires.here in let long = c.requires.state.peeled.lefts in omega (arith, lt, long)

pub lower_each-requires-clause-some : goal.lower_each-requires-clause-some
lower_each-requires-clause-some c =
    let p = c.args.self.now in
    let rows = c.args.adjacent.now.rows in
    let left_is : c.as_slice-2.result.now ≡ set p.left.items c.args.node false = c.as_slice-2.ensures.value ∙ c.leave.ensures.left in
    λ u e. omega (
      arith,
      ap (count_of u) c.neighbours-others.ensures,
      row_fits rows p.buckets p.left.items p.degrees.items p.level p.numbers.items c.args.node c.requires.graph c.requires.state c.requires.here u
          (subst (λ (xs : List Bool). is_left xs u ≡ true) left_is e),
    )

pub returns-clause-state : goal.returns-clause-state
returns-clause-state c =
    let p = c.args.self.now in
    let rows = c.args.adjacent.now.rows in
    let left_is : c.as_slice-2.result.now ≡ set p.left.items c.args.node false = c.as_slice-2.ensures.value ∙ c.leave.ensures.left in
    let base = peeled_state rows p.buckets c.lower_each.new.buckets p.left.items p.degrees.items c.lower_each.new.degrees.items p.level p.numbers.items c.args.node c.args.degree
    c.requires.graph c.requires.state c.requires.here c.requires.degree c.requires.least
    (subst (λ (xs : List Bool). AreShelved c.lower_each.new.buckets xs c.lower_each.new.degrees.items) left_is c.lower_each.ensures.shelved)
    (λ u e. omega (arith, ap (count_of u) c.neighbours-others.ensures, c.lower_each.ensures.degrees u (subst (λ (xs : List Bool). is_left xs u ≡ true) (sym left_is) e))) in
    subst (λ (m : ℕ). IsState rows c.lower_each.new.buckets c.leave.new.left.items c.lower_each.new.degrees.items m (set p.numbers.items c.args.node m)) (sym c.max-level.ensures)
    (subst (λ (xs : List Bool). IsState rows c.lower_each.new.buckets xs c.lower_each.new.degrees.items (max p.level c.args.degree) (set p.numbers.items c.args.node (max p.level c.args.degree)))
    (sym c.leave.ensures.left) base)
