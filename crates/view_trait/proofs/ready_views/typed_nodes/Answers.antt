use Rattle.std.proofs.Common.{◌≡◌, ◌<◌, ℕ, true, ◌&&◌, ◌||◌, nat_lt, eqb, sym, ◌∙◌, ap, subst, arith}
use Rattle.std.proofs.lemmas.Bool.Decides.{nat_tests}
use Rattle.graph_model.specs.Keep.{has_type}
use Rattle.graph_store.specs.Contents.{name_at}
use Rattle.view_trait.specs.Drawn.{Selects}
use Rattle.view_trait.specs.Numbered.{is_listed}
use Rattle.view_trait.proofs.Rising.{listed_put}
use Rattle.view_trait.proofs.Selected.{below_none, below_more, below_same}
use Rattle.view_trait.proofs.ready_views.typed_nodes.Goals.{then-has_kind+in_ok-push, else-has_kind}
use Rattle.view_trait.proofs.ready_views.typed_nodes.Goals as goal

pub loop-n-init : goal.loop-n-init
loop-n-init c m =
    let typed = λ (n : ℕ). has_type c.args.store.now.types c.args.names.now (name_at c.args.store.now.nodes n) in
    ap (λ xs. is_listed xs m) c.new-nodes.ensures ∙ below_none typed m

pub loop-n-preserved : goal.loop-n-preserved
loop-n-preserved c m =
    let names = c.args.names.now in
    let typed = λ (n : ℕ). has_type c.args.store.now.types names (name_at c.args.store.now.nodes n) in
    let n = c.loop-n.n in
    let found : Selects c.args.store.now.kinds names (is_listed c.deref.result.now) = subst (λ xs. Selects c.args.store.now.kinds names (is_listed xs)) (sym c.deref.ensures.value) c.in_ok-kinds.ensures in
    let test = c.has_kind.ensures names found in
    elim c.if-has_kind.branch [
      | then-has_kind+in_ok-push w ↦
          ap (λ xs. is_listed xs m) (w.nodes-is ∙ w.in_ok-push.ensures.ok)
          ∙ (listed_put n c.loop-n.nodes m ∙ (ap (λ b. b || eqb n m) (c.loop-n.invariant m) ∙ below_more typed n m (sym test ∙ w.if-has_kind.true)))
      | else-has_kind w ↦ ap (λ xs. is_listed xs m) w.nodes-is ∙ (c.loop-n.invariant m ∙ below_same typed n m (sym test ∙ w.if-has_kind.false))
    ]

pub returns : goal.returns
returns c n lt =
    let typed = λ (n : ℕ). has_type c.args.store.now.types c.args.names.now (name_at c.args.store.now.nodes n) in
    let end = c.nodes-n-end.ensures.len in
    let past = c.loop-n-test.false in
    let below : n < c.loop-n.n = omega (arith, end, past, lt) in
    let t : nat_lt n c.loop-n.n ≡ true = grind (arith, nat_tests, below) in
    c.loop-n.invariant n ∙ ap (λ b. b && typed n) t
