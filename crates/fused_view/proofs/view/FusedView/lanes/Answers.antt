use Rattle.std.proofs.Common.{◌≡◌, ◌∙◌, ◌<◌, Bool, true, false, List, length, take, refl, sym, ap, subst, arith, rules, inl, inr}
use Rattle.std.specs.Prelude.{◌&&◌, ◌∷◌, [], Some, is_some, slice_get}
use Rattle.std.specs.List.{list_all}
use Rattle.std.proofs.lemmas.Bool.{cases_Bool}
use Rattle.std.proofs.lemmas.List.Folds.{list_all-append}
use Rattle.graph_store.specs.Contents.{base_of}
use Rattle.view_trait.specs.declared.ready_ops.ReadyOp.{ReadyOp}
use Rattle.view_trait.specs.Ready.{ready_apply, ready_view}
use Rattle.view_trait.proofs.ReadyWorlds.{passes_at, ready_apply-push}
use Rattle.view_trait.proofs.Selected.{take_push}
use Rattle.fused_view.specs.Lanes.{is_lane}
use Rattle.fused_view.proofs.view.FusedView.lanes.Goals as goal

both : (a b : Bool) → a ≡ true → b ≡ true → (a && (b && true)) ≡ true
both true b h k = ap (λ t. t && true) k
both false b h k = h

pub loop-i-preserved : goal.loop-i-preserved
loop-i-preserved c =
    let s = c.args.self.now.store.now in
    let ops = c.args.self.now.ops.now.given in
    let i = c.loop-i.i in
    let op = c.item.result.now in
    let same : c.given-ops.result.now ≡ ops = c.given-ops.ensures.value in
    let count = ap length same in
    let test = c.loop-i-test.true in
    let lt : i < length ops = omega (arith, test, c.len-i-end.ensures, count) in
    let at : slice_get ops i ≡ Some op = subst (λ (l : List ReadyOp). slice_get l i ≡ Some op) same c.item.ensures in
    let lane : is_lane op ≡ true = sym c.in_ok-lanes.ensures.some in
    record {
      each = ap (list_all is_lane) (take_push ops i op lt at) ∙ (list_all-append is_lane (take i ops) (op ∷ []) ∙ both (list_all is_lane (take i ops)) (is_lane op) c.loop-i.invariant.each lane);
      world =
          ap (λ l. ready_apply s l (base_of s)) (take_push ops i op lt at)
          ∙ (ready_apply-push s (take i ops) op (base_of s)
          ∙ (ap (λ w. ready_view s w op) c.loop-i.invariant.world
          ∙ sym (c.in_ok-lanes.ensures.world c.in_ok-lanes.lanes refl s (base_of s) c.args.self.now.shown)));
    }

pub returns-in_err-lanes-clause-some : goal.returns-in_err-lanes-clause-some
returns-in_err-lanes-clause-some c =
    let ops = c.args.self.now.ops.now.given in
    let i = c.loop-i.i in
    let op = c.item.result.now in
    let same : c.given-ops.result.now ≡ ops = c.given-ops.ensures.value in
    let count = ap length same in
    let test = c.loop-i-test.true in
    let lt : i < length ops = omega (arith, test, c.len-i-end.ensures, count) in
    let at : slice_get ops i ≡ Some op = subst (λ (l : List ReadyOp). slice_get l i ≡ Some op) same c.item.ensures in
    let fails : is_lane op ≡ false = sym c.in_err-lanes.ensures.some in
    let none : is_some c.from_residual.result ≡ false = search rules in
    none ∙ elim (cases_Bool (list_all is_lane ops)) [
      | inl t ↦ absurd (let no : true ≡ false = sym (passes_at is_lane ops i op t lt at) ∙ fails in cc)
      | inr f ↦ sym f
    ]
