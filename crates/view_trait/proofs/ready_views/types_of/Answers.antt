use Rattle.std.proofs.Common.{◌+◌, ◌<◌, take, length, sym, ◌∙◌, ap, subst, arith}
use Rattle.view_trait.specs.Drawn.{Selects}
use Rattle.view_trait.specs.Numbered.{is_listed}
use Rattle.view_trait.proofs.Selected.{selects_none, selects_more, selects_same, listed_push}
use Rattle.view_trait.proofs.ready_views.types_of.Goals.{in-Some+in_ok-push, in_default}
use Rattle.view_trait.proofs.ready_views.types_of.Goals as goal

pub loop-i-init : goal.loop-i-init
loop-i-init c = selects_none c.args.store.now.kinds (is_listed c.new-kinds.result.items) (λ n. ap (λ xs. is_listed xs n) c.new-kinds.ensures.items)

pub loop-i-preserved : goal.loop-i-preserved
loop-i-preserved c =
    let kinds = c.args.store.now.kinds in
    let names = c.args.names.now in
    let i = c.loop-i.i in
    let lt : i < length names = omega (arith, c.loop-i-test.true, c.len-i-end.ensures) in
    elim c.match-type_id.branch [
      | in-Some+in_ok-push w ↦
          let p = w.in-Some.kind in
          selects_more kinds names i c.item.result.now p (is_listed c.loop-i.kinds.items) (is_listed c.match-type_id.kinds.items) c.store_facts.ensures.indexed.kind_names lt c.item.ensures (sym w.in-Some.ensures.place) c.loop-i.invariant
          (λ n m. ap (λ xs. is_listed xs n) (ap (λ v. v.items) w.kinds-is ∙ w.in_ok-push.ensures.items) ∙ listed_push c.loop-i.kinds.items p n)
      | in_default w ↦ subst (λ v. Selects kinds (take (i + 1) names) (is_listed v.items)) (sym w.kinds-is) (selects_same kinds names i c.item.result.now (is_listed c.loop-i.kinds.items) lt c.item.ensures (sym w.in_default.ensures.place) c.loop-i.invariant)
    ]
