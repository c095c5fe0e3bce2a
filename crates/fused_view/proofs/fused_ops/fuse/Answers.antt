use Rattle.std.proofs.Common.{◌≡◌, ◌<◌, ◌≤◌, ◌∷◌, ◌++◌, [], length, take, refl, sym, ◌∙◌, ap, subst, arith}
use Rattle.std.proofs.lemmas.List.{take_all}
use Rattle.view_trait.specs.Ready.{in_range}
use Rattle.view_trait.proofs.ReadyWorlds.{passes_at}
use Rattle.view_trait.proofs.Selected.{take_push}
use Rattle.fused_view.specs.Fused.{IsFused}
use Rattle.fused_view.specs.Joined.{StandsFor}
use Rattle.fused_view.proofs.Joining.{fused_all, stands_more}
use Rattle.fused_view.proofs.fused_ops.fuse.Goals as goal

pub loop-i-preserved : goal.loop-i-preserved
loop-i-preserved c =
    let ops = c.args.ops.now in
    let i = c.loop-i.i in
    let op = c.item.result.now in
    let lt : i < length ops = (let test = c.loop-i-test.true in omega (arith, test, c.len-i-end.ensures)) in
    subst (λ given. StandsFor given c.add.new.merged c.add.new.self) (sym (take_push ops i op lt c.item.ensures))
    (stands_more (take i ops) c.loop-i.merged c.loop-i.run op c.add.new.merged c.add.new.self c.loop-i.invariant c.in_ok-add.ensures (passes_at in_range ops i op c.requires lt c.item.ensures))

-- the merged views of the whole list
merged_all : (g : goal.In_ok-copy) → IsFused g.args.ops.now g.close.new.merged
merged_all c =
    let ops = c.args.ops.now in
    let all : length ops ≤ c.loop-i.i = (let test = c.loop-i-test.false in omega (arith, test, c.len-i-end.ensures)) in
    let stands = subst (λ given. StandsFor given c.loop-i.merged c.loop-i.run) (take_all c.loop-i.i ops all) c.loop-i.invariant in
    fused_all ops c.loop-i.merged c.close.new.merged c.loop-i.run stands c.in_ok-close.ensures

pub invariant_of-result : goal.invariant_of-result
invariant_of-result c = subst (λ given. IsFused given c.close.new.merged) (sym c.in_ok-copy.ensures) (merged_all c)

pub returns-clause-merged : goal.returns-clause-merged
returns-clause-merged c = merged_all c
