use Rattle.std.proofs.Common.{◌≡◌, ◌+◌, ◌<◌, ◌++◌, [], ◌∷◌, true, length, take, map, sym, ◌∙◌, ap, subst, arith}
use Rattle.std.specs.List.{list_all}
use Rattle.std.proofs.lemmas.List.{map-append}
use Rattle.std.proofs.Math.Seq.{take-length}
use Rattle.graph_model.specs.Range.{op_in_range}
use Rattle.graph_model.specs.Searches.{kind_of_view}
use Rattle.graph_model.specs.Stack.{apply}
use Rattle.graph_store.specs.Contents.{base_of}
use Rattle.view_trait.specs.Ready.{ready_view, ready_apply, ready_kind, in_range}
use Rattle.view_trait.proofs.Drawn.{IsDrawn-base, IsDrawn-apply}
use Rattle.world_laws.proofs.ListItems.{all_push}
use Rattle.view_trait.proofs.ReadyWorlds.{ready_apply-push, apply-push, passes_at}
use Rattle.view_trait.proofs.Selected.{take_push}
use Rattle.view_trait.proofs.ready_views.ready.Goals as goal

pub loop-i-init : goal.loop-i-init
loop-i-init c = record {
  world = λ w h. ap (λ ops. ready_apply c.args.store.now ops w) c.new-ops.ensures;
  in_range = ap (list_all in_range) c.new-ops.ensures;
  kinds = ap (map ready_kind) c.new-ops.ensures;
}

pub ready_op-requires : goal.ready_op-requires
ready_op-requires c =
    let lt : c.loop-i.i < length c.args.views.now = omega (arith, c.loop-i-test.true, c.len-i-end.ensures) in
    passes_at op_in_range c.args.views.now c.loop-i.i c.item.result.now c.requires lt c.item.ensures

pub loop-i-preserved : goal.loop-i-preserved
loop-i-preserved c =
    let store = c.args.store.now in
    let views = c.args.views.now in
    let i = c.loop-i.i in
    let op = c.item.result.now in
    let ready = c.in_ok-ready_op.field-0 in
    let lt : i < length views = omega (arith, c.loop-i-test.true, c.len-i-end.ensures) in
    let more : take (i + 1) views ≡ take i views ++ op ∷ [] = take_push views i op lt c.item.ensures in
    let pushed : c.push.new.self ≡ c.loop-i.ops ++ ready ∷ [] = c.in_ok-push.ensures.ok in
    record {
      world = λ w h.
          ap (λ ops. ready_apply store ops w) pushed
          ∙ (ready_apply-push store c.loop-i.ops ready w
          ∙ (ap (λ v. ready_view store v ready) (c.loop-i.invariant.world w h)
          ∙ (c.in_ok-ready_op.ensures.view (apply (take i views) w) (IsDrawn-apply store (take i views) w h)
          ∙ (sym (apply-push (take i views) op w) ∙ ap (λ ops. apply ops w) (sym more)))));
      in_range = subst (λ ops. list_all in_range ops ≡ true) (sym pushed) (all_push in_range c.loop-i.ops ready c.loop-i.invariant.in_range c.in_ok-ready_op.ensures.in_range);
      kinds =
          ap (map ready_kind) pushed
          ∙ (map-append ready_kind c.loop-i.ops (ready ∷ [])
          ∙ (ap (λ ks. ks ++ ready_kind ready ∷ []) c.loop-i.invariant.kinds
          ∙ (ap (λ k. map kind_of_view (take i views) ++ k ∷ []) c.in_ok-ready_op.ensures.kind
          ∙ (sym (map-append kind_of_view (take i views) (op ∷ [])) ∙ ap (map kind_of_view) (sym more)))));
    }

pub returns-clause-base : goal.returns-clause-base
returns-clause-base c =
    let store = c.args.store.now in
    let views = c.args.views.now in
    let drawn = IsDrawn-base store c.store_facts.ensures in
    let past = c.loop-i-test.false in
    let end = c.len-i-end.ensures in
    let all : c.loop-i.i ≡ length views = omega (arith, past, end) in
    let whole : take c.loop-i.i views ≡ views = ap (λ n. take n views) all ∙ take-length views in
    c.loop-i.invariant.world (base_of store) drawn ∙ ap (λ ops. apply ops (base_of store)) whole
