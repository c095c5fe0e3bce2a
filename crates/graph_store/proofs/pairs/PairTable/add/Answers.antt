use Rattle.std.proofs.Common.{◌≡◌, ◌++◌, ◌∷◌, [], ◌<◌, ◌-◌, ◌^◌, length, min, ap, sym, ◌∙◌, arith, subst}
use Rattle.std.specs.Prelude.{false}
use Rattle.std.specs.List.{list_any}
use Rattle.indexmap.specs.IndexSet.{spare}
use Rattle.graph_store.specs.Ends.{same_ends}
use Rattle.graph_store.specs.PairIndex.{PairIndex}
use Rattle.link_chain.specs.Chains.{put_last}
use Rattle.graph_store.proofs.pairs.PairTable.add.Goals as goal
use Rattle.graph_store.proofs.Results.{sure, insert_key-new}
use Rattle.graph_store.proofs.PairLaws.{IsPairIndex-push, IsPairIndex-along}

room : (c : goal.After-append-2) → 0 < min (spare c.self.inside.ends) (min c.self.inside.outward.spare_links c.self.inside.inward.spare_links)
room c = subst (λ (v : PairIndex). 0 < v.spare_pairs) (sym c.self.view_is) c.requires.room

keys : (c : goal.After-append-2) → c.insert.new.self.keys ≡ c.self.inside.ends.keys ++ c.args.ends ∷ []
keys c =
    let r = room c in
    sure c.insert.result (c.insert.ensures.succeeds (omega arith)) c.insert.ensures.keys
    ∙ insert_key-new same_ends c.self.inside.ends.keys c.args.ends (subst (λ (v : PairIndex). list_any (same_ends c.args.ends) v.pairs ≡ false) (sym c.self.view_is) c.requires.new)

pub invariant_of-self : goal.invariant_of-self
invariant_of-self c =
    let r = room c in
    let out : c.append.new.self.lists ≡ put_last c.args.ends.src (length c.self.inside.ends.keys) c.self.inside.outward.lists =
    sure c.append.result (c.append.ensures.room (omega arith)) c.append.ensures.lists ∙ ap (λ n. put_last c.args.ends.src n c.self.inside.outward.lists) c.len-pair.ensures.len in
    let inn : c.append-2.new.self.lists ≡ put_last c.args.ends.dst (length c.self.inside.ends.keys) c.self.inside.inward.lists =
    sure c.append-2.result (c.append-2.ensures.room (omega arith)) c.append-2.ensures.lists ∙ ap (λ n. put_last c.args.ends.dst n c.self.inside.inward.lists) c.len-pair.ensures.len in
    let few : length c.self.inside.ends.keys < 2 ^ 32 - 1 = subst (λ (v : PairIndex). length v.pairs < 2 ^ 32 - 1) (sym c.self.view_is) c.requires.few in
    IsPairIndex-along _ _ _ _ _ _ (keys c) out inn
    (IsPairIndex-push c.self.inside.ends.keys c.args.ends c.self.inside.outward.lists c.self.inside.inward.lists
    (subst (λ (v : PairIndex). c.args.ends.src < v.nodes) (sym c.self.view_is) c.requires.src)
    (subst (λ (v : PairIndex). c.args.ends.dst < v.nodes) (sym c.self.view_is) c.requires.dst)
    (omega arith) c.self.invariant)

pub returns-clause-pairs : goal.returns-clause-pairs
returns-clause-pairs c = keys c ∙ ap (λ (v : PairIndex). v.pairs ++ c.args.ends ∷ []) c.self.view_is
