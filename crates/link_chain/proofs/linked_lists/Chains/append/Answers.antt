use Rattle.std.proofs.Common.{◌≡◌, ◌++◌, ◌∷◌, [], List, length, ap, ◌∙◌, arith}
use Rattle.std.proofs.lemmas.List.{length-set, get_or_read}
use Rattle.link_chain.specs.Chains.{list_at, link_count}
use Rattle.link_chain.proofs.ChainLaws.{link_count-put_last}
use Rattle.link_chain.specs.declared.linked_lists.Link.{Link}
use Rattle.link_chain.specs.Indexes.{nowhere}
use Rattle.link_chain.specs.HeadsAndLinks.{head_at}
use Rattle.link_chain.proofs.ChainResults.{lt_heads, appended_first_is, appended_last_is, last_place_is}
use Rattle.link_chain.proofs.linked_lists.Chains.append.Goals as goal

pub invariant_of-self-then-last : goal.invariant_of-self-then-last
invariant_of-self-then-last c =
    let s = c.self.inside in
    let e = ap (λ v. v.lists) c.self.view_is in
    let n_is : c.len-link.result ≡ length s.links.items = omega (arith, c.len-link.ensures, c.reserve.ensures.len, s.links.ok.0) in
    let last_is : c.index.result.now.last ≡ (head_at s.heads.items c.args.head).last = ap (λ h. h.last) (get_or_read s.heads.items c.args.head c.index.result.now (lt_heads s.heads.items s.links.items c.args.self.now.lists c.args.head e c.self.invariant c.requires.head) c.index.ensures (record { first = nowhere; last = nowhere })) in
    let more_is : c.push_reserved.new.self.items ≡ s.links.items ++ record { item = c.args.item; next = nowhere } ∷ [] =
    c.push_reserved.ensures.items ∙ ap (λ (ls : List Link). ls ++ record { item = c.args.item; next = nowhere } ∷ []) c.reserve.ensures.items in
    (appended_first_is s.heads.items c.begin.new.heads.items s.links.items c.push_reserved.new.self.items c.args.self.now.lists c.args.head c.len-link.result c.args.item c.index.result.now.last e c.self.invariant
    c.requires.head n_is c.requires.few last_is c.if-last.true c.begin.ensures.items more_is).chains

pub returns-then-last-clause-lists : goal.returns-then-last-clause-lists
returns-then-last-clause-lists c =
    let s = c.self.inside in
    let e = ap (λ v. v.lists) c.self.view_is in
    let n_is : c.len-link.result ≡ length s.links.items = omega (arith, c.len-link.ensures, c.reserve.ensures.len, s.links.ok.0) in
    let last_is : c.index.result.now.last ≡ (head_at s.heads.items c.args.head).last = ap (λ h. h.last) (get_or_read s.heads.items c.args.head c.index.result.now (lt_heads s.heads.items s.links.items c.args.self.now.lists c.args.head e c.self.invariant c.requires.head) c.index.ensures (record { first = nowhere; last = nowhere })) in
    let more_is : c.push_reserved.new.self.items ≡ s.links.items ++ record { item = c.args.item; next = nowhere } ∷ [] =
    c.push_reserved.ensures.items ∙ ap (λ (ls : List Link). ls ++ record { item = c.args.item; next = nowhere } ∷ []) c.reserve.ensures.items in
    (appended_first_is s.heads.items c.begin.new.heads.items s.links.items c.push_reserved.new.self.items c.args.self.now.lists c.args.head c.len-link.result c.args.item c.index.result.now.last e c.self.invariant
    c.requires.head n_is c.requires.few last_is c.if-last.true c.begin.ensures.items more_is).lists

pub lead_on-requires : goal.lead_on-requires
lead_on-requires c =
    let s = c.self.inside in
    let e = ap (λ v. v.lists) c.self.view_is in
    let n_is : c.len-link.result ≡ length s.links.items = omega (arith, c.len-link.ensures, c.reserve.ensures.len, s.links.ok.0) in
    let last_is : c.index.result.now.last ≡ (head_at s.heads.items c.args.head).last = ap (λ h. h.last) (get_or_read s.heads.items c.args.head c.index.result.now (lt_heads s.heads.items s.links.items c.args.self.now.lists c.args.head e c.self.invariant c.requires.head) c.index.ensures (record { first = nowhere; last = nowhere })) in
    let more_is : c.push_reserved.new.self.items ≡ s.links.items ++ record { item = c.args.item; next = nowhere } ∷ [] =
    c.push_reserved.ensures.items ∙ ap (λ (ls : List Link). ls ++ record { item = c.args.item; next = nowhere } ∷ []) c.reserve.ensures.items in
    omega (
      arith,
      last_place_is s.heads.items s.links.items c.args.head c.index.result.now.last c.self.invariant (omega (arith, ap length e, c.requires.head)) last_is c.if-last.false,
      c.push_reserved.ensures.len,
      c.reserve.ensures.len,
      s.links.ok.0,
    )

pub invariant_of-self-2 : goal.invariant_of-self-2
invariant_of-self-2 c =
    let s = c.self.inside in
    let e = ap (λ v. v.lists) c.self.view_is in
    let n_is : c.len-link.result ≡ length s.links.items = omega (arith, c.len-link.ensures, c.reserve.ensures.len, s.links.ok.0) in
    let last_is : c.index.result.now.last ≡ (head_at s.heads.items c.args.head).last = ap (λ h. h.last) (get_or_read s.heads.items c.args.head c.index.result.now (lt_heads s.heads.items s.links.items c.args.self.now.lists c.args.head e c.self.invariant c.requires.head) c.index.ensures (record { first = nowhere; last = nowhere })) in
    let more_is : c.push_reserved.new.self.items ≡ s.links.items ++ record { item = c.args.item; next = nowhere } ∷ [] =
    c.push_reserved.ensures.items ∙ ap (λ (ls : List Link). ls ++ record { item = c.args.item; next = nowhere } ∷ []) c.reserve.ensures.items in
    (appended_last_is s.heads.items c.end_with.new.heads.items s.links.items c.push_reserved.new.self.items c.lead_on.new.links.items c.args.self.now.lists c.args.head c.len-link.result c.args.item c.index.result.now.last e c.self.invariant
    c.requires.head n_is c.requires.few last_is c.if-last.false more_is c.lead_on.ensures.items c.end_with.ensures.items).chains

pub returns-clause-lists : goal.returns-clause-lists
returns-clause-lists c =
    let s = c.self.inside in
    let e = ap (λ v. v.lists) c.self.view_is in
    let n_is : c.len-link.result ≡ length s.links.items = omega (arith, c.len-link.ensures, c.reserve.ensures.len, s.links.ok.0) in
    let last_is : c.index.result.now.last ≡ (head_at s.heads.items c.args.head).last = ap (λ h. h.last) (get_or_read s.heads.items c.args.head c.index.result.now (lt_heads s.heads.items s.links.items c.args.self.now.lists c.args.head e c.self.invariant c.requires.head) c.index.ensures (record { first = nowhere; last = nowhere })) in
    let more_is : c.push_reserved.new.self.items ≡ s.links.items ++ record { item = c.args.item; next = nowhere } ∷ [] =
    c.push_reserved.ensures.items ∙ ap (λ (ls : List Link). ls ++ record { item = c.args.item; next = nowhere } ∷ []) c.reserve.ensures.items in
    (appended_last_is s.heads.items c.end_with.new.heads.items s.links.items c.push_reserved.new.self.items c.lead_on.new.links.items c.args.self.now.lists c.args.head c.len-link.result c.args.item c.index.result.now.last e c.self.invariant
    c.requires.head n_is c.requires.few last_is c.if-last.false more_is c.lead_on.ensures.items c.end_with.ensures.items).lists

pub returns-then-last-clause-head_count : goal.returns-then-last-clause-head_count
returns-then-last-clause-head_count c = ap length (returns-then-last-clause-lists c) ∙ length-set c.args.self.now.lists c.args.head (list_at c.args.self.now.lists c.args.head ++ (link_count c.args.self.now.lists, c.args.item) ∷ [])

pub returns-then-last-clause-link_count : goal.returns-then-last-clause-link_count
returns-then-last-clause-link_count c = ap link_count (returns-then-last-clause-lists c) ∙ link_count-put_last c.args.head c.args.item c.args.self.now.lists c.requires.head

pub returns-clause-head_count : goal.returns-clause-head_count
returns-clause-head_count c = ap length (returns-clause-lists c) ∙ length-set c.args.self.now.lists c.args.head (list_at c.args.self.now.lists c.args.head ++ (link_count c.args.self.now.lists, c.args.item) ∷ [])

pub returns-clause-link_count : goal.returns-clause-link_count
returns-clause-link_count c = ap link_count (returns-clause-lists c) ∙ link_count-put_last c.args.head c.args.item c.args.self.now.lists c.requires.head
