-- What a call answers, and the lists after it, from the fields.
use Rattle.std.proofs.Common.{◌≡◌, ◌≢◌, ℕ, ◌<◌, List, [], ◌∷◌, ◌++◌, length, drop, get_or, set, sum_by, sym, ap, ◌∙◌, subst, arith}
use Rattle.std.proofs.lemmas.List.{get_or_read}
use Rattle.link_chain.specs.declared.linked_lists.Head.{Head}
use Rattle.link_chain.specs.declared.linked_lists.Link.{Link}
use Rattle.link_chain.specs.Chains.{list_at, from_link, IsLink, IsLinkedOnce}
use Rattle.link_chain.specs.Indexes.{nowhere}
use Rattle.link_chain.specs.HeadsAndLinks.{head_at, link_at, lists_of, AreChains}
use Rattle.link_chain.proofs.ChainWalks.{lists_are, there, IsFound, first_found, first_none, next_found, next_none}
use Rattle.link_chain.proofs.ChainGrowth.{added, appended_first, appended_last, last_place}

pub record IsGrown (heads : List Head) (links : List Link) (want : List (List (ℕ × ℕ))) : Type 0 where
  pub chains : AreChains heads links (lists_of heads links)
  pub lists : lists_of heads links ≡ want

grown : (heads : List Head) (links : List Link) (lists : List (List (ℕ × ℕ))) → AreChains heads links lists → IsGrown heads links lists
grown heads links lists chains =
    let e = lists_are heads links lists chains in
    record { chains = subst (AreChains heads links) (sym e) chains; lists = e }

pub added_is : (heads hs : List Head) (links : List Link) (now : List (List (ℕ × ℕ))) → lists_of heads links ≡ now → AreChains heads links (lists_of heads links)
    → hs ≡ heads ++ record { first = nowhere; last = nowhere } ∷ [] → IsGrown hs links (now ++ [] ∷ [])
added_is heads hs links now e chains hs_is =
    grown hs links (now ++ [] ∷ []) (subst (λ (xs : List Head). AreChains xs links (now ++ [] ∷ [])) (sym hs_is) (added heads links now (subst (AreChains heads links) e chains)))

pub appended_first_is : (heads hs : List Head) (links ls : List Link) (now : List (List (ℕ × ℕ))) (h n item last : ℕ) → lists_of heads links ≡ now → AreChains heads links (lists_of heads links)
    → h < length now → n ≡ length links → sum_by length now < nowhere → last ≡ (head_at heads h).last → last ≡ nowhere
    → hs ≡ set heads h (record { first = n; last = n }) → ls ≡ links ++ record { item = item; next = nowhere } ∷ []
    → IsGrown hs ls (set now h (list_at now h ++ (sum_by length now, item) ∷ []))
appended_first_is heads hs links ls now h n item last e chains lt n_is few last_is none hs_is ls_is =
    let here = subst (AreChains heads links) e chains in
    let base = appended_first heads links now h item here (omega (arith, lt, here.same)) (omega (arith, few, here.count)) (sym last_is ∙ none) in
    grown hs ls (set now h (list_at now h ++ (sum_by length now, item) ∷ []))
    (subst (λ (m : ℕ). AreChains hs ls (set now h (list_at now h ++ (m, item) ∷ []))) (sym here.count)
    (subst (λ (xs : List Head). AreChains xs ls (set now h (list_at now h ++ (length links, item) ∷ []))) (sym (hs_is ∙ ap (λ (m : ℕ). set heads h (record { first = m; last = m })) n_is))
    (subst (λ (ys : List Link). AreChains (set heads h (record { first = length links; last = length links })) ys (set now h (list_at now h ++ (length links, item) ∷ []))) (sym ls_is) base)))

pub last_place_is : (heads : List Head) (links : List Link) (h last : ℕ) → AreChains heads links (lists_of heads links)
    → h < length (lists_of heads links) → last ≡ (head_at heads h).last → last ≢ nowhere → last < length links
last_place_is heads links h last chains lt last_is ne =
    omega (arith, last_is, last_place heads links (lists_of heads links) h chains (omega (arith, lt, chains.same)) (λ e. ne (last_is ∙ e)))

pub appended_last_is : (heads hs : List Head) (links more ls : List Link) (now : List (List (ℕ × ℕ))) (h n item last : ℕ) → lists_of heads links ≡ now → AreChains heads links (lists_of heads links)
    → h < length now → n ≡ length links → sum_by length now < nowhere → last ≡ (head_at heads h).last → last ≢ nowhere
    → more ≡ links ++ record { item = item; next = nowhere } ∷ []
    → ls ≡ set more last (record { item = (link_at more last).item; next = n })
    → hs ≡ set heads h (record { first = (head_at heads h).first; last = n })
    → IsGrown hs ls (set now h (list_at now h ++ (sum_by length now, item) ∷ []))
appended_last_is heads hs links more ls now h n item last e chains lt n_is few last_is ne more_is ls_is hs_is =
    let here = subst (AreChains heads links) e chains in
    let base = appended_last heads links now h item here (omega (arith, lt, here.same)) (omega (arith, few, here.count)) (λ none. ne (last_is ∙ none)) in
    let mid : AreChains (set heads h (record { first = (head_at heads h).first; last = length links }))
    (set more last (record { item = (link_at more last).item; next = length links })) (set now h (list_at now h ++ (length links, item) ∷ [])) = rw (more_is, last_is) base in
    grown hs ls (set now h (list_at now h ++ (sum_by length now, item) ∷ []))
    (subst (λ (m : ℕ). AreChains hs ls (set now h (list_at now h ++ (m, item) ∷ []))) (sym here.count)
    (subst (λ (xs : List Head). AreChains xs ls (set now h (list_at now h ++ (length links, item) ∷ []))) (sym (hs_is ∙ ap (λ (m : ℕ). set heads h (record { first = (head_at heads h).first; last = m })) n_is))
    (subst (λ (ys : List Link). AreChains (set heads h (record { first = (head_at heads h).first; last = length links })) ys (set now h (list_at now h ++ (length links, item) ∷ []))) (sym (ls_is ∙ ap (λ (m : ℕ). set more last (record { item = (link_at more last).item; next = m })) n_is)) mid)))

-- what the readers answer, where `read` is what an index gives
pub once_is : (heads : List Head) (links : List Link) (now : List (List (ℕ × ℕ))) → lists_of heads links ≡ now → AreChains heads links (lists_of heads links) → IsLinkedOnce now
once_is heads links now e chains = (subst (AreChains heads links) e chains).once

pub lt_heads : (heads : List Head) (links : List Link) (now : List (List (ℕ × ℕ))) (h : ℕ) → lists_of heads links ≡ now → AreChains heads links (lists_of heads links)
    → h < length now → h < length heads
lt_heads heads links now h e chains lt = omega (arith, lt, (subst (AreChains heads links) e chains).same)

head_read : (heads : List Head) (links : List Link) (now : List (List (ℕ × ℕ))) (h : ℕ) (read : Head) → AreChains heads links now → h < length now
    → read ≡ get_or heads h read → read.first ≡ (head_at heads h).first
head_read heads links now h read here lt read_is =
    ap (λ k. k.first) (get_or_read heads h read (omega (arith, lt, here.same)) read_is (record { first = nowhere; last = nowhere }))

pub first_is_found : (heads : List Head) (links : List Link) (now : List (List (ℕ × ℕ))) (h : ℕ) (read : Head) → lists_of heads links ≡ now → AreChains heads links (lists_of heads links)
    → h < length now → read ≡ get_or heads h read → read.first ≢ nowhere → IsFound links read.first now (list_at now h)
first_is_found heads links now h read e chains lt read_is ne =
    let here = subst (AreChains heads links) e chains in
    first_found heads links now h read.first here (head_read heads links now h read here lt read_is) lt ne

pub first_is_none : (heads : List Head) (links : List Link) (now : List (List (ℕ × ℕ))) (h : ℕ) (read : Head) → lists_of heads links ≡ now → AreChains heads links (lists_of heads links)
    → h < length now → read ≡ get_or heads h read → read.first ≡ nowhere → [] ≡ list_at now h
first_is_none heads links now h read e chains lt read_is none =
    let here = subst (AreChains heads links) e chains in
    first_none heads links now h read.first here (head_read heads links now h read here lt read_is) lt none

pub link_in : (heads : List Head) (links : List Link) (now : List (List (ℕ × ℕ))) (l : ℕ) → lists_of heads links ≡ now → AreChains heads links (lists_of heads links)
    → IsLink now l → l < length links
link_in heads links now l e chains some = (there heads links now l (subst (AreChains heads links) e chains) some).within

link_read : (links : List Link) (l : ℕ) (read : Link) → l < length links → read ≡ get_or links l read → read ≡ link_at links l
link_read links l read lt read_is = get_or_read links l read lt read_is (record { item = 0; next = nowhere })

pub next_is_found : (heads : List Head) (links : List Link) (now : List (List (ℕ × ℕ))) (l : ℕ) (read : Link) → lists_of heads links ≡ now → AreChains heads links (lists_of heads links)
    → IsLink now l → read ≡ get_or links l read → read.next ≢ nowhere → IsFound links read.next now (drop 1 (from_link l now))
next_is_found heads links now l read e chains some read_is ne =
    next_found heads links now l read.next (subst (AreChains heads links) e chains) some
    (ap (λ k. k.next) (link_read links l read (link_in heads links now l e chains some) read_is)) ne

pub next_is_none : (heads : List Head) (links : List Link) (now : List (List (ℕ × ℕ))) (l : ℕ) (read : Link) → lists_of heads links ≡ now → AreChains heads links (lists_of heads links)
    → IsLink now l → read ≡ get_or links l read → read.next ≡ nowhere → [] ≡ drop 1 (from_link l now)
next_is_none heads links now l read e chains some read_is none =
    next_none heads links now l read.next (subst (AreChains heads links) e chains) some
    (ap (λ k. k.next) (link_read links l read (link_in heads links now l e chains some) read_is)) none

pub item_is : (heads : List Head) (links : List Link) (now : List (List (ℕ × ℕ))) (l : ℕ) (read : Link) → lists_of heads links ≡ now → AreChains heads links (lists_of heads links)
    → IsLink now l → read ≡ get_or links l read → from_link l now ≡ (l, read.item) ∷ drop 1 (from_link l now)
item_is heads links now l read e chains some read_is =
    (there heads links now l (subst (AreChains heads links) e chains) some).pair
    ∙ sym (ap (λ (k : Link). (l, k.item) ∷ drop 1 (from_link l now)) (link_read links l read (link_in heads links now l e chains some) read_is))
