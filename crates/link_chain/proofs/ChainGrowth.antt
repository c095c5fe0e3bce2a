-- A list more, and an item more at the end of a list.
use Rattle.std.proofs.Common.{◌≡◌, ◌≢◌, ℕ, zero, suc, ◌+◌, ◌<◌, ◌≤◌, Bool, true, false, cond, eqb, List, [], ◌∷◌, ◌++◌, length, set, sum_by, refl, sym, ap, ◌∙◌, subst, inl, inr, arith}
use Rattle.std.proofs.lemmas.Bool.{eqb-true, eq-eqb, ne_eqb, cases_eq, cases_lt}
use Rattle.std.proofs.lemmas.List.{length-set, get_or-set_same, get_or-set_other, get_or_append_left, get_or_push, length_push}
use Rattle.std.proofs.lemmas.List.Sums.{sum_by-cons, sum_by-set, sum_by_push, get_or-le-sum_by}
use Rattle.link_chain.specs.declared.linked_lists.Head.{Head}
use Rattle.link_chain.specs.declared.linked_lists.Link.{Link}
use Rattle.link_chain.specs.Chains.{list_at, times}
use Rattle.link_chain.specs.Indexes.{nowhere}
use Rattle.link_chain.specs.HeadsAndLinks.{head_at, link_at, IsStep, IsChainFrom, last_link, AreChains}

pub no_head : Head
no_head = record { first = nowhere; last = nowhere }

pub no_link : Link
no_link = record { item = 0; next = nowhere }

-- an empty list more
pub added : (heads : List Head) (links : List Link) (lists : List (List (ℕ × ℕ))) → AreChains heads links lists
    → AreChains (heads ++ record { first = nowhere; last = nowhere } ∷ []) links (lists ++ [] ∷ [])
added heads links lists chains = record {
  few = chains.few;
  same = length_push lists [] ∙ ap (λ n. n + 1) chains.same ∙ sym (length_push heads (record { first = nowhere; last = nowhere }));
  count = omega (arith, sum_by_push length lists [], chains.count);
  once = λ l. omega (arith, sum_by_push (times l) lists [], chains.once l);
  walks = λ h lt. elim (cases_lt h (length heads)) [
    | inl in_front ↦
        rw (
          get_or_append_left heads (record { first = nowhere; last = nowhere } ∷ []) (record { first = nowhere; last = nowhere }) h in_front,
          get_or_append_left lists ([] ∷ []) [] h (omega (arith, in_front, chains.same)),
        ) (chains.walks h in_front)
    | inr above ↦
        let e : length heads ≡ h = omega (arith, lt, above, length_push heads (record { first = nowhere; last = nowhere })) in
        rw (
          get_or_push heads (record { first = nowhere; last = nowhere }) (record { first = nowhere; last = nowhere }) h e,
          get_or_push lists [] [] h (chains.same ∙ e),
        ) refl
  ];
  ends = λ h lt. elim (cases_lt h (length heads)) [
    | inl in_front ↦
        rw (
          get_or_append_left heads (record { first = nowhere; last = nowhere } ∷ []) (record { first = nowhere; last = nowhere }) h in_front,
          get_or_append_left lists ([] ∷ []) [] h (omega (arith, in_front, chains.same)),
        ) (chains.ends h in_front)
    | inr above ↦
        let e : length heads ≡ h = omega (arith, lt, above, length_push heads (record { first = nowhere; last = nowhere })) in
        rw (
          get_or_push heads (record { first = nowhere; last = nowhere }) (record { first = nowhere; last = nowhere }) h e,
          get_or_push lists [] [] h (chains.same ∙ e),
        ) refl
  ];
}

-- a walk is the same where its links are
pub walk_same : (links ls : List Link) (l : ℕ) (xs : List (ℕ × ℕ)) → length links ≤ length ls
    → ((i : ℕ) → i < length links → 0 < times i xs → link_at ls i ≡ link_at links i) → IsChainFrom links l xs → IsChainFrom ls l xs
walk_same links ls l [] le same w = w
walk_same links ls l (p ∷ ps) le same w =
    let t : eqb p.0 l ≡ true = eq-eqb p.0 l (ap (λ q. q.0) w.0.here) in
    let e : link_at ls l ≡ link_at links l = same l w.0.within (rw t (omega arith)) in (
      subst (λ (k : Link). IsStep k (length ls) l p) (sym e) (record { here = w.0.here; within = omega (arith, le, w.0.within); rises = w.0.rises }),
      subst (λ (m : ℕ). IsChainFrom ls m ps) (sym (ap (λ k. k.next) e))
          (walk_same links ls (link_at links l).next ps le (λ i lt some. same i lt (omega (arith, some))) w.1),
    )

last_above : (links : List Link) (l d : ℕ) (p : ℕ × ℕ) (ps : List (ℕ × ℕ)) → IsChainFrom links l (p ∷ ps) → l ≤ last_link d (p ∷ ps)
last_above links l d p [] w = omega (arith, ap (λ q. q.0) w.0.here)
last_above links l d p (q ∷ qs) w = omega (arith, w.0.rises, last_above links (link_at links l).next p.0 q qs w.1)

last_in : (links : List Link) (l d : ℕ) (p : ℕ × ℕ) (ps : List (ℕ × ℕ)) → IsChainFrom links l (p ∷ ps) → last_link d (p ∷ ps) < length links
last_in links l d p [] w = omega (arith, ap (λ q. q.0) w.0.here, w.0.within)
last_in links l d p (q ∷ qs) w = last_in links (link_at links l).next p.0 q qs w.1

last_stands : (d : ℕ) (p : ℕ × ℕ) (ps : List (ℕ × ℕ)) → 0 < times (last_link d (p ∷ ps)) (p ∷ ps)
last_stands d p [] = rw (eq-eqb p.0 p.0 refl) (omega arith)
last_stands d p (q ∷ qs) = omega (arith, last_stands p.0 q qs)

walk_end : (ls : List Link) (n item : ℕ) → link_at ls n ≡ record { item = item; next = nowhere } → n < length ls → n < nowhere → IsChainFrom ls n ((n, item) ∷ [])
walk_end ls n item e lt few =
    (subst (λ (k : Link). IsStep k (length ls) n (n, item)) (sym e) (record { here = refl; within = lt; rises = few }), ap (λ k. k.next) e)

pub walk_append : (links ls : List Link) (n t item : ℕ) → length ls ≡ length links + 1 → n ≡ length links → n < nowhere
    → ((i : ℕ) → i < length links → i ≢ t → link_at ls i ≡ link_at links i)
    → link_at ls t ≡ record { item = (link_at links t).item; next = n } → link_at ls n ≡ record { item = item; next = nowhere }
    → (l d : ℕ) (p : ℕ × ℕ) (ps : List (ℕ × ℕ)) → IsChainFrom links l (p ∷ ps) → last_link d (p ∷ ps) ≡ t → IsChainFrom ls l (p ∷ (ps ++ (n, item) ∷ []))
walk_append links ls n t item len new few others at_t at_n l d p [] w last =
    let same : t ≡ l = sym last ∙ ap (λ q. q.0) w.0.here in
    let e : link_at ls l ≡ record { item = (link_at links l).item; next = n } = subst (λ (m : ℕ). link_at ls m ≡ record { item = (link_at links m).item; next = n }) same at_t in (
      subst (λ (k : Link). IsStep k (length ls) l p) (sym e) (record { here = w.0.here; within = omega (arith, len, w.0.within); rises = omega (arith, new, w.0.within) }),
      subst (λ (m : ℕ). IsChainFrom ls m ((n, item) ∷ [])) (sym (ap (λ k. k.next) e)) (walk_end ls n item at_n (omega (arith, len, new)) few),
    )
walk_append links ls n t item len new few others at_t at_n l d p (q ∷ qs) w last =
    let ne : l ≢ t = λ same. absurd (omega (arith, w.0.rises, last_above links (link_at links l).next p.0 q qs w.1, last, same)) in
    let e : link_at ls l ≡ link_at links l = others l w.0.within ne in (
      subst (λ (k : Link). IsStep k (length ls) l p) (sym e) (record { here = w.0.here; within = omega (arith, len, w.0.within); rises = w.0.rises }),
      subst (λ (m : ℕ). IsChainFrom ls m (q ∷ (qs ++ (n, item) ∷ []))) (sym (ap (λ k. k.next) e))
          (walk_append links ls n t item len new few others at_t at_n (link_at links l).next p.0 q qs w.1 last),
    )

-- no link is at or above the count of links
none_above : (links : List Link) (l m : ℕ) (xs : List (ℕ × ℕ)) → IsChainFrom links l xs → length links ≤ m → times m xs ≡ 0
none_above links l m [] w le = refl
none_above links l m (p ∷ ps) w le =
    let e : eqb p.0 m ≡ false = ne_eqb p.0 m (λ same. absurd (omega (arith, same, ap (λ q. q.0) w.0.here, w.0.within, le))) in
    rw e (omega (arith, none_above links (link_at links l).next m ps w.1 le))

none_sum : (l : ℕ) (lists : List (List (ℕ × ℕ))) → ((h : ℕ) → h < length lists → times l (list_at lists h) ≡ 0) → sum_by (times l) lists ≡ 0
none_sum l [] none = refl
none_sum l (xs ∷ xss) none = omega (arith, sum_by-cons (times l) xs xss, none zero (omega arith), none_sum l xss (λ h lt. none (suc h) (omega (arith, lt))))

-- no link stands in two lists
two_lists : (l : ℕ) (lists : List (List (ℕ × ℕ))) (h k : ℕ) → h < length lists → k < length lists → k ≢ h → times l (list_at lists h) + times l (list_at lists k) ≤ sum_by (times l) lists
two_lists l lists h k lt mt ne =
    omega (
      arith,
      sum_by-set (times l) lists h [] [] lt,
      get_or-le-sum_by (times l) (set lists h []) k [] (omega (arith, length-set lists h [], mt)),
      ap (times l) (get_or-set_other lists h k [] [] ne),
    )

times_push : (l n x : ℕ) (xs : List (ℕ × ℕ)) → times l (xs ++ (n, x) ∷ []) ≡ times l xs + cond (eqb n l) 1 0
times_push l n x [] = omega arith
times_push l n x (p ∷ ps) = omega (arith, times_push l n x ps)

last_push : (d n x : ℕ) (xs : List (ℕ × ℕ)) → last_link d (xs ++ (n, x) ∷ []) ≡ n
last_push d n x [] = refl
last_push d n x (p ∷ ps) = last_push p.0 n x ps

once_split : (l n : ℕ) (b : Bool) → eqb n l ≡ b → (before after old new : ℕ) → after + old ≡ before + new → new ≡ old + cond b 1 0 → before ≤ 1 → (n ≡ l → before ≡ 0) → after ≤ 1
once_split l n true e before after old new set_is new_is once none = omega (arith, none (eqb-true n l e))
once_split l n false e before after old new set_is new_is once none = omega arith

-- the lists with a new link at the end of one
pub appended : (heads hs : List Head) (links ls : List Link) (lists : List (List (ℕ × ℕ))) (h n item : ℕ) → AreChains heads links lists
    → h < length heads → n ≡ length links → n < nowhere → length hs ≡ length heads → length ls ≡ length links + 1
    → (head_at hs h).last ≡ n → ((k : ℕ) → k ≢ h → head_at hs k ≡ head_at heads k)
    → IsChainFrom ls (head_at hs h).first (list_at lists h ++ (n, item) ∷ [])
    → ((k : ℕ) → k < length heads → k ≢ h → IsChainFrom ls (head_at heads k).first (list_at lists k))
    → AreChains hs ls (set lists h (list_at lists h ++ (n, item) ∷ []))
appended heads hs links ls lists h n item chains lt new few same_heads len last same here others =
    let xs = list_at lists h in
    let mt : h < length lists = omega (arith, lt, chains.same) in
    record {
      few = omega (arith, len, new, few);
      same = length-set lists h (xs ++ (n, item) ∷ []) ∙ chains.same ∙ sym same_heads;
      count = omega (arith, sum_by-set length lists h (xs ++ (n, item) ∷ []) [] mt, chains.count, len, length_push xs (n, item));
      once = λ l. once_split l n (eqb n l) refl (sum_by (times l) lists) (sum_by (times l) (set lists h (xs ++ (n, item) ∷ []))) (times l xs) (times l (xs ++ (n, item) ∷ []))
          (sum_by-set (times l) lists h (xs ++ (n, item) ∷ []) [] mt) (times_push l n item xs) (chains.once l)
          (λ e. none_sum l lists (λ k kt. none_above links (head_at heads k).first l (list_at lists k) (chains.walks k (omega (arith, kt, chains.same))) (omega (arith, e, new))));
      walks = λ k kt. elim (cases_eq k h) [
        | inl e ↦ subst (λ (m : ℕ). IsChainFrom ls (head_at hs m).first (list_at (set lists h (xs ++ (n, item) ∷ [])) m)) (sym e)
            (rw (get_or-set_same lists h (xs ++ (n, item) ∷ []) [] mt) here)
        | inr ne ↦ rw (same k ne, get_or-set_other lists h k (xs ++ (n, item) ∷ []) [] ne) (others k (omega (arith, kt, same_heads)) ne)
      ];
      ends = λ k kt. elim (cases_eq k h) [
        | inl e ↦ subst (λ (m : ℕ). (head_at hs m).last ≡ last_link nowhere (list_at (set lists h (xs ++ (n, item) ∷ [])) m)) (sym e)
            (rw (get_or-set_same lists h (xs ++ (n, item) ∷ []) [] mt) (last ∙ sym (last_push nowhere n item xs)))
        | inr ne ↦ rw (same k ne, get_or-set_other lists h k (xs ++ (n, item) ∷ []) [] ne) (chains.ends k (omega (arith, kt, same_heads)))
      ];
    }

empty_from_last : (links : List Link) (l : ℕ) (xs : List (ℕ × ℕ)) → length links ≤ nowhere → IsChainFrom links l xs → last_link nowhere xs ≡ nowhere → xs ≡ []
empty_from_last links l [] few w e = refl
empty_from_last links l (p ∷ ps) few w e = absurd (omega (arith, last_in links l nowhere p ps w, e, few))

-- where the list was empty
pub appended_first : (heads : List Head) (links : List Link) (lists : List (List (ℕ × ℕ))) (h item : ℕ) → AreChains heads links lists
    → h < length heads → length links < nowhere → (head_at heads h).last ≡ nowhere
    → AreChains (set heads h (record { first = length links; last = length links })) (links ++ record { item = item; next = nowhere } ∷ [])
    (set lists h (list_at lists h ++ (length links, item) ∷ []))
appended_first heads links lists h item chains lt few none =
    let z : Link = record { item = item; next = nowhere } in
    let empty : list_at lists h ≡ [] = empty_from_last links (head_at heads h).first (list_at lists h) chains.few (chains.walks h lt) (sym (chains.ends h lt) ∙ none) in
    let new : Head = record { first = length links; last = length links } in
    let at : head_at (set heads h new) h ≡ new = get_or-set_same heads h new (record { first = nowhere; last = nowhere }) lt in
    appended heads (set heads h new) links (links ++ z ∷ []) lists h (length links) item chains lt refl few (length-set heads h new) (length_push links z)
    (ap (λ k. k.last) at) (λ k ne. get_or-set_other heads h k new (record { first = nowhere; last = nowhere }) ne)
    (subst (λ (m : ℕ). IsChainFrom (links ++ z ∷ []) m (list_at lists h ++ (length links, item) ∷ [])) (sym (ap (λ k. k.first) at))
    (subst (λ (xs : List (ℕ × ℕ)). IsChainFrom (links ++ z ∷ []) (length links) (xs ++ (length links, item) ∷ [])) (sym empty)
    (walk_end (links ++ z ∷ []) (length links) item (get_or_push links z (record { item = 0; next = nowhere }) (length links) refl) (omega (arith, length_push links z)) few)))
    (λ k kt ne. walk_same links (links ++ z ∷ []) (head_at heads k).first (list_at lists k) (omega (arith, length_push links z))
    (λ i it some. get_or_append_left links (z ∷ []) (record { item = 0; next = nowhere }) i it) (chains.walks k kt))

-- what the last link says where there is one
pub last_place : (heads : List Head) (links : List Link) (lists : List (List (ℕ × ℕ))) (h : ℕ) → AreChains heads links lists
    → h < length heads → (head_at heads h).last ≢ nowhere → (head_at heads h).last < length links
last_place heads links lists h chains lt ne = some_last links (head_at heads h).first (list_at lists h) (head_at heads h).last (chains.walks h lt) (chains.ends h lt) ne
  where
    some_last : (links : List Link) (l : ℕ) (xs : List (ℕ × ℕ)) (t : ℕ) → IsChainFrom links l xs → t ≡ last_link nowhere xs → t ≢ nowhere → t < length links
    some_last links l [] t w e ne = absurd (ne e)
    some_last links l (p ∷ ps) t w e ne = omega (arith, last_in links l nowhere p ps w, e)

-- where the list had a last link
pub appended_last : (heads : List Head) (links : List Link) (lists : List (List (ℕ × ℕ))) (h item : ℕ) → AreChains heads links lists
    → h < length heads → length links < nowhere → (head_at heads h).last ≢ nowhere
    → AreChains (set heads h (record { first = (head_at heads h).first; last = length links }))
    (set (links ++ record { item = item; next = nowhere } ∷ []) (head_at heads h).last
    (record { item = (link_at (links ++ record { item = item; next = nowhere } ∷ []) (head_at heads h).last).item; next = length links }))
    (set lists h (list_at lists h ++ (length links, item) ∷ []))
appended_last heads links lists h item chains lt few ne =
    let z : Link = record { item = item; next = nowhere } in
    let none : Link = record { item = 0; next = nowhere } in
    let n = length links in
    let t = (head_at heads h).last in
    let tt' : t < n = last_place heads links lists h chains lt ne in
    let more = links ++ z ∷ [] in
    let y : Link = record { item = (link_at more t).item; next = n } in
    let ls = set more t y in
    let len : length ls ≡ n + 1 = length-set more t y ∙ length_push links z in
    let new : Head = record { first = (head_at heads h).first; last = n } in
    let at : head_at (set heads h new) h ≡ new = get_or-set_same heads h new (record { first = nowhere; last = nowhere }) lt in
    let kept : (i : ℕ) → i < n → i ≢ t → link_at ls i ≡ link_at links i = λ i it it'.
    get_or-set_other more t i y none it' ∙ get_or_append_left links (z ∷ []) none i it in
    let at_t : link_at ls t ≡ record { item = (link_at links t).item; next = n } =
    get_or-set_same more t y none (omega (arith, tt', length_push links z))
    ∙ ap (λ (k : Link). record { item = k.item; next = n }) (get_or_append_left links (z ∷ []) none t tt') in
    let at_n : link_at ls n ≡ z =
    get_or-set_other more t n y none (λ e. absurd (omega (arith, e, tt'))) ∙ get_or_push links z none n refl in
    appended heads (set heads h new) links ls lists h n item chains lt refl few (length-set heads h new) len
    (ap (λ k. k.last) at) (λ k ne'. get_or-set_other heads h k new (record { first = nowhere; last = nowhere }) ne')
    (subst (λ (m : ℕ). IsChainFrom ls m (list_at lists h ++ (n, item) ∷ [])) (sym (ap (λ k. k.first) at))
    (own links ls n t item len few kept at_t at_n (head_at heads h).first (list_at lists h) (chains.walks h lt) (sym (chains.ends h lt)) ne))
    (λ k kt ne'. walk_same links ls (head_at heads k).first (list_at lists k) (omega (arith, len))
    (λ i it some. kept i it (λ e. absurd (omega (
      arith,
      two_lists i lists h k (omega (arith, lt, chains.same)) (omega (arith, kt, chains.same)) ne',
      chains.once i,
      some,
      subst (λ (m : ℕ). 0 < times m (list_at lists h)) (sym e) (own_stands (list_at lists h) t (sym (chains.ends h lt)) ne),
    )))) (chains.walks k kt))
  where
    own : (links ls : List Link) (n t item : ℕ) → length ls ≡ length links + 1 → length links < nowhere
        → ((i : ℕ) → i < length links → i ≢ t → link_at ls i ≡ link_at links i)
        → link_at ls t ≡ record { item = (link_at links t).item; next = length links } → link_at ls (length links) ≡ record { item = item; next = nowhere }
        → (l : ℕ) (xs : List (ℕ × ℕ)) → IsChainFrom links l xs → last_link nowhere xs ≡ t → t ≢ nowhere → IsChainFrom ls l (xs ++ (length links, item) ∷ [])
    own links ls n t item len few kept at_t at_n l [] w e ne = absurd (ne (sym e))
    own links ls n t item len few kept at_t at_n l (p ∷ ps) w e ne = walk_append links ls (length links) t item len refl few kept at_t at_n l nowhere p ps w e

    own_stands : (xs : List (ℕ × ℕ)) (t : ℕ) → last_link nowhere xs ≡ t → t ≢ nowhere → 0 < times t xs
    own_stands [] t e ne = absurd (ne (sym e))
    own_stands (p ∷ ps) t e ne = subst (λ (m : ℕ). 0 < times m (p ∷ ps)) e (last_stands nowhere p ps)
