-- Walks along links, and what a new link changes.
use Rattle.std.proofs.Common.{◌≡◌, ◌≢◌, ℕ, zero, suc, ◌+◌, ◌<◌, ◌≤◌, Bool, true, false, cond, eqb, ltb, List, [], ◌∷◌, ◌++◌, length, drop, Some, sum_by, refl, sym, ap, ◌∙◌, subst, arith}
use Rattle.std.proofs.lemmas.Bool.{lt-ltb, le-ltb, eqb-true, eq-eqb}
use Rattle.std.proofs.lemmas.List.{append-nil, length-map, get_or-map, ext_get_or}
use Rattle.std.proofs.lemmas.List.Sums.{sum_by-cons, get_or-le-sum_by}
use Rattle.link_chain.specs.declared.linked_lists.Head.{Head}
use Rattle.link_chain.specs.declared.linked_lists.Link.{Link}
use Rattle.link_chain.specs.Chains.{list_at, rest, from_link, first_link, times, IsLink}
use Rattle.link_chain.specs.Indexes.{nowhere}
use Rattle.link_chain.specs.HeadsAndLinks.{head_at, link_at, walk, lists_of, IsChainFrom, AreChains}

-- two walks from one link are one
pub walk_one : (links : List Link) (l : ℕ) (xs ys : List (ℕ × ℕ)) → length links ≤ nowhere → IsChainFrom links l xs → IsChainFrom links l ys → xs ≡ ys
walk_one links l [] [] few v w = refl
walk_one links l [] (q ∷ qs) few v w = absurd (omega (arith, v, w.0.within))
walk_one links l (p ∷ ps) [] few v w = absurd (omega (arith, v.0.within, w))
walk_one links l (p ∷ ps) (q ∷ qs) few v w = let a = v.0.here in let b = w.0.here in let ih = walk_one links (link_at links l).next ps qs few v.1 w.1 in cc (a, b, ih)

pub walk_is : (links : List Link) (n l : ℕ) (xs : List (ℕ × ℕ)) → length links ≤ nowhere → length xs ≤ n → IsChainFrom links l xs → walk links n l ≡ xs
walk_is links zero l [] few le w = refl
walk_is links zero l (p ∷ ps) few le w = absurd (omega arith)
walk_is links (suc n) l [] few le w = let e : ltb l (length links) ≡ false = le-ltb l (length links) (omega (arith, w)) in rw e refl
walk_is links (suc n) l (p ∷ ps) few le w =
    let e : ltb l (length links) ≡ true = lt-ltb l (length links) w.0.within in
    let ih = walk_is links n (link_at links l).next ps few (omega arith) w.1 in
    let a = w.0.here in
    rw e (cc (a, ih))

-- the lists that the heads and links make are those that are walks from each head
pub lists_are : (heads : List Head) (links : List Link) (lists : List (List (ℕ × ℕ))) → AreChains heads links lists → lists_of heads links ≡ lists
lists_are heads links lists chains =
    ext_get_or [] (lists_of heads links) lists (length-map heads (λ head. walk links (length links) head.first) ∙ sym chains.same) (λ h lt.
    let within : h < length heads = omega (arith, lt, length-map heads (λ head. walk links (length links) head.first)) in
    get_or-map (λ head. walk links (length links) head.first) heads h (record { first = nowhere; last = nowhere }) [] within
    ∙ walk_is links (length links) (head_at heads h).first (list_at lists h) chains.few
    (omega (arith, chains.count, get_or-le-sum_by length lists h [] (omega (arith, chains.same)))) (chains.walks h within))

rest_split : (links : List Link) (l f : ℕ) (p : ℕ × ℕ) (ps : List (ℕ × ℕ)) (t : Bool) → eqb p.0 l ≡ t → p.0 ≡ f → IsChainFrom links f (p ∷ ps)
    → (0 < times l ps → IsChainFrom links l (rest l ps)) → 0 < cond t 1 0 + times l ps → IsChainFrom links l (cond t (p ∷ ps) (rest l ps))
rest_split links l f p ps true e same w ih some = subst (λ m. IsChainFrom links m (p ∷ ps)) (sym same ∙ eqb-true p.0 l e) w
rest_split links l f p ps false e same w ih some = ih (omega arith)

pub rest_walk : (links : List Link) (l f : ℕ) (xs : List (ℕ × ℕ)) → IsChainFrom links f xs → 0 < times l xs → IsChainFrom links l (rest l xs)
rest_walk links l f [] w some = absurd (omega arith)
rest_walk links l f (p ∷ ps) w some = rest_split links l f p ps (eqb p.0 l) refl (ap (λ q. q.0) w.0.here) w (rest_walk links l (link_at links f).next ps w.1) some

pub times_rest : (m l : ℕ) (xs : List (ℕ × ℕ)) → times m (rest l xs) ≤ times m xs
times_rest m l [] = omega arith
times_rest m l (p ∷ ps) = grind (arith, times_rest m l ps)

rest_none : (l : ℕ) (xs : List (ℕ × ℕ)) → times l xs ≡ 0 → rest l xs ≡ []
rest_none l [] none = refl
rest_none l (p ∷ ps) none = grind (arith, rest_none l ps)

pub from_none : (l : ℕ) (lists : List (List (ℕ × ℕ))) → sum_by (times l) lists ≡ 0 → from_link l lists ≡ []
from_none l [] none = refl
from_none l (xs ∷ xss) none =
    let s = sum_by-cons (times l) xs xss in
    rw (rest_none l xs (omega arith), from_none l xss (omega arith)) refl

-- a link that stands in a list is read from there
pub from_at : (l : ℕ) (lists : List (List (ℕ × ℕ))) (h : ℕ) → h < length lists → sum_by (times l) lists ≤ 1 → 0 < times l (list_at lists h) → from_link l lists ≡ rest l (list_at lists h)
from_at l [] h lt once some = absurd (omega arith)
from_at l (xs ∷ xss) zero lt once some =
    let s = sum_by-cons (times l) xs xss in
    rw (from_none l xss (omega arith)) (append-nil (rest l xs))
from_at l (xs ∷ xss) (suc h) lt once some =
    let s = sum_by-cons (times l) xs xss in
    let t = get_or-le-sum_by (times l) xss h [] (omega arith) in
    rw (rest_none l xs (omega (arith, some, s, t, once))) (from_at l xss h (omega arith) (omega arith) some)

in_split : (l : ℕ) (xs : List (ℕ × ℕ)) (xss : List (List (ℕ × ℕ))) (n : ℕ) → times l xs ≡ n
    → (0 < length (from_link l xss) → (h : ℕ) × (h < length xss) × (0 < times l (list_at xss h)))
    → 0 < length (rest l xs ++ from_link l xss) → (h : ℕ) × (h < length (xs ∷ xss)) × (0 < times l (list_at (xs ∷ xss) h))
in_split l xs xss zero e ih some =
    let some' : 0 < length (from_link l xss) = rw (rest_none l xs e) at some in
    let found = ih some' in (suc found.0, omega (arith, found.1), found.2)
in_split l xs xss (suc n) e ih some = (zero, omega arith, omega (arith, e))

pub from_in : (l : ℕ) (lists : List (List (ℕ × ℕ))) → 0 < length (from_link l lists) → (h : ℕ) × (h < length lists) × (0 < times l (list_at lists h))
from_in l [] some = absurd (omega arith)
from_in l (xs ∷ xss) some = in_split l xs xss (times l xs) refl (from_in l xss) some

-- a walk that begins somewhere has the link that it begins with
pub record IsStarted (links : List Link) (f : ℕ) (xs : List (ℕ × ℕ)) : Type 0 where
  pub some : 0 < length xs
  pub stands : 0 < times f xs
  pub first : Some f ≡ first_link xs
  pub whole : rest f xs ≡ xs

pub started : (links : List Link) (f : ℕ) (xs : List (ℕ × ℕ)) → IsChainFrom links f xs → f ≢ nowhere → IsStarted links f xs
started links f [] w ne = absurd (ne w)
started links f (p ∷ ps) w ne =
    let e : eqb p.0 f ≡ true = eq-eqb p.0 f (ap (λ q. q.0) w.0.here) in
    record { some = omega arith; stands = rw e (omega arith); first = ap Some (sym (ap (λ q. q.0) w.0.here)); whole = rw e refl }

pub record IsFound (links : List Link) (f : ℕ) (lists : List (List (ℕ × ℕ))) (xs : List (ℕ × ℕ)) : Type 0 where
  pub walk : from_link f lists ≡ xs
  pub exists : IsLink lists f
  pub first : Some f ≡ first_link xs

-- the list of a head is read from its first link
pub first_found : (heads : List Head) (links : List Link) (lists : List (List (ℕ × ℕ))) (h f : ℕ) → AreChains heads links lists
    → f ≡ (head_at heads h).first → h < length lists → f ≢ nowhere → IsFound links f lists (list_at lists h)
first_found heads links lists h f chains e lt ne =
    let w : IsChainFrom links f (list_at lists h) = subst (λ l. IsChainFrom links l (list_at lists h)) (sym e) (chains.walks h (omega (arith, chains.same))) in
    let s = started links f (list_at lists h) w ne in
    let a : from_link f lists ≡ list_at lists h = from_at f lists h lt (chains.once f) s.stands ∙ s.whole in
    record { walk = a; exists = rw a s.some; first = s.first }

no_walk : (links : List Link) (f : ℕ) (xs : List (ℕ × ℕ)) → length links ≤ nowhere → IsChainFrom links f xs → f ≡ nowhere → [] ≡ xs
no_walk links f [] few w e = refl
no_walk links f (p ∷ ps) few w e = absurd (omega (arith, w.0.within))

pub first_none : (heads : List Head) (links : List Link) (lists : List (List (ℕ × ℕ))) (h f : ℕ) → AreChains heads links lists
    → f ≡ (head_at heads h).first → h < length lists → f ≡ nowhere → [] ≡ list_at lists h
first_none heads links lists h f chains e lt none =
    no_walk links (head_at heads h).first (list_at lists h) chains.few (chains.walks h (omega (arith, chains.same))) (sym e ∙ none)

-- what is read from a link is a walk from it
pub from_walk : (heads : List Head) (links : List Link) (lists : List (List (ℕ × ℕ))) (l : ℕ) → AreChains heads links lists
    → 0 < length (from_link l lists) → IsChainFrom links l (from_link l lists)
from_walk heads links lists l chains some =
    let found = from_in l lists some in
    rw (from_at l lists found.0 found.1 (chains.once l) found.2)
    (rest_walk links l (head_at heads found.0).first (list_at lists found.0) (chains.walks found.0 (omega (arith, found.1, chains.same))) found.2)

-- what a link that stands somewhere says
pub record IsThere (links : List Link) (l : ℕ) (xs : List (ℕ × ℕ)) : Type 0 where
  pub within : l < length links
  pub pair : xs ≡ (l, (link_at links l).item) ∷ drop 1 xs
  pub after : IsChainFrom links (link_at links l).next (drop 1 xs)

there_walk : (links : List Link) (l : ℕ) (xs : List (ℕ × ℕ)) → 0 < length xs → IsChainFrom links l xs → IsThere links l xs
there_walk links l [] some w = absurd (omega arith)
there_walk links l (p ∷ ps) some w = record { within = w.0.within; pair = ap (λ q. q ∷ ps) w.0.here; after = w.1 }

pub there : (heads : List Head) (links : List Link) (lists : List (List (ℕ × ℕ))) (l : ℕ) → AreChains heads links lists
    → 0 < length (from_link l lists) → IsThere links l (from_link l lists)
there heads links lists l chains some = there_walk links l (from_link l lists) some (from_walk heads links lists l chains some)

times_drop : (m : ℕ) (xs : List (ℕ × ℕ)) → times m (drop 1 xs) ≤ times m xs
times_drop m [] = omega arith
times_drop m (p ∷ ps) = omega arith

-- the list goes on from the link that follows
pub next_found : (heads : List Head) (links : List Link) (lists : List (List (ℕ × ℕ))) (l f : ℕ) → AreChains heads links lists
    → 0 < length (from_link l lists) → f ≡ (link_at links l).next → f ≢ nowhere → IsFound links f lists (drop 1 (from_link l lists))
next_found heads links lists l f chains some e ne =
    let found = from_in l lists some in
    let t = there heads links lists l chains some in
    let w : IsChainFrom links f (drop 1 (from_link l lists)) = subst (λ m. IsChainFrom links m (drop 1 (from_link l lists))) (sym e) t.after in
    let s = started links f (drop 1 (from_link l lists)) w ne in
    let at = from_at l lists found.0 found.1 (chains.once l) found.2 in
    let stands : 0 < times f (list_at lists found.0) =
    omega (arith, s.stands, times_drop f (from_link l lists), ap (times f) at, times_rest f l (list_at lists found.0)) in
    let there' = from_at f lists found.0 found.1 (chains.once f) stands in
    let v : IsChainFrom links f (from_link f lists) =
    rw there' (rest_walk links f (head_at heads found.0).first (list_at lists found.0) (chains.walks found.0 (omega (arith, found.1, chains.same))) stands) in
    let a = walk_one links f (from_link f lists) (drop 1 (from_link l lists)) chains.few v w in
    record { walk = a; exists = rw a s.some; first = s.first }

pub next_none : (heads : List Head) (links : List Link) (lists : List (List (ℕ × ℕ))) (l f : ℕ) → AreChains heads links lists
    → 0 < length (from_link l lists) → f ≡ (link_at links l).next → f ≡ nowhere → [] ≡ drop 1 (from_link l lists)
next_none heads links lists l f chains some e none =
    let t = there heads links lists l chains some in
    no_walk links (link_at links l).next (drop 1 (from_link l lists)) chains.few t.after (sym e ∙ none)
