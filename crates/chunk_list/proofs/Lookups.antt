-- Keys with the places of what stands beside them: what is looked up, and what one more changes.
use Rattle.std.proofs.Common.{◌≡◌, ℕ, zero, suc, ◌+◌, ◌<◌, ◌≤◌, List, [], ◌∷◌, ◌++◌, length, get_or, map, take, refl, sym, ap, ◌∙◌, arith}
use Rattle.std.specs.List.{insert, All}
use Rattle.std.specs.Map.{keys_of}
use Rattle.std.proofs.lemmas.List.{get_or_append_left, get_or_push, get_or-map, get_or_default, length-map, length-take, take_more, take-map, map_more}
use Rattle.std.proofs.lemmas.List.Edits.{insert_end}
use Rattle.std.proofs.lemmas.List.Elements.{All-cons, All-head, All-tail}
use Rattle.chunk_list.specs.Besides.{besides_of}
use Rattle.chunk_list.specs.Long.{looked_up, AreBelow}

-- what is made of the items of a list where one more stands among them
pub map-insert : {X Y : Type 0} (f : X → Y) (xs : List X) (i : ℕ) (x : X) → i ≤ length xs → map f (insert xs i x) ≡ insert (map f xs) i (f x)
map-insert f [] zero x le = refl
map-insert f [] (suc i) x le = absurd (omega arith)
map-insert f (y ∷ xs) zero x le = refl
map-insert f (y ∷ xs) (suc i) x le = ap (λ ys. f y ∷ ys) (map-insert f xs i x (omega arith))

map_alike : {X Y : Type 0} (f g : X → Y) (xs : List X) → All (λ x. f x ≡ g x) xs → map f xs ≡ map g xs
map_alike f g [] h = refl
map_alike f g (x ∷ xs) h = ap (λ y. y ∷ map f xs) (h 0 x (omega arith)) ∙ ap (λ ys. g x ∷ ys) (map_alike f g xs (All-tail (λ y. f y ≡ g y) x xs h))

All-insert : {X : Type 0} (P : X → Type 0) (xs : List X) (i : ℕ) (x : X) → i ≤ length xs → P x → All P xs → All P (insert xs i x)
All-insert P [] zero x le p h = All-cons P x [] p h
All-insert P [] (suc i) x le p h = absurd (omega arith)
All-insert P (y ∷ xs) zero x le p h = All-cons P x (y ∷ xs) p h
All-insert P (y ∷ xs) (suc i) x le p h = All-cons P y (insert xs i x) (All-head P y xs h) (All-insert P xs i x (omega arith) p (All-tail P y xs h))

-- no place is below zero
none_below : {K : Type 0} (ps : List (K × ℕ)) → AreBelow 0 ps → ps ≡ []
none_below [] h = refl
none_below (p ∷ ps) h = let lt : p.1 < 0 = h 0 p (omega arith) in absurd (omega arith)

-- one more place, which is the next
pub AreBelow-insert : {K : Type 0} (n : ℕ) (ps : List (K × ℕ)) (i : ℕ) (k : K) → i ≤ length ps → AreBelow n ps → AreBelow (n + 1) (insert ps i (k, n))
AreBelow-insert n ps i k le h = All-insert (λ p. p.1 < n + 1) ps i (k, n) le (omega arith) (λ j d lt. omega (arith, h j d lt))

pub length-looked_up : {K V : Type 0} (vs : List V) (ps : List (K × ℕ)) → AreBelow (length vs) ps → length (looked_up vs ps) ≡ length ps
length-looked_up [] ps h = sym (ap length (none_below ps h))
length-looked_up (v ∷ vs) ps h = length-map ps (λ p. (p.0, get_or (v ∷ vs) p.1 v))

pub keys-looked_up : {K V : Type 0} (vs : List V) (ps : List (K × ℕ)) → AreBelow (length vs) ps → keys_of (looked_up vs ps) ≡ keys_of ps
keys-looked_up [] ps h = sym (ap keys_of (none_below ps h))
keys-looked_up (v ∷ vs) [] h = refl
keys-looked_up (v ∷ vs) (p ∷ ps) h = ap (λ ks. p.0 ∷ ks) (keys-looked_up (v ∷ vs) ps (All-tail (λ q. q.1 < length (v ∷ vs)) p ps h))

-- one more item
pub looked_up-insert : {K V : Type 0} (vs : List V) (ps : List (K × ℕ)) (i : ℕ) (k : K) (v : V) → AreBelow (length vs) ps → i ≤ length ps → looked_up (vs ++ v ∷ []) (insert ps i (k, length vs)) ≡ insert (looked_up vs ps) i (k, v)
looked_up-insert [] [] zero k v h le = refl
looked_up-insert [] [] (suc i) k v h le = absurd (omega arith)
looked_up-insert [] (p ∷ ps) i k v h le = let lt : p.1 < 0 = h 0 p (omega arith) in absurd (omega arith)
looked_up-insert {K} {V} (w ∷ vs) ps i k v h le =
    let old : K × ℕ → K × V = λ p. (p.0, get_or (w ∷ vs) p.1 w) in
    let new : K × ℕ → K × V = λ p. (p.0, get_or (w ∷ (vs ++ v ∷ [])) p.1 w) in
    let n = length (w ∷ vs) in
    let kept = map_alike new old ps (λ j d lt. ap (λ x. ((get_or ps j d).0, x)) (get_or_append_left (w ∷ vs) (v ∷ []) w (get_or ps j d).1 (h j d lt))) in
    map-insert new ps i (k, n) le
    ∙ (ap (λ xs. insert xs i (new (k, n))) kept ∙ ap (λ x. insert (map old ps) i (k, x)) (get_or_push (w ∷ vs) v w n refl))

-- one more of the items of a list, in turn
looked_up-more : {K V : Type 0} (vs ws : List V) (ps qs : List (K × ℕ)) (xs : List (K × V)) (i : ℕ) (k : K) (v : V) → looked_up vs ps ≡ take i xs → length ps ≡ i → length vs ≡ i → AreBelow i ps → i < length xs → (k, v) ≡ get_or xs i (k, v)
    → qs ≡ insert ps i (k, i) → ws ≡ vs ++ v ∷ [] → looked_up ws qs ≡ take (i + 1) xs
looked_up-more {K} {V} vs ws ps qs xs i k v e many long below lt x q w =
    let within : AreBelow (length vs) ps = λ j d l. omega (arith, below j d l) in
    let short : length (take i xs) ≡ i = ap length (sym e) ∙ (length-looked_up vs ps within ∙ many) in
    ap (λ ys. looked_up ys qs) w
    ∙ (ap (λ ys. looked_up (vs ++ v ∷ []) ys) (q ∙ ap (λ n. insert ps i (k, n)) (sym long))
    ∙ (looked_up-insert vs ps i k v within (omega arith)
    ∙ (ap (λ ys. insert ys i (k, v)) e ∙ (ap (λ n. insert (take i xs) n (k, v)) (sym short) ∙ (insert_end (take i xs) (k, v) ∙ (ap (λ y. take i xs ++ y ∷ []) x ∙ sym (take_more xs i (k, v) lt)))))))

-- one more place of the items of a list, in turn
pub looked_up-next : {K V : Type 0} (ps qs : List (K × ℕ)) (xs : List (K × V)) (i : ℕ) (k : K) → looked_up (take i (besides_of xs)) ps ≡ take i xs → length ps ≡ i → AreBelow i ps → i < length xs → k ≡ get_or (keys_of xs) i k
    → qs ≡ insert ps i (k, i) → looked_up (take (i + 1) (besides_of xs)) qs ≡ take (i + 1) xs
looked_up-next ps qs [] i k e long below lt f q = absurd (omega arith)
looked_up-next {K} {V} ps qs (x ∷ xs) i k e long below lt f q =
    let all = x ∷ xs in
    let second : K × V → V = λ p. p.1 in
    let v = second (get_or all i x) in
    let item : (k, v) ≡ get_or all i (k, v) = ap (λ a. (a, v)) (f ∙ get_or-map (λ (p : K × V). p.0) all i x k lt) ∙ get_or_default all i x (k, v) lt in
    let many : length (take i (besides_of all)) ≡ i = omega (arith, length-take i (besides_of all), length-map all second, lt) in
    let more : take (i + 1) (besides_of all) ≡ take i (besides_of all) ++ v ∷ [] = take-map second (i + 1) all ∙ (map_more second all i x lt ∙ ap (λ ys. ys ++ v ∷ []) (sym (take-map second i all))) in
    looked_up-more (take i (besides_of all)) (take (i + 1) (besides_of all)) ps qs all i k v e long many below lt item q more

-- what stands beside the key at a place
pub beside-looked_up : {K V : Type 0} (vs : List V) (ps : List (K × ℕ)) (i : ℕ) (k : K) (n : ℕ) (v : V) → AreBelow (length vs) ps → i < length ps → (k, n) ≡ get_or ps i (k, n) → v ≡ get_or vs n v → v ≡ get_or (besides_of (looked_up vs ps)) i v
beside-looked_up [] ps i k n v h lt e f = absurd (omega (arith, ap length (none_below ps h)))
beside-looked_up {K} {V} (w ∷ vs) ps i k n v h lt e f =
    let all = w ∷ vs in
    let look : K × ℕ → K × V = λ p. (p.0, get_or all p.1 w) in
    let second : K × V → V = λ p. p.1 in
    let place : n ≡ (get_or ps i (k, n)).1 = ap (λ (p : K × ℕ). p.1) e in
    let within : n < length all = omega (arith, h i (k, n) lt, place) in
    f ∙ (get_or_default all n v w within
    ∙ (ap (λ m. get_or all m w) place
    ∙ (sym (ap second (get_or-map look ps i (k, n) (k, w) lt)) ∙ sym (get_or-map second (map look ps) i (k, w) v (omega (arith, length-map ps look, lt))))))
