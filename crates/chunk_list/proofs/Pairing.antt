-- Two lists that are taken together as a list of pairs.
use Rattle.std.proofs.Common.{◌≡◌, ℕ, zero, suc, ◌+◌, ◌-◌, ◌<◌, ◌≤◌, List, [], ◌∷◌, ◌++◌, length, get_or, map, take, drop, refl, sym, ap, ◌∙◌, arith}
use Rattle.std.specs.List.{insert, zip}
use Rattle.std.proofs.lemmas.List.{get_or-map}
use Rattle.std.proofs.lemmas.Slice.Zip.{length-zip, firsts-zip, seconds-zip, get_or-zip}
use Rattle.std.specs.Map.{keys_of}
use Rattle.chunk_list.specs.Besides.{besides_of}
use Rattle.chunk_list.specs.Parts.{joined, part_at, starts}
use Rattle.chunk_list.proofs.Joined.{item_at}

-- as many pairs as items on either side
pub many_pairs : {K V : Type 0} (ks : List K) (vs : List V) (ps : List (K × V)) → length vs ≡ length ks → zip ks vs ≡ ps → length ps ≡ length ks
many_pairs ks vs ps e p = omega (arith, length-zip ks vs, ap length p)

pub zip-insert : {K V : Type 0} (ks : List K) (vs : List V) (i : ℕ) (k : K) (v : V) → length vs ≡ length ks → i ≤ length ks → zip (insert ks i k) (insert vs i v) ≡ insert (zip ks vs) i (k, v)
zip-insert [] [] zero k v e le = refl
zip-insert [] [] (suc i) k v e le = absurd (omega arith)
zip-insert [] (y ∷ vs) i k v e le = absurd (omega arith)
zip-insert (x ∷ ks) [] i k v e le = absurd (omega arith)
zip-insert (x ∷ ks) (y ∷ vs) zero k v e le = refl
zip-insert (x ∷ ks) (y ∷ vs) (suc i) k v e le = ap (λ ps. (x, y) ∷ ps) (zip-insert ks vs i k v (omega arith) (omega arith))

pub zip-take : {K V : Type 0} (ks : List K) (vs : List V) (n : ℕ) → length vs ≡ length ks → zip (take n ks) (take n vs) ≡ take n (zip ks vs)
zip-take [] [] zero e = refl
zip-take [] [] (suc n) e = refl
zip-take [] (y ∷ vs) n e = absurd (omega arith)
zip-take (x ∷ ks) [] n e = absurd (omega arith)
zip-take (x ∷ ks) (y ∷ vs) zero e = refl
zip-take (x ∷ ks) (y ∷ vs) (suc n) e = ap (λ ps. (x, y) ∷ ps) (zip-take ks vs n (omega arith))

pub zip-drop : {K V : Type 0} (ks : List K) (vs : List V) (n : ℕ) → length vs ≡ length ks → zip (drop n ks) (drop n vs) ≡ drop n (zip ks vs)
zip-drop [] [] zero e = refl
zip-drop [] [] (suc n) e = refl
zip-drop [] (y ∷ vs) n e = absurd (omega arith)
zip-drop (x ∷ ks) [] n e = absurd (omega arith)
zip-drop (x ∷ ks) (y ∷ vs) zero e = refl
zip-drop (x ∷ ks) (y ∷ vs) (suc n) e = zip-drop ks vs n (omega arith)

pub zip-append : {K V : Type 0} (ks ls : List K) (vs ws : List V) → length vs ≡ length ks → zip (ks ++ ls) (vs ++ ws) ≡ zip ks vs ++ zip ls ws
zip-append [] ls [] ws e = refl
zip-append [] ls (y ∷ vs) ws e = absurd (omega arith)
zip-append (x ∷ ks) ls [] ws e = absurd (omega arith)
zip-append (x ∷ ks) ls (y ∷ vs) ws e = ap (λ ps. (x, y) ∷ ps) (zip-append ks ls vs ws (omega arith))

-- the pair at a place
pub pair_at : {K V : Type 0} (ks : List K) (vs : List V) (ps : List (K × V)) (i : ℕ) (k : K) (v : V) → length vs ≡ length ks → zip ks vs ≡ ps → i < length ps → k ≡ get_or ks i k → v ≡ get_or vs i v → (k, v) ≡ get_or ps i (k, v)
pair_at ks vs ps i k v e p lt f g =
    let many = many_pairs ks vs ps e p in
    ap (λ x. (x, v)) f ∙ (ap (λ x. (get_or ks i k, x)) g ∙ (sym (get_or-zip ks vs i (k, v) (omega (arith, many)) (omega (arith, many))) ∙ ap (λ xs. get_or xs i (k, v)) p))

-- the key at a place
pub key_at : {K V : Type 0} (ks : List K) (vs : List V) (ps : List (K × V)) (i : ℕ) (k : K) → length vs ≡ length ks → zip ks vs ≡ ps → k ≡ get_or ks i k → k ≡ get_or (keys_of ps) i k
key_at ks vs ps i k e p f = f ∙ (ap (λ xs. get_or xs i k) (sym (firsts-zip ks vs e)) ∙ ap (λ xs. get_or (keys_of xs) i k) p)

-- what stands beside the key at a place
pub beside_at : {K V : Type 0} (ks : List K) (vs : List V) (ps : List (K × V)) (i : ℕ) (v : V) → length vs ≡ length ks → zip ks vs ≡ ps → v ≡ get_or vs i v → v ≡ get_or (besides_of ps) i v
beside_at ks vs ps i v e p f = f ∙ (ap (λ xs. get_or xs i v) (sym (seconds-zip ks vs e)) ∙ ap (λ xs. get_or (besides_of xs) i v) p)

-- what stands beside the keys of all pairs
pub all_besides : {K V : Type 0} (ks : List K) (vs : List V) (ps : List (K × V)) → length vs ≡ length ks → zip ks vs ≡ ps → vs ≡ besides_of ps
all_besides ks vs ps e p = sym (seconds-zip ks vs e) ∙ ap besides_of p

-- two lists that agree at a place each agree there in what is made of their items
pub map_same : {X Y : Type 0} (f : X → Y) (xs ys : List X) (i j : ℕ) (e : Y) → i < length xs → j < length ys → ((d : X) → get_or xs i d ≡ get_or ys j d) → get_or (map f xs) i e ≡ get_or (map f ys) j e
map_same f [] ys i j e lt in_other h = absurd (omega arith)
map_same f (x ∷ xs) ys i j e lt in_other h = get_or-map f (x ∷ xs) i x e lt ∙ (ap f (h x) ∙ sym (get_or-map f ys j x e in_other))

-- the key at a place of a list in parts
pub found_key : {K V : Type 0} (fs : List ℕ) (ps : List (List (K × V))) (at i first : ℕ) (q : List (K × V)) (k : K) → fs ≡ starts 0 ps → at < length ps → get_or fs at 0 ≤ i → i < get_or fs at 0 + length (part_at ps at) → i < length (joined ps)
    → first ≡ get_or fs at 0 → q ≡ part_at ps at → k ≡ get_or (keys_of q) (i - first) k → k ≡ get_or (keys_of (joined ps)) i k
found_key fs ps at i first q k b lt low high in_list f p e =
    let start = ap (λ xs. get_or xs at 0) b in
    let none : i ≡ i - 0 = omega arith in
    let offset = i - get_or (starts 0 ps) at 0 in
    let within : offset < length (part_at ps at) = omega (arith, start) in
    e ∙ (ap (λ ys. get_or (keys_of ys) (i - first) k) p ∙ (ap (λ n. get_or (keys_of (part_at ps at)) (i - n) k) (f ∙ start)
    ∙ sym (map_same (λ item. item.0) (joined ps) (part_at ps at) i offset k in_list within (λ d. ap (λ n. get_or (joined ps) n d) none ∙ item_at 0 ps at i d lt (omega (arith, start)) (omega (arith, start))))))
