-- Lists in parts: where an item stands, and what an insertion and a split change.
use Rattle.std.proofs.Common.{◌≡◌, ℕ, zero, suc, ◌+◌, ◌-◌, ◌<◌, ◌≤◌, List, [], ◌∷◌, ◌++◌, length, get_or, take, drop, ◌⊎◌, inl, inr, Result, Ok, Err, cond, refl, sym, ap, ◌∙◌, arith, append_assoc, length-append, length-drop}
use Rattle.std.specs.Prelude.{IsOk, is_ok}
use Rattle.std.specs.List.{insert}
use Rattle.std.proofs.Math.ListN.{set, length-set}
use Rattle.std.proofs.lemmas.List.{get_or_append_left, get_or-append_right, take-append-drop, length-take, ext_get_or, get_or_default}
use Rattle.std.proofs.Math.Seq.{take-append_seam}
use Rattle.std.proofs.lemmas.List.Edits.{length-insert, insert-append_left, insert-append_right}
use Rattle.chunk_list.specs.Parts.{joined, part_at, starts}

pub length-starts : {T : Type 0} (s : ℕ) (ps : List (List T)) → length (starts s ps) ≡ length ps
length-starts s [] = refl
length-starts s (p ∷ ps) = ap suc (length-starts (s + length p) ps)

-- no part begins before the first
pub starts_from : {T : Type 0} (s : ℕ) (ps : List (List T)) (r : ℕ) → r < length ps → s ≤ get_or (starts s ps) r 0
starts_from s [] r lt = absurd (omega arith)
starts_from s (p ∷ ps) zero lt = omega arith
starts_from s (p ∷ ps) (suc r) lt = omega (arith, starts_from (s + length p) ps r (omega arith))

-- a part ends where the next begins, and the last where the list ends
pub starts_next : {T : Type 0} (s : ℕ) (ps : List (List T)) (r : ℕ) → suc r < length ps → get_or (starts s ps) (suc r) 0 ≡ get_or (starts s ps) r 0 + length (part_at ps r)
starts_next s [] r lt = absurd (omega arith)
starts_next s (p ∷ []) r lt = absurd (omega arith)
starts_next s (p ∷ (q ∷ ps)) zero lt = refl
starts_next s (p ∷ (q ∷ ps)) (suc r) lt = starts_next (s + length p) (q ∷ ps) r (omega arith)

pub starts_last : {T : Type 0} (s : ℕ) (ps : List (List T)) (r : ℕ) → suc r ≡ length ps → get_or (starts s ps) r 0 + length (part_at ps r) ≡ s + length (joined ps)
starts_last s [] r e = absurd (omega arith)
starts_last s (p ∷ []) zero e = omega (arith, length-append p [])
starts_last s (p ∷ []) (suc r) e = absurd (omega arith)
starts_last s (p ∷ (q ∷ ps)) zero e = absurd (omega arith)
starts_last s (p ∷ (q ∷ ps)) (suc r) e = omega (arith, starts_last (s + length p) (q ∷ ps) r (omega arith), length-append p (joined (q ∷ ps)))

pub part_within : {T : Type 0} (s : ℕ) (ps : List (List T)) (r : ℕ) → r < length ps → get_or (starts s ps) r 0 + length (part_at ps r) ≤ s + length (joined ps)
part_within s [] r lt = absurd (omega arith)
part_within s (p ∷ ps) zero lt = omega (arith, length-append p (joined ps))
part_within s (p ∷ ps) (suc r) lt = omega (arith, part_within (s + length p) ps r (omega arith), length-append p (joined ps))

-- an item stands in the part that begins last before it
pub item_at : {T : Type 0} (s : ℕ) (ps : List (List T)) (r i : ℕ) (d : T) → r < length ps → get_or (starts s ps) r 0 ≤ i → i < get_or (starts s ps) r 0 + length (part_at ps r)
    → get_or (joined ps) (i - s) d ≡ get_or (part_at ps r) (i - get_or (starts s ps) r 0) d
item_at s [] r i d lt low high = absurd (omega arith)
item_at s (p ∷ ps) zero i d lt low high = get_or_append_left p (joined ps) d (i - s) (omega arith)
item_at s (p ∷ ps) (suc r) i d lt low high =
    let from = starts_from (s + length p) ps r (omega arith) in
    let less : i - s - length p ≡ i - (s + length p) = omega arith in
    get_or-append_right p (joined ps) (length p) (i - s) d refl (omega arith)
    ∙ (ap (λ k. get_or (joined ps) k d) less ∙ item_at (s + length p) ps r i d (omega arith) low high)

-- an item that is put in a part is put in the list
pub joined-put : {T : Type 0} (s : ℕ) (ps : List (List T)) (r i : ℕ) (x : T) → r < length ps → get_or (starts s ps) r 0 ≤ i → i ≤ get_or (starts s ps) r 0 + length (part_at ps r)
    → joined (set ps r (insert (part_at ps r) (i - get_or (starts s ps) r 0) x)) ≡ insert (joined ps) (i - s) x
joined-put s [] r i x lt low high = absurd (omega arith)
joined-put s (p ∷ ps) zero i x lt low high = sym (insert-append_left p (joined ps) (i - s) x (omega arith))
joined-put s (p ∷ ps) (suc r) i x lt low high =
    let from = starts_from (s + length p) ps r (omega arith) in
    let less : i - (s + length p) ≡ i - s - length p = omega arith in
    ap (λ xs. p ++ xs) (joined-put (s + length p) ps r i x (omega arith) low high ∙ ap (λ k. insert (joined ps) k x) less)
    ∙ sym (insert-append_right p (joined ps) (length p) (i - s) x refl (omega arith))

-- parts that begin one place later
starts_later : {T : Type 0} (s : ℕ) (ps : List (List T)) (k : ℕ) → k < length ps → get_or (starts (s + 1) ps) k 0 ≡ get_or (starts s ps) k 0 + 1
starts_later s [] k lt = absurd (omega arith)
starts_later s (p ∷ ps) zero lt = refl
starts_later s (p ∷ ps) (suc k) lt =
    let turned : s + 1 + length p ≡ s + length p + 1 = omega arith in
    ap (λ n. get_or (starts n ps) k 0) turned ∙ starts_later (s + length p) ps k (omega arith)

-- a part with one more item moves those after it
pub starts-set_low : {T : Type 0} (s : ℕ) (ps : List (List T)) (r k : ℕ) (q : List T) → k ≤ r → get_or (starts s (set ps r q)) k 0 ≡ get_or (starts s ps) k 0
starts-set_low s [] r k q le = refl
starts-set_low s (p ∷ ps) zero zero q le = refl
starts-set_low s (p ∷ ps) zero (suc k) q le = absurd (omega arith)
starts-set_low s (p ∷ ps) (suc r) zero q le = refl
starts-set_low s (p ∷ ps) (suc r) (suc k) q le = starts-set_low (s + length p) ps r k q (omega arith)

pub starts-set_high : {T : Type 0} (s : ℕ) (ps : List (List T)) (r k : ℕ) (q : List T) → r < k → k < length ps → length q ≡ length (part_at ps r) + 1 → get_or (starts s (set ps r q)) k 0 ≡ get_or (starts s ps) k 0 + 1
starts-set_high s [] r k q lt in_list e = absurd (omega arith)
starts-set_high s (p ∷ ps) r zero q lt in_list e = absurd (omega arith)
starts-set_high s (p ∷ ps) zero (suc k) q lt in_list e =
    let more : s + length q ≡ s + length p + 1 = omega arith in
    ap (λ n. get_or (starts n ps) k 0) more ∙ starts_later (s + length p) ps k (omega arith)
starts-set_high s (p ∷ ps) (suc r) (suc k) q lt in_list e = starts-set_high (s + length p) ps r k q (omega arith) (omega arith) e

-- a part that is split leaves the list as it is
pub joined-split : {T : Type 0} (ps : List (List T)) (r h : ℕ) → r < length ps → joined (insert (set ps r (take h (part_at ps r))) (suc r) (drop h (part_at ps r))) ≡ joined ps
joined-split [] r h lt = absurd (omega arith)
joined-split (p ∷ ps) zero h lt = sym (append_assoc (take h p) (drop h p) (joined ps)) ∙ ap (λ xs. xs ++ joined ps) (take-append-drop h p)
joined-split (p ∷ ps) (suc r) h lt = ap (λ xs. p ++ xs) (joined-split ps r h (omega arith))

pub starts-split : {T : Type 0} (s : ℕ) (ps : List (List T)) (r h : ℕ) → r < length ps → h ≤ length (part_at ps r)
    → starts s (insert (set ps r (take h (part_at ps r))) (suc r) (drop h (part_at ps r))) ≡ insert (starts s ps) (suc r) (get_or (starts s ps) r 0 + h)
starts-split s [] r h lt le = absurd (omega arith)
starts-split s (p ∷ ps) zero h lt le =
    let lower : length (take h p) ≡ h = omega (arith, length-take h p) in
    let upper : s + length (take h p) + length (drop h p) ≡ s + length p = omega (arith, length-take h p, length-drop h p) in
    ap (λ n. s ∷ ((s + length (take h p)) ∷ starts n ps)) upper ∙ ap (λ n. s ∷ ((s + n) ∷ starts (s + length p) ps)) lower
starts-split s (p ∷ ps) (suc r) h lt le = ap (λ xs. s ∷ xs) (starts-split (s + length p) ps r h (omega arith) le)

-- ---- what the code makes of parts

pub where_ok : {T E X : Type 0} (r : Result T E) (a b xs : X) → IsOk r → xs ≡ cond (is_ok r) a b → xs ≡ a
where_ok (Ok v) a b xs h e = e
where_ok (Err v) a b xs h e = cc

-- an item that is read at a place
pub read_at : {T : Type 0} (xs : List T) (i : ℕ) (x d : T) → i < length xs → x ≡ get_or xs i x → x ≡ get_or xs i d
read_at xs i x d lt e = e ∙ get_or_default xs i x d lt

-- a list that is written over whole
pub written : {T : Type 0} (xs ys : List T) (n : ℕ) → length ys ≡ n → take n (ys ++ drop (length ys) xs) ≡ ys
written xs ys n e = ap (λ k. take k (ys ++ drop (length ys) xs)) (sym e) ∙ take-append_seam ys (drop (length ys) xs)

-- no part begins past the end
pub starts_within : {T : Type 0} (fs : List ℕ) (ps : List (List T)) (k most : ℕ) → fs ≡ starts 0 ps → length (joined ps) < most → k < length fs → get_or fs k 0 < most
starts_within fs ps k most b lt in_list =
    let w = part_within 0 ps k (omega (arith, ap length b, length-starts 0 ps)) in
    omega (arith, ap (λ xs. get_or xs k 0) b)

-- parts of which one is split
pub split_parts : {T : Type 0} (fs gs : List ℕ) (ps qs : List (List T)) (lower upper : List T) (at cut first : ℕ) → fs ≡ starts 0 ps → at < length ps → cut ≤ length (part_at ps at) → first ≡ get_or fs at 0
    → lower ≡ take cut (part_at ps at) → upper ≡ drop cut (part_at ps at) → qs ≡ insert (set ps at lower) (at + 1) upper → gs ≡ insert fs (at + 1) (first + cut) → (gs ≡ starts 0 qs) × (joined qs ≡ joined ps)
split_parts fs gs ps qs lower upper at cut first b lt le f l u q g =
    let one : at + 1 ≡ suc at = omega arith in
    let parts = q ∙ (ap (λ x. insert (set ps at x) (at + 1) upper) l ∙ (ap (λ x. insert (set ps at (take cut (part_at ps at))) (at + 1) x) u ∙ ap (λ n. insert (set ps at (take cut (part_at ps at))) n (drop cut (part_at ps at))) one)) in (
      g ∙ (ap (λ x. insert fs (at + 1) (x + cut)) f ∙ (ap (λ xs. insert xs (at + 1) (get_or xs at 0 + cut)) b ∙ (ap (λ n. insert (starts 0 ps) n (get_or (starts 0 ps) at 0 + cut)) one ∙ (sym (starts-split 0 ps at cut lt le) ∙ ap (starts 0) (sym parts))))),
      ap joined parts ∙ joined-split ps at cut lt,
    )

-- parts of which one has one more item
pub put_parts : {T : Type 0} (fs gs : List ℕ) (ps : List (List T)) (q : List T) (at i offset : ℕ) (x : T) → fs ≡ starts 0 ps → at < length ps → get_or fs at 0 ≤ i → i ≤ get_or fs at 0 + length (part_at ps at)
    → offset ≡ i - get_or fs at 0 → q ≡ insert (part_at ps at) offset x → length gs ≡ length fs → ((k : ℕ) → k < at + 1 → get_or gs k 0 ≡ get_or fs k 0) → ((k : ℕ) → at + 1 ≤ k → k < length fs → get_or gs k 0 ≡ get_or fs k 0 + 1)
    → (gs ≡ starts 0 (set ps at q)) × (joined (set ps at q) ≡ insert (joined ps) i x)
put_parts fs gs ps q at i offset x b lt low high o e len kept moved =
    let start = ap (λ xs. get_or xs at 0) b in
    let within : offset ≤ length (part_at ps at) = omega arith in
    let more : length q ≡ length (part_at ps at) + 1 = ap length e ∙ length-insert (part_at ps at) offset x within in
    let none : i - 0 ≡ i = omega arith in
    let many : length fs ≡ length ps = ap length b ∙ length-starts 0 ps in
    let each : (k : ℕ) → k < length gs → get_or gs k 0 ≡ get_or (starts 0 (set ps at q)) k 0 = λ k in_list. elim (two k at) [
      | inl l ↦ kept k (omega arith) ∙ (ap (λ xs. get_or xs k 0) b ∙ sym (starts-set_low 0 ps at k q l))
      | inr l ↦ moved k (omega arith) (omega arith) ∙ (ap (λ xs. get_or xs k 0 + 1) b ∙ sym (starts-set_high 0 ps at k q l (omega arith) more))
    ] in (
      ext_get_or 0 gs (starts 0 (set ps at q)) (omega (arith, length-starts 0 (set ps at q), length-set ps at q)) each,
      ap (λ y. joined (set ps at y)) (e ∙ ap (λ n. insert (part_at ps at) n x) (o ∙ ap (λ n. i - n) start)) ∙ (joined-put 0 ps at i x lt (omega arith) (omega arith) ∙ ap (λ n. insert (joined ps) n x) none),
    )
  where
    two : (k at : ℕ) → (k ≤ at) ⊎ (at < k)
    two k at = grind arith

first_zero : {T : Type 0} (ps : List (List T)) → get_or (starts 0 ps) 0 0 ≡ 0
first_zero [] = refl
first_zero (p ∷ ps) = refl

-- the first part begins at the first place
pub begins_at_zero : {T : Type 0} (fs : List ℕ) (ps : List (List T)) → fs ≡ starts 0 ps → get_or fs 0 0 ≡ 0
begins_at_zero fs ps b = ap (λ xs. get_or xs 0 0) b ∙ first_zero ps

last_or_not : (at n : ℕ) → at < n → (suc at < n) ⊎ (suc at ≡ n)
last_or_not at n lt = grind arith

-- a place of the list is one of the part that begins last before it
pub place_within : {T : Type 0} (fs : List ℕ) (ps : List (List T)) (at i : ℕ) → fs ≡ starts 0 ps → at < length ps → (at + 1 < length fs → i < get_or fs (at + 1) 0) → i < length (joined ps) → i < get_or fs at 0 + length (part_at ps at)
place_within fs ps at i b lt next in_list =
    let one : at + 1 ≡ suc at = omega arith in
    let start = ap (λ xs. get_or xs at 0) b in
    elim (last_or_not at (length ps) lt) [
      | inl m ↦ omega (arith, next (omega (arith, ap length b, length-starts 0 ps)), ap (λ n. get_or fs n 0) one, ap (λ xs. get_or xs (suc at) 0) b, starts_next 0 ps at m, start)
      | inr e ↦ omega (arith, starts_last 0 ps at e, start)
    ]

pub place_at_most : {T : Type 0} (fs : List ℕ) (ps : List (List T)) (at i : ℕ) → fs ≡ starts 0 ps → at < length ps → (at + 1 < length fs → i < get_or fs (at + 1) 0) → i ≤ length (joined ps) → i ≤ get_or fs at 0 + length (part_at ps at)
place_at_most fs ps at i b lt next in_list =
    let one : at + 1 ≡ suc at = omega arith in
    let start = ap (λ xs. get_or xs at 0) b in
    elim (last_or_not at (length ps) lt) [
      | inl m ↦ omega (arith, next (omega (arith, ap length b, length-starts 0 ps)), ap (λ n. get_or fs n 0) one, ap (λ xs. get_or xs (suc at) 0) b, starts_next 0 ps at m, start)
      | inr e ↦ omega (arith, starts_last 0 ps at e, start)
    ]

-- the item at a place
pub found : {T : Type 0} (fs : List ℕ) (ps : List (List T)) (at i first : ℕ) (q : List T) (x : T) → fs ≡ starts 0 ps → at < length ps → get_or fs at 0 ≤ i → i < get_or fs at 0 + length (part_at ps at) → i < length (joined ps)
    → first ≡ get_or fs at 0 → q ≡ part_at ps at → x ≡ get_or q (i - first) x → x ≡ get_or (joined ps) i x
found fs ps at i first q x b lt low high in_list f p e =
    let start = ap (λ xs. get_or xs at 0) b in
    let none : i ≡ i - 0 = omega arith in
    e ∙ (ap (λ ys. get_or ys (i - first) x) p ∙ (ap (λ n. get_or (part_at ps at) (i - n) x) (f ∙ start) ∙ (sym (item_at 0 ps at i x lt (omega arith) (omega arith)) ∙ sym (ap (λ n. get_or (joined ps) n x) none))))

-- the first places of parts never fall
pub starts_rise : {T : Type 0} (s : ℕ) (ps : List (List T)) (i j : ℕ) → i ≤ j → j < length ps → get_or (starts s ps) i 0 ≤ get_or (starts s ps) j 0
starts_rise s [] i j le lt = absurd (omega arith)
starts_rise s (p ∷ ps) zero j le lt = starts_from s (p ∷ ps) j lt
starts_rise s (p ∷ ps) (suc i) zero le lt = absurd (omega arith)
starts_rise s (p ∷ ps) (suc i) (suc j) le lt = starts_rise (s + length p) ps i j (omega arith) (omega arith)

-- a place in a part is at most the first place of each part after it
pub starts_after : {T : Type 0} (ps : List (List T)) (at cut j : ℕ) → cut ≤ length (part_at ps at) → at + 1 ≤ j → j < length ps → get_or (starts 0 ps) at 0 + cut ≤ get_or (starts 0 ps) j 0
starts_after ps at cut j le from lt =
    let one : at + 1 ≡ suc at = omega arith in
    omega (arith, starts_next 0 ps at (omega arith), starts_rise 0 ps (suc at) j (omega arith) lt)
