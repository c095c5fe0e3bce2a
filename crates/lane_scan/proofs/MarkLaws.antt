-- Marks of rows, and what they mark.
use Rattle.std.proofs.Common.{◌≡◌, ◌<◌, ◌≤◌, ◌+◌, ℕ, ℤ, List, [], ◌∷◌, ◌++◌, Bool, true, false, cond, length, map, take, take-add, drop, get_or, suc, min, ◌-◌, subst, ◌||◌, length-take, append-nil, pos, Result, Ok, Err, refl, sym, ◌∙◌, ap, arith}
use Rattle.std.specs.Prelude.{◌==◌, is_ok}
use Rattle.std.specs.Result.{is_err}
use borrow.Author.Tests.{eqb-true}
use Rattle.std.specs.List.{list_any}
use Rattle.std.proofs.lemmas.List.{take_more}
use Rattle.lane_scan.specs.declared.hits.Hit.{Hit}
use Rattle.lane_scan.specs.Rows.{passes, selected, extent_of_times, extent_of_rows}
use Rattle.lane_scan.specs.Marks.{mark, marks, marked, rows_of}

-- there are as many marks as times, and as many rows
pub length-marks : (lo hi : ℤ) (mask : ℕ) (ts : List ℤ) (cs : List ℕ) → length cs ≡ length ts → length (marks lo hi mask ts cs) ≡ length ts
length-marks lo hi mask [] cs same = refl
length-marks lo hi mask (t ∷ ts) [] same = cc
length-marks lo hi mask (t ∷ ts) (c ∷ cs) same = let rest = length-marks lo hi mask ts cs (omega arith) in omega arith

pub length-rows_of : (ts : List ℤ) (cs ns : List ℕ) → length cs ≡ length ts → length ns ≡ length ts → length (rows_of ts cs ns) ≡ length ts
length-rows_of [] cs ns c n = refl
length-rows_of (t ∷ ts) [] ns c n = cc
length-rows_of (t ∷ ts) (x ∷ cs) [] c n = cc
length-rows_of (t ∷ ts) (x ∷ cs) (y ∷ ns) c n = let rest = length-rows_of ts cs ns (omega arith) (omega arith) in omega arith

-- parts of lists as long as each other
as_long : {X Y : Type 0} (xs : List X) (ys : List Y) (n : ℕ) → length xs ≡ length ys → length (take n xs) ≡ length (take n ys)
as_long xs ys n same = length-take n xs ∙ (ap (min n) same ∙ sym (length-take n ys))

-- columns one after another
pub marks-append : (lo hi : ℤ) (mask : ℕ) (ts us : List ℤ) (cs ds : List ℕ) → length cs ≡ length ts → marks lo hi mask (ts ++ us) (cs ++ ds) ≡ marks lo hi mask ts cs ++ marks lo hi mask us ds
marks-append lo hi mask [] us [] ds same = refl
marks-append lo hi mask [] us (c ∷ cs) ds same = cc
marks-append lo hi mask (t ∷ ts) us [] ds same = cc
marks-append lo hi mask (t ∷ ts) us (c ∷ cs) ds same = ap (λ r. mark lo hi mask t c ∷ r) (marks-append lo hi mask ts us cs ds (omega arith))

pub rows_of-append : (ts us : List ℤ) (cs ds ns ms : List ℕ) → length cs ≡ length ts → length ns ≡ length ts → rows_of (ts ++ us) (cs ++ ds) (ns ++ ms) ≡ rows_of ts cs ns ++ rows_of us ds ms
rows_of-append [] us [] ds [] ms c n = refl
rows_of-append [] us [] ds (y ∷ ns) ms c n = cc
rows_of-append [] us (x ∷ cs) ds ns ms c n = cc
rows_of-append (t ∷ ts) us [] ds ns ms c n = cc
rows_of-append (t ∷ ts) us (x ∷ cs) ds [] ms c n = cc
rows_of-append (t ∷ ts) us (x ∷ cs) ds (y ∷ ns) ms c n = ap (λ r. record { time = t; code = x; number = y } ∷ r) (rows_of-append ts us cs ds ns ms (omega arith) (omega arith))

pub marked-append : {X : Type 0} (xs ys : List X) (ms ns : List ℕ) → length ms ≡ length xs → marked (xs ++ ys) (ms ++ ns) ≡ marked xs ms ++ marked ys ns
marked-append [] ys [] ns same = refl
marked-append [] ys (m ∷ ms) ns same = cc
marked-append (x ∷ xs) ys [] ns same = cc
marked-append (x ∷ xs) ys (m ∷ ms) ns same =
    let rest = marked-append xs ys ms ns (omega arith) in
    elim (m == 1) as (λ b. cond b (x ∷ marked (xs ++ ys) (ms ++ ns)) (marked (xs ++ ys) (ms ++ ns)) ≡ cond b (x ∷ marked xs ms) (marked xs ms) ++ marked ys ns)
    [ true ↦ ap (λ r. x ∷ r) rest | false ↦ rest ]

-- the rows that are marked are those that are selected
pub marked_rows : (lo hi : ℤ) (mask : ℕ) (ts : List ℤ) (cs ns : List ℕ) → length cs ≡ length ts → length ns ≡ length ts → marked (rows_of ts cs ns) (marks lo hi mask ts cs) ≡ selected lo hi mask (rows_of ts cs ns)
marked_rows lo hi mask [] cs ns c n = refl
marked_rows lo hi mask (t ∷ ts) [] ns c n = cc
marked_rows lo hi mask (t ∷ ts) (x ∷ cs) [] c n = cc
marked_rows lo hi mask (t ∷ ts) (x ∷ cs) (y ∷ ns) c n =
    let rest = marked_rows lo hi mask ts cs ns (omega arith) (omega arith) in
    let row : Hit = record { time = t; code = x; number = y } in
    let some = marked (rows_of ts cs ns) (marks lo hi mask ts cs) in
    let chosen = selected lo hi mask (rows_of ts cs ns) in
    elim (passes lo hi mask t x) as (λ b. cond ((cond b 1 0) == 1) (row ∷ some) some ≡ cond b (row ∷ chosen) chosen)
    [ true ↦ ap (λ r. row ∷ r) rest | false ↦ rest ]

-- the times of the rows that are marked are the times that are
pub marked_times : (ts : List ℤ) (cs ns ms : List ℕ) → length cs ≡ length ts → length ns ≡ length ts → map (λ row. row.time) (marked (rows_of ts cs ns) ms) ≡ marked ts ms
marked_times [] cs ns ms c n = refl
marked_times (t ∷ ts) [] ns ms c n = cc
marked_times (t ∷ ts) (x ∷ cs) [] ms c n = cc
marked_times (t ∷ ts) (x ∷ cs) (y ∷ ns) [] c n = refl
marked_times (t ∷ ts) (x ∷ cs) (y ∷ ns) (m ∷ ms) c n =
    let rest = marked_times ts cs ns ms (omega arith) (omega arith) in
    let some = marked (rows_of ts cs ns) ms in
    elim (m == 1) as (λ b. map (λ (row : Hit). row.time) (cond b (record { time = t; code = x; number = y } ∷ some) some) ≡ cond b (t ∷ marked ts ms) (marked ts ms))
    [ true ↦ ap (λ r. t ∷ r) rest | false ↦ rest ]

-- one row more
pub marks_more : (lo hi : ℤ) (mask : ℕ) (ts : List ℤ) (cs : List ℕ) (i : ℕ) (d : ℤ) → i < length ts → i < length cs → marks lo hi mask (take (i + 1) ts) (take (i + 1) cs) ≡ marks lo hi mask (take i ts) (take i cs) ++ mark lo hi mask (get_or ts i d) (get_or cs i 0) ∷ []
marks_more lo hi mask ts cs i d t c =
    let same : length (take i cs) ≡ length (take i ts) = simp length-take (omega arith) in
    ap (λ xs. marks lo hi mask xs (take (i + 1) cs)) (take_more ts i d t)
    ∙ (ap (λ xs. marks lo hi mask (take i ts ++ get_or ts i d ∷ []) xs) (take_more cs i 0 c)
    ∙ marks-append lo hi mask (take i ts) (get_or ts i d ∷ []) (take i cs) (get_or cs i 0 ∷ []) same)

marked_more : {X : Type 0} (xs : List X) (ms : List ℕ) (i : ℕ) (d : X) → i < length xs → i < length ms → marked (take (i + 1) xs) (take (i + 1) ms) ≡ marked (take i xs) (take i ms) ++ cond (get_or ms i 0 == 1) (get_or xs i d ∷ []) []
marked_more xs ms i d x m =
    let same : length (take i ms) ≡ length (take i xs) = simp length-take (omega arith) in
    ap (λ ys. marked ys (take (i + 1) ms)) (take_more xs i d x)
    ∙ (ap (λ ns. marked (take i xs ++ get_or xs i d ∷ []) ns) (take_more ms i 0 m)
    ∙ marked-append (take i xs) (get_or xs i d ∷ []) (take i ms) (get_or ms i 0 ∷ []) same)

pub rows_of_more : (ts : List ℤ) (cs ns : List ℕ) (i : ℕ) (d : ℤ) → i < length ts → i < length cs → i < length ns → rows_of (take (i + 1) ts) (take (i + 1) cs) (take (i + 1) ns) ≡ rows_of (take i ts) (take i cs) (take i ns) ++ record { time = get_or ts i d; code = get_or cs i 0; number = get_or ns i 0 } ∷ []
rows_of_more ts cs ns i d t c n =
    let codes : length (take i cs) ≡ length (take i ts) = simp length-take (omega arith) in
    let numbers : length (take i ns) ≡ length (take i ts) = simp length-take (omega arith) in
    ap (λ xs. rows_of xs (take (i + 1) cs) (take (i + 1) ns)) (take_more ts i d t)
    ∙ (ap (λ xs. rows_of (take i ts ++ get_or ts i d ∷ []) xs (take (i + 1) ns)) (take_more cs i 0 c)
    ∙ (ap (λ xs. rows_of (take i ts ++ get_or ts i d ∷ []) (take i cs ++ get_or cs i 0 ∷ []) xs) (take_more ns i 0 n)
    ∙ rows_of-append (take i ts) (get_or ts i d ∷ []) (take i cs) (get_or cs i 0 ∷ []) (take i ns) (get_or ns i 0 ∷ []) codes numbers))

-- nothing is marked where no mark is 1
marked_past : {X : Type 0} (x : X) (some : List X) (b c : Bool) → (b || c) ≡ false → (c ≡ false → some ≡ []) → cond b (x ∷ some) some ≡ []
marked_past x some true c none rest = cc
marked_past x some false c none rest = rest none

pub marked_none : {X : Type 0} (xs : List X) (ms : List ℕ) → list_any (λ m. m == 1) ms ≡ false → marked xs ms ≡ []
marked_none [] ms none = refl
marked_none (x ∷ xs) [] none = refl
marked_none (x ∷ xs) (m ∷ ms) none = marked_past x (marked xs ms) (m == 1) (list_any (λ n. n == 1) ms) none (marked_none xs ms)

-- a place whose mark is 1 is marked, and another is not
pub marked_more_by : {X : Type 0} (xs : List X) (ms : List ℕ) (i : ℕ) (d : X) → i < length xs → i < length ms → get_or ms i 0 ≡ 1 → marked (take (i + 1) xs) (take (i + 1) ms) ≡ marked (take i xs) (take i ms) ++ get_or xs i d ∷ []
marked_more_by xs ms i d x m is = marked_more xs ms i d x m ∙ ap (λ n. marked (take i xs) (take i ms) ++ cond (n == 1) (get_or xs i d ∷ []) []) is

other : (m : ℕ) (b : Bool) → (m == 1) ≡ b → (m ≡ 1 → ⊥) → b ≡ false
other m true e apart = absurd (apart (eqb-true m 1 e))
other m false e apart = refl

pub marked_more_not : {X : Type 0} (xs : List X) (ms : List ℕ) (i : ℕ) (d : X) → i < length xs → i < length ms → (get_or ms i 0 ≡ 1 → ⊥) → marked (take (i + 1) xs) (take (i + 1) ms) ≡ marked (take i xs) (take i ms)
marked_more_not xs ms i d x m apart =
    marked_more xs ms i d x m
    ∙ (ap (λ b. marked (take i xs) (take i ms) ++ cond b (get_or xs i d ∷ []) []) (other (get_or ms i 0) (get_or ms i 0 == 1) refl apart)
    ∙ append-nil (marked (take i xs) (take i ms)))

-- the same of the rows
rows_marked : (ts : List ℤ) (cs ns ms : List ℕ) (i : ℕ) → i < length ms → length ms ≡ length ts → length cs ≡ length ts → length ns ≡ length ts → marked (rows_of (take (i + 1) ts) (take (i + 1) cs) (take (i + 1) ns)) (take (i + 1) ms) ≡ marked (rows_of (take i ts) (take i cs) (take i ns)) (take i ms) ++ cond (get_or ms i 0 == 1) (record { time = get_or ts i (pos 0); code = get_or cs i 0; number = get_or ns i 0 } ∷ []) []
rows_marked ts cs ns ms i within m c n =
    let row : Hit = record { time = get_or ts i (pos 0); code = get_or cs i 0; number = get_or ns i 0 } in
    let rows = rows_of (take i ts) (take i cs) (take i ns) in
    let long : length (take i ms) ≡ length rows = as_long ms ts i m ∙ sym (length-rows_of (take i ts) (take i cs) (take i ns) (as_long cs ts i c) (as_long ns ts i n)) in
    ap (λ xs. marked xs (take (i + 1) ms)) (rows_of_more ts cs ns i (pos 0) (omega arith) (omega arith) (omega arith))
    ∙ (ap (λ xs. marked (rows ++ row ∷ []) xs) (take_more ms i 0 within)
    ∙ marked-append rows (row ∷ []) (take i ms) (get_or ms i 0 ∷ []) long)

pub rows_marked_by : (ts : List ℤ) (cs ns ms : List ℕ) (i : ℕ) → i < length ms → length ms ≡ length ts → length cs ≡ length ts → length ns ≡ length ts → get_or ms i 0 ≡ 1 → marked (rows_of (take (i + 1) ts) (take (i + 1) cs) (take (i + 1) ns)) (take (i + 1) ms) ≡ marked (rows_of (take i ts) (take i cs) (take i ns)) (take i ms) ++ record { time = get_or ts i (pos 0); code = get_or cs i 0; number = get_or ns i 0 } ∷ []
rows_marked_by ts cs ns ms i within m c n is =
    let row : Hit = record { time = get_or ts i (pos 0); code = get_or cs i 0; number = get_or ns i 0 } in
    rows_marked ts cs ns ms i within m c n ∙ ap (λ k. marked (rows_of (take i ts) (take i cs) (take i ns)) (take i ms) ++ cond (k == 1) (row ∷ []) []) is

pub rows_marked_not : (ts : List ℤ) (cs ns ms : List ℕ) (i : ℕ) → i < length ms → length ms ≡ length ts → length cs ≡ length ts → length ns ≡ length ts → (get_or ms i 0 ≡ 1 → ⊥) → marked (rows_of (take (i + 1) ts) (take (i + 1) cs) (take (i + 1) ns)) (take (i + 1) ms) ≡ marked (rows_of (take i ts) (take i cs) (take i ns)) (take i ms)
rows_marked_not ts cs ns ms i within m c n apart =
    let row : Hit = record { time = get_or ts i (pos 0); code = get_or cs i 0; number = get_or ns i 0 } in
    let some = marked (rows_of (take i ts) (take i cs) (take i ns)) (take i ms) in
    rows_marked ts cs ns ms i within m c n
    ∙ (ap (λ b. some ++ cond b (row ∷ []) []) (other (get_or ms i 0) (get_or ms i 0 == 1) refl apart) ∙ append-nil some)

-- no more is marked than there is
pub length-marked : {X : Type 0} (xs : List X) (ms : List ℕ) → length (marked xs ms) ≤ length xs
length-marked [] ms = omega arith
length-marked (x ∷ xs) [] = omega arith
length-marked (x ∷ xs) (m ∷ ms) =
    let rest = length-marked xs ms in
    elim (m == 1) as (λ b. length (cond b (x ∷ marked xs ms) (marked xs ms)) ≤ suc (length xs))
    [ true ↦ omega arith | false ↦ omega arith ]

-- a list up to an end is what comes before a place, and then what is from there up to the end
take_to : {X : Type 0} (xs : List X) (at end : ℕ) → at ≤ end → take end xs ≡ take at xs ++ take (end - at) (drop at xs)
take_to xs at end within =
    let whole : at + (end - at) ≡ end = omega arith in
    subst (λ n. take n xs ≡ take at xs ++ take (end - at) (drop at xs)) whole (take-add at (end - at) xs)

-- the marks of one chunk more
pub marks_chunk : (lo hi : ℤ) (mask : ℕ) (ts : List ℤ) (cs : List ℕ) (at end : ℕ) → length cs ≡ length ts → at ≤ end → marks lo hi mask (take end ts) (take end cs) ≡ marks lo hi mask (take at ts) (take at cs) ++ marks lo hi mask (take (end - at) (drop at ts)) (take (end - at) (drop at cs))
marks_chunk lo hi mask ts cs at end same within =
    ap (λ xs. marks lo hi mask xs (take end cs)) (take_to ts at end within)
    ∙ (ap (λ xs. marks lo hi mask (take at ts ++ take (end - at) (drop at ts)) xs) (take_to cs at end within)
    ∙ marks-append lo hi mask (take at ts) (take (end - at) (drop at ts)) (take at cs) (take (end - at) (drop at cs)) (as_long cs ts at same))

-- the times that are selected, with one chunk more
pub times_chunk : (lo hi : ℤ) (mask : ℕ) (ts : List ℤ) (cs : List ℕ) (at end : ℕ) → length cs ≡ length ts → at ≤ end
    → marked (take end ts) (marks lo hi mask (take end ts) (take end cs))
    ≡ marked (take at ts) (marks lo hi mask (take at ts) (take at cs)) ++ marked (take (end - at) (drop at ts)) (marks lo hi mask (take (end - at) (drop at ts)) (take (end - at) (drop at cs)))
times_chunk lo hi mask ts cs at end same within =
    ap (marked (take end ts)) (marks_chunk lo hi mask ts cs at end same within)
    ∙ (ap (λ xs. marked xs (marks lo hi mask (take at ts) (take at cs) ++ marks lo hi mask (take (end - at) (drop at ts)) (take (end - at) (drop at cs)))) (take_to ts at end within)
    ∙ marked-append (take at ts) (take (end - at) (drop at ts)) (marks lo hi mask (take at ts) (take at cs)) (marks lo hi mask (take (end - at) (drop at ts)) (take (end - at) (drop at cs))) (length-marks lo hi mask (take at ts) (take at cs) (as_long cs ts at same)))

-- the rows with one chunk more
rows_chunk : (ts : List ℤ) (cs ns : List ℕ) (at end : ℕ) → length cs ≡ length ts → length ns ≡ length ts → at ≤ end → rows_of (take end ts) (take end cs) (take end ns) ≡ rows_of (take at ts) (take at cs) (take at ns) ++ rows_of (take (end - at) (drop at ts)) (take (end - at) (drop at cs)) (take (end - at) (drop at ns))
rows_chunk ts cs ns at end c n within =
    ap (λ xs. rows_of xs (take end cs) (take end ns)) (take_to ts at end within)
    ∙ (ap (λ xs. rows_of (take at ts ++ take (end - at) (drop at ts)) xs (take end ns)) (take_to cs at end within)
    ∙ (ap (λ xs. rows_of (take at ts ++ take (end - at) (drop at ts)) (take at cs ++ take (end - at) (drop at cs)) xs) (take_to ns at end within)
    ∙ rows_of-append (take at ts) (take (end - at) (drop at ts)) (take at cs) (take (end - at) (drop at cs)) (take at ns) (take (end - at) (drop at ns)) (as_long cs ts at c) (as_long ns ts at n)))

pub selected_chunk : (lo hi : ℤ) (mask : ℕ) (ts : List ℤ) (cs ns : List ℕ) (at end : ℕ) → length cs ≡ length ts → length ns ≡ length ts → at ≤ end
    → marked (rows_of (take end ts) (take end cs) (take end ns)) (marks lo hi mask (take end ts) (take end cs))
    ≡ marked (rows_of (take at ts) (take at cs) (take at ns)) (marks lo hi mask (take at ts) (take at cs)) ++ marked (rows_of (take (end - at) (drop at ts)) (take (end - at) (drop at cs)) (take (end - at) (drop at ns))) (marks lo hi mask (take (end - at) (drop at ts)) (take (end - at) (drop at cs)))
selected_chunk lo hi mask ts cs ns at end c n within =
    let before = rows_of (take at ts) (take at cs) (take at ns) in
    let chunk = rows_of (take (end - at) (drop at ts)) (take (end - at) (drop at cs)) (take (end - at) (drop at ns)) in
    let marks_before = marks lo hi mask (take at ts) (take at cs) in
    let marks_here = marks lo hi mask (take (end - at) (drop at ts)) (take (end - at) (drop at cs)) in
    let same = as_long cs ts at c in
    let long : length marks_before ≡ length before = length-marks lo hi mask (take at ts) (take at cs) same ∙ sym (length-rows_of (take at ts) (take at cs) (take at ns) same (as_long ns ts at n)) in
    ap (marked (rows_of (take end ts) (take end cs) (take end ns))) (marks_chunk lo hi mask ts cs at end c within)
    ∙ (ap (λ xs. marked xs (marks_before ++ marks_here)) (rows_chunk ts cs ns at end c n within)
    ∙ marked-append before chunk marks_before marks_here long)

-- the extent of the times that are marked is that of the rows that are selected
pub counted : (lo hi : ℤ) (mask : ℕ) (ts : List ℤ) (cs ns : List ℕ) → length cs ≡ length ts → length ns ≡ length ts → extent_of_times (marked ts (marks lo hi mask ts cs)) ≡ extent_of_rows (selected lo hi mask (rows_of ts cs ns))
counted lo hi mask ts cs ns c n = ap extent_of_times (sym (marked_times ts cs ns (marks lo hi mask ts cs) c n) ∙ ap (map (λ (row : Hit). row.time)) (marked_rows lo hi mask ts cs ns c n))

-- what a push that did not fail leaves
pub pushed : {X A E : Type 0} (r : Result A E) (xs ys zs : List X) → is_err r ≡ false → xs ≡ cond (is_ok r) ys zs → xs ≡ ys
pushed (Ok a) xs ys zs went is = is
pushed (Err e) xs ys zs went is = cc
