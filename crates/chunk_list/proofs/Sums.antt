-- Numbers in groups.
use Rattle.std.proofs.Common.{◌≡◌, ℕ, zero, suc, ◌+◌, ◌*◌, ◌/◌, ◌<◌, ◌≤◌, List, [], ◌∷◌, length, get_or, ◌-◌, ◌^◌, ◌⊎◌, inl, inr, refl, sym, ap, ◌∙◌, arith}
use Rattle.std.specs.Prelude.{min}
use Rattle.std.specs.List.{insert}
use Rattle.std.proofs.Math.ListN.{set}
use Rattle.std.proofs.lemmas.List.{ext_get_or, get_or-set_same, get_or-set_other}
use Rattle.std.proofs.lemmas.List.Edits.{length-insert, get_or-insert_below, get_or-insert_at, get_or-insert_above}
use Rattle.chunk_list.specs.Groups.{sums_of, AreGrouped}

pub length-sums_of : (p : ℕ) (gs ns : List ℕ) → length (sums_of p gs ns) ≡ length ns
length-sums_of p gs [] = refl
length-sums_of p gs (n ∷ ns) = ap suc (length-sums_of (p + 1) gs ns)

sum_from : (p : ℕ) (gs ns : List ℕ) (k : ℕ) → k < length ns → get_or (sums_of p gs ns) k 0 ≡ get_or gs ((p + k) / 64) 0 + get_or ns k 0
sum_from p gs [] k lt = absurd (omega arith)
sum_from p gs (n ∷ ns) zero lt = let none : p ≡ p + 0 = omega arith in ap (λ i. get_or gs (i / 64) 0 + n) none
sum_from p gs (n ∷ ns) (suc k) lt =
    let turned : p + 1 + k ≡ p + suc k = omega arith in
    sum_from (p + 1) gs ns k (omega arith) ∙ ap (λ i. get_or gs (i / 64) 0 + get_or ns k 0) turned

-- the number at a place
pub sum_at : (gs ns xs : List ℕ) (k : ℕ) → sums_of 0 gs ns ≡ xs → k < length ns → get_or xs k 0 ≡ get_or gs (k / 64) 0 + get_or ns k 0
sum_at gs ns xs k e lt =
    let none : 0 + k ≡ k = omega arith in
    sym (ap (λ ys. get_or ys k 0) e) ∙ (sum_from 0 gs ns k lt ∙ ap (λ i. get_or gs (i / 64) 0 + get_or ns k 0) none)

pub many : (gs ns xs : List ℕ) → sums_of 0 gs ns ≡ xs → length xs ≡ length ns
many gs ns xs e = sym (ap length e) ∙ length-sums_of 0 gs ns

less_or_not : (a b : ℕ) → (a < b) ⊎ (b ≤ a)
less_or_not a b = grind arith

-- one is added to the numbers from a place on: to those up to the next group, and to the groups from there on
module _ (gs hs ns ms : List ℕ) (from n g end : ℕ) (a : AreGrouped gs ns) (len_g : length hs ≡ length gs) (len_n : length ms ≡ length ns) (fits : (k : ℕ) → from ≤ k → k < length ns → get_or gs (k / 64) 0 + get_or ns k 0 + 1 < 2 ^ 64)
    (from_n : from ≤ 64 * n) (n_from : 64 * n < from + 64) (g_is : g ≡ min n (length gs)) (inside : g < length gs → end ≡ 64 * g) (last : length gs ≤ g → end ≡ length ns)
    (below : (k : ℕ) → k < g → get_or hs k 0 ≡ get_or gs k 0) (above : (k : ℕ) → g ≤ k → k < length gs → get_or hs k 0 ≡ get_or gs k 0 + 1)
    (early : (k : ℕ) → k < from → get_or ms k 0 ≡ get_or ns k 0) (mid : (k : ℕ) → from ≤ k → k < end → get_or ms k 0 ≡ get_or ns k 0 + 1) (late : (k : ℕ) → end ≤ k → get_or ms k 0 ≡ get_or ns k 0) where
  in_groups : (k : ℕ) → k < length ns → k / 64 < length gs
  in_groups k lt = omega (arith, a.covered)

  pub sum_kept : (k : ℕ) → k < from → k < length ns → get_or hs (k / 64) 0 + get_or ms k 0 ≡ get_or gs (k / 64) 0 + get_or ns k 0
  sum_kept k lt in_list = omega (arith, below (k / 64) (omega (arith, in_groups k in_list)), early k lt)

  pub sum_moved : (k : ℕ) → from ≤ k → k < length ns → get_or hs (k / 64) 0 + get_or ms k 0 ≡ get_or gs (k / 64) 0 + get_or ns k 0 + 1
  sum_moved k le lt = elim (less_or_not g (length gs)) [
    | inl m ↦ elim (less_or_not k end) [
      | inl l ↦ omega (arith, below (k / 64) (omega (arith, inside m)), mid k le l)
      | inr l ↦ omega (arith, above (k / 64) (omega (arith, inside m)) (in_groups k lt), late k l)
    ]
    | inr m ↦ omega (arith, below (k / 64) (omega (arith, in_groups k lt)), mid k le (omega (arith, last m)))
  ]

  pub shifted : AreGrouped hs ms
  shifted = record {
    covered = omega (arith, a.covered);
    begun = λ h lt. omega (arith, a.begun h (omega arith));
    zero = λ h lt. elim (less_or_not (64 * h) from) [
      | inl l ↦ early (64 * h) l ∙ a.zero h (omega arith)
      | inr l ↦ late (64 * h) (omega (arith, inside (omega arith))) ∙ a.zero h (omega arith)
    ];
    fits = λ k lt. elim (less_or_not k from) [
      | inl l ↦ omega (arith, sum_kept k l (omega arith), a.fits k (omega arith))
      | inr l ↦ omega (arith, sum_moved k l (omega arith), fits k l (omega arith))
    ];
  }

-- numbers that never fall, with one more in its place
pub rise-insert : (xs : List ℕ) (k x : ℕ) → 0 < k → k ≤ length xs → ((i j : ℕ) → i ≤ j → j < length xs → get_or xs i 0 ≤ get_or xs j 0) → get_or xs (k - 1) 0 ≤ x → ((j : ℕ) → k ≤ j → j < length xs → x ≤ get_or xs j 0)
    → (i j : ℕ) → i ≤ j → j < length (insert xs k x) → get_or (insert xs k x) i 0 ≤ get_or (insert xs k x) j 0
rise-insert xs k x some le rise before after i j ij in_list =
    let len = length-insert xs k x le in
    elim (less_or_not i k) [
      | inl a ↦ elim (less_or_not j k) [
        | inl b ↦ omega (arith, get_or-insert_below xs k x 0 i a le, get_or-insert_below xs k x 0 j b le, rise i j ij (omega arith))
        | inr b ↦ elim (less_or_not k j) [
          | inl d ↦ omega (arith, get_or-insert_below xs k x 0 i a le, above j d, rise i (j - 1) (omega arith) (omega (arith, len)))
          | inr d ↦ omega (arith, get_or-insert_below xs k x 0 i a le, here j (omega arith), rise i (k - 1) (omega arith) (omega arith), before)
        ]
      ]
      | inr a ↦ elim (less_or_not k i) [
        | inl d ↦ omega (arith, above i d, above j (omega arith), rise (i - 1) (j - 1) (omega arith) (omega (arith, len)))
        | inr d ↦ elim (less_or_not k j) [
          | inl b ↦ omega (arith, here i (omega arith), above j b, after (j - 1) (omega arith) (omega (arith, len)))
          | inr b ↦ omega (arith, here i (omega arith), here j (omega arith))
        ]
      ]
    ]
  where
    here : (j : ℕ) → j ≡ k → get_or (insert xs k x) j 0 ≡ x
    here j e = ap (λ n. get_or (insert xs k x) n 0) e ∙ get_or-insert_at xs k x 0 le

    above : (j : ℕ) → k < j → get_or (insert xs k x) j 0 ≡ get_or xs (j - 1) 0
    above j lt = let one : j ≡ j - 1 + 1 = omega arith in ap (λ n. get_or (insert xs k x) n 0) one ∙ get_or-insert_above xs k x 0 (j - 1) (omega arith) le

-- the place that a search in groups and then in one group finds
pub located_here : (gs ns : List ℕ) (g r i : ℕ) → g * 64 ≤ r → r < g * 64 + 64 → get_or gs g 0 ≤ i → get_or ns r 0 ≤ i - get_or gs g 0 → get_or gs (r / 64) 0 + get_or ns r 0 ≤ i
located_here gs ns g r i low high le here = let same : r / 64 ≡ g = omega arith in omega (arith, ap (λ k. get_or gs k 0) same)

pub located_next : (gs ns : List ℕ) (g r i to : ℕ) → AreGrouped gs ns → to ≡ g * 64 + min (length ns - g * 64) 64 → g * 64 ≤ r → r < to → (r + 1 < to → i - get_or gs g 0 < get_or ns (r + 1) 0) → (g + 1 < length gs → i < get_or gs (g + 1) 0) → r + 1 < length ns
    → i < get_or gs ((r + 1) / 64) 0 + get_or ns (r + 1) 0
located_next gs ns g r i to a e low high next after in_list = elim (less_or_not (r + 1) to) [
  | inl l ↦ let same : (r + 1) / 64 ≡ g = omega arith in omega (arith, ap (λ k. get_or gs k 0) same, next l)
  | inr l ↦ let same : (r + 1) / 64 ≡ g + 1 = omega arith in omega (arith, ap (λ k. get_or gs k 0) same, after (omega (arith, a.covered)))
]

-- one more number is parted from its group
module _ (gs hs old own : List ℕ) (from k m n base : ℕ) (rise : (i j : ℕ) → 64 * from ≤ i → i ≤ j → j < length old → get_or old i 0 ≤ get_or old j 0) (lt : k < length old) (len : length own ≡ length old)
    (start : 64 * from ≤ k) (covered : k ≤ 64 * m) (first : (g : ℕ) → from ≤ g → g < m → get_or gs g 0 ≡ get_or old (64 * g) 0) (sums : (j : ℕ) → 64 * from ≤ j → j < k → get_or gs (j / 64) 0 + get_or own j 0 ≡ get_or old j 0)
    (before : (j : ℕ) → j < 64 * from → get_or own j 0 ≡ get_or old j 0) (left : (j : ℕ) → k ≤ j → get_or own j 0 ≡ get_or old j 0)
    (covers : k < 64 * n) (kept : (g : ℕ) → g < m → get_or hs g 0 ≡ get_or gs g 0) (new : (g : ℕ) → m ≤ g → g < n → get_or hs g 0 ≡ get_or own k 0) (place : (g : ℕ) → m ≤ g → g < n → 64 * g ≡ k)
    (base_is : base ≡ get_or hs (k / 64) 0) where
  pub first_more : (g : ℕ) → from ≤ g → g < n → get_or hs g 0 ≡ get_or old (64 * g) 0
  first_more g f l = elim (less_or_not g m) [
    | inl s ↦ kept g s ∙ first g f s
    | inr s ↦ new g s l ∙ (left k (omega arith) ∙ sym (ap (λ i. get_or old i 0) (place g s l)))
  ]

  pub left_more : (j : ℕ) → k + 1 ≤ j → get_or (set own k (get_or own k 0 - base)) j 0 ≡ get_or old j 0
  left_more j l = let other : j ≡ k → ⊥ = λ e. omega arith in get_or-set_other own k j (get_or own k 0 - base) 0 other ∙ left j (omega arith)

  pub before_more : (j : ℕ) → j < 64 * from → get_or (set own k (get_or own k 0 - base)) j 0 ≡ get_or old j 0
  before_more j l = let other : j ≡ k → ⊥ = λ e. omega arith in get_or-set_other own k j (get_or own k 0 - base) 0 other ∙ before j l

  pub sums_more : (j : ℕ) → 64 * from ≤ j → j < k + 1 → get_or hs (j / 64) 0 + get_or (set own k (get_or own k 0 - base)) j 0 ≡ get_or old j 0
  sums_more j f l = elim (less_or_not j k) [
    | inl s ↦ let other : j ≡ k → ⊥ = λ e. omega arith in omega (arith, kept (j / 64) (omega arith), get_or-set_other own k j (get_or own k 0 - base) 0 other, sums j f s)
    | inr s ↦ let same : j ≡ k = omega arith in ap (λ i. get_or hs (i / 64) 0 + get_or (set own k (get_or own k 0 - base)) i 0) same ∙ (here ∙ sym (ap (λ i. get_or old i 0) same))
  ]
    where
      here : get_or hs (k / 64) 0 + get_or (set own k (get_or own k 0 - base)) k 0 ≡ get_or old k 0
      here = omega (arith, base_is, get_or-set_same own k (get_or own k 0 - base) 0 (omega arith), left k (omega arith), first_more (k / 64) (omega arith) (omega arith), rise (64 * (k / 64)) k (omega arith) (omega arith) lt)

-- where the groups before one end
pub end_after : (from n g end len_g len_n : ℕ) → from ≤ 64 * n → g ≡ min n len_g → (g < len_g → end ≡ 64 * g) → (len_g ≤ g → end ≡ len_n) → from ≤ len_n → from ≤ end
end_after from n g end len_g len_n from_n g_is inside last le = elim (less_or_not g len_g) [
  | inl m ↦ omega (arith, inside m)
  | inr m ↦ omega (arith, last m)
]

pub end_within : (g end : ℕ) (gs ns : List ℕ) → AreGrouped gs ns → (g < length gs → end ≡ 64 * g) → (length gs ≤ g → end ≡ length ns) → end ≤ length ns
end_within g end gs ns a inside last = elim (less_or_not g (length gs)) [
  | inl m ↦ omega (arith, inside m, a.begun g m)
  | inr m ↦ omega (arith, last m)
]

-- numbers below a bound, with one more
pub below-insert : (xs : List ℕ) (k x most : ℕ) → k ≤ length xs → ((j : ℕ) → j < length xs → get_or xs j 0 < most) → x < most → (j : ℕ) → j < length (insert xs k x) → get_or (insert xs k x) j 0 < most
below-insert xs k x most le h small j lt =
    let len = length-insert xs k x le in
    elim (less_or_not j k) [
      | inl a ↦ omega (arith, get_or-insert_below xs k x 0 j a le, h j (omega arith))
      | inr a ↦ elim (less_or_not k j) [
        | inl b ↦ let one : j ≡ j - 1 + 1 = omega arith in omega (arith, ap (λ n. get_or (insert xs k x) n 0) one, get_or-insert_above xs k x 0 (j - 1) (omega arith) le, h (j - 1) (omega (arith, len)))
        | inr b ↦ let same : j ≡ k = omega arith in omega (arith, ap (λ n. get_or (insert xs k x) n 0) same, get_or-insert_at xs k x 0 le)
      ]
    ]

-- two lists that agree from a place on, each with one more there or later
agree-insert : (ns xs : List ℕ) (from k x : ℕ) → length ns ≡ length xs → from ≤ k → k ≤ length xs → ((j : ℕ) → from ≤ j → j < length xs → get_or ns j 0 ≡ get_or xs j 0)
    → (j : ℕ) → from ≤ j → j < length (insert xs k x) → get_or (insert ns k x) j 0 ≡ get_or (insert xs k x) j 0
agree-insert ns xs from k x len low le same j f lt =
    let more = length-insert xs k x le in
    let le_n : k ≤ length ns = omega arith in
    elim (less_or_not j k) [
      | inl a ↦ get_or-insert_below ns k x 0 j a le_n ∙ (same j f (omega arith) ∙ sym (get_or-insert_below xs k x 0 j a le))
      | inr a ↦ elim (less_or_not k j) [
        | inl b ↦ let one : j ≡ j - 1 + 1 = omega arith in
            ap (λ n. get_or (insert ns k x) n 0) one ∙ (get_or-insert_above ns k x 0 (j - 1) (omega arith) le_n ∙ (same (j - 1) (omega arith) (omega (arith, more)) ∙ (sym (get_or-insert_above xs k x 0 (j - 1) (omega arith) le) ∙ sym (ap (λ n. get_or (insert xs k x) n 0) one))))
        | inr b ↦ let here : j ≡ k = omega arith in
            ap (λ n. get_or (insert ns k x) n 0) here ∙ (get_or-insert_at ns k x 0 le_n ∙ (sym (get_or-insert_at xs k x 0 le) ∙ sym (ap (λ n. get_or (insert xs k x) n 0) here)))
      ]
    ]

-- one more number in groups: the numbers from its group on are joined with their groups, and parted again with it among them
module _ (gs ns xs ms : List ℕ) (k x from : ℕ) (e : sums_of 0 gs ns ≡ xs) (a : AreGrouped gs ns) (le : k ≤ length xs) (from_is : from ≡ k / 64) (len_m : length ms ≡ length ns)
    (m_kept : (j : ℕ) → j < 64 * from → get_or ms j 0 ≡ get_or ns j 0) (m_sums : (j : ℕ) → 64 * from ≤ j → j < length ns → get_or ms j 0 ≡ get_or gs (j / 64) 0 + get_or ns j 0) where
  same : length xs ≡ length ns
  same = many gs ns xs e

  agree : (j : ℕ) → 64 * from ≤ j → j < length xs → get_or ms j 0 ≡ get_or xs j 0
  agree j f lt = m_sums j f (omega (arith, same)) ∙ sym (sum_at gs ns xs j e (omega (arith, same)))

  pub put_length : length (insert ms k x) ≡ length ns + 1
  put_length = length-insert ms k x (omega (arith, same)) ∙ ap (λ n. n + 1) len_m

  put_at : (j : ℕ) → 64 * from ≤ j → j < length (insert ms k x) → get_or (insert ms k x) j 0 ≡ get_or (insert xs k x) j 0
  put_at j f lt = agree-insert ms xs (64 * from) k x (omega (arith, same)) (omega arith) le agree j f (omega (arith, length-insert xs k x le, put_length, same))

  pub put_rise : 0 < k → ((i j : ℕ) → i ≤ j → j < length xs → get_or xs i 0 ≤ get_or xs j 0) → get_or xs (k - 1) 0 ≤ x → ((j : ℕ) → k ≤ j → j < length xs → x ≤ get_or xs j 0)
      → (i j : ℕ) → 64 * from ≤ i → i ≤ j → j < length (insert ms k x) → get_or (insert ms k x) i 0 ≤ get_or (insert ms k x) j 0
  put_rise some rise before after i j f ij lt = omega (arith, put_at i f (omega arith), put_at j (omega arith) lt, rise-insert xs k x some le rise before after i j ij (omega (arith, length-insert xs k x le, put_length, same)))

  module _ (hs os : List ℕ) (fits : x < 2 ^ 64) (len_o : length os ≡ length (insert ms k x)) (covered : length (insert ms k x) ≤ 64 * length hs) (begun : (g : ℕ) → g < length hs → 64 * g < length (insert ms k x))
      (h_kept : (g : ℕ) → g < from → get_or hs g 0 ≡ get_or gs g 0) (o_kept : (j : ℕ) → j < 64 * from → get_or os j 0 ≡ get_or (insert ms k x) j 0)
      (first : (g : ℕ) → from ≤ g → g < length hs → get_or hs g 0 ≡ get_or (insert ms k x) (64 * g) 0) (sums : (j : ℕ) → 64 * from ≤ j → j < length (insert ms k x) → get_or hs (j / 64) 0 + get_or os j 0 ≡ get_or (insert ms k x) j 0) where
    early : (j : ℕ) → j < 64 * from → get_or os j 0 ≡ get_or ns j 0
    early j l = o_kept j l ∙ (get_or-insert_below ms k x 0 j (omega arith) (omega (arith, same)) ∙ m_kept j l)

    sum_put : (j : ℕ) → j < length os → get_or hs (j / 64) 0 + get_or os j 0 ≡ get_or (insert xs k x) j 0
    sum_put j lt = elim (less_or_not j (64 * from)) [
      | inl l ↦ omega (arith, h_kept (j / 64) (omega arith), early j l, sum_at gs ns xs j e (omega (arith, same)), get_or-insert_below xs k x 0 j (omega arith) le)
      | inr l ↦ sums j l (omega arith) ∙ put_at j l (omega arith)
    ]

    below : (j : ℕ) → j < length xs → get_or xs j 0 < 2 ^ 64
    below j lt = omega (arith, sum_at gs ns xs j e (omega (arith, same)), a.fits j (omega (arith, same)))

    pub put_grouped : AreGrouped hs os
    put_grouped = record {
      covered = omega arith;
      begun = λ g lt. omega (arith, begun g lt);
      zero = λ g lt. elim (less_or_not g from) [
        | inl l ↦ early (64 * g) (omega arith) ∙ a.zero g (omega (arith, a.covered, same))
        | inr l ↦ let turned : 64 * g / 64 ≡ g = omega arith in omega (arith, sums (64 * g) (omega arith) (begun g lt), ap (λ i. get_or hs i 0) turned, first g l lt)
      ];
      fits = λ j lt. omega (arith, sum_put j lt, below-insert xs k x (2 ^ 64) le below fits j (omega (arith, length-insert xs k x le, put_length, same)));
    }

    pub put_sums : sums_of 0 hs os ≡ insert xs k x
    put_sums = ext_get_or 0 (sums_of 0 hs os) (insert xs k x) (omega (arith, length-sums_of 0 hs os, length-insert xs k x le, put_length, same))
        (λ j lt. let l : j < length os = omega (arith, length-sums_of 0 hs os) in sum_at hs os (sums_of 0 hs os) j refl l ∙ sum_put j l)
