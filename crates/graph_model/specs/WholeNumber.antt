-- Whole numbers as texts: an optional `-` and one to nineteen digits, with a value in -2^63 to 2^63 - 1.
use Rattle.std.specs.Prelude.{◌≡◌, ℕ, ℤ, pos, neg_ℤ, Bool, ◌+◌, ◌-◌, ◌*◌, ◌^◌, ◌==◌, ◌&&◌, ◌⊎◌, IsTrue, nat_lt, nat_le, List, [], ◌∷◌, ◌++◌, length, fold, codes, FitsSigned, Option, Some, None, if◌then◌else◌}
use Rattle.std.specs.Int.{w64}
use Rattle.std.specs.List.{list_all}
use Rattle.std.specs.Char.{is_ascii_digit}

-- the number that decimal digits write
abbrev pub number_of : List ℕ → ℕ
number_of digits = fold (λ n digit. n * 10 + (digit - 48)) 0 digits

-- one to nineteen digits
abbrev pub are_digits : List ℕ → Bool
are_digits digits = nat_lt 0 (length digits) && (nat_le (length digits) 19 && list_all is_ascii_digit digits)

-- a text writes a whole number: digits alone, or a minus sign and digits
pub record WritesWhole (text : List ℕ) (z : ℤ) : Type 0 where
  pub digits : List ℕ
  pub are_few : IsTrue (are_digits digits)
  pub signed : ((text ≡ digits) × (z ≡ pos (number_of digits))) ⊎ ((text ≡ codes "-" ++ digits) × (z ≡ neg_ℤ (pos (number_of digits))))
  pub fits : FitsSigned w64 z

-- the whole number that digits without a sign write
abbrev pub whole_above : List ℕ → Option ℤ
whole_above digits = if are_digits digits && nat_lt (number_of digits) (2 ^ 63) then Some (pos (number_of digits)) else None

-- the whole number that digits behind a minus sign write
abbrev pub whole_below : List ℕ → Option ℤ
whole_below digits = if are_digits digits && nat_le (number_of digits) (2 ^ 63) then Some (neg_ℤ (pos (number_of digits))) else None

-- the whole number that a text writes, where it writes one; 45 is the minus sign
abbrev pub whole_of : List ℕ → Option ℤ
whole_of [] = None
whole_of (first ∷ rest) = if first == 45 then whole_below rest else whole_above (first ∷ rest)
