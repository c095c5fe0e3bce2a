-- The index that stands for nothing, where a link or an item follows no other.
use Rattle.std.specs.Prelude.{ℕ}

-- 2^32 - 1, the greatest number of 32 bits; so there are at most so many links or items
abbrev pub nowhere : ℕ
nowhere = 4294967295
