-- Tests and values that are joined by or.
use Rattle.std.proofs.Common.{◌≡◌, Bool, true, false, ◌||◌, Option, Some, None, refl, sym}
use Rattle.std.specs.Option.{option_or}

pub or-nothing : (b : Bool) → (b || false) ≡ b
or-nothing true = refl
or-nothing false = refl

-- a test that implies another adds nothing to it
pub or-absorbed : (a b : Bool) → (b ≡ true → a ≡ true) → a ≡ (a || b)
or-absorbed true b h = refl
or-absorbed false true h = h refl
or-absorbed false false h = refl

pub or-swap : (a b d : Bool) → ((a || b) || d) ≡ ((a || d) || b)
or-swap true b d = refl
or-swap false true true = refl
or-swap false true false = refl
or-swap false false d = sym (or-nothing d)

pub option_or-none : {X : Type 0} (o : Option X) → option_or o None ≡ o
option_or-none None = refl
option_or-none (Some x) = refl
