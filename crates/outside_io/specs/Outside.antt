-- What inputs and a sink tell of themselves, and what their calls do to it.
use Rattle.std.specs.Prelude.{◌≡◌, ◌⊎◌, ◌≤◌, ◌<◌, ◌-◌, ◌^◌, ℕ, ◌+◌, min, Bool, true, false, List, [], ◌∷◌, length, take, drop, Option, Some, None, ⊤, if◌then◌else◌}
use Rattle.std.specs.Str.{bytes_eq}
use Rattle.std.specs.Io.KnownBytes.{append_known}

-- the bytes of the first file that has the name
abbrev pub bytes_of : List (List ℕ × List ℕ) → List ℕ → Option (List ℕ)
bytes_of [] name = None
bytes_of (file ∷ files) name = if bytes_eq file.0 name then Some file.1 else bytes_of files name

-- the files are told, and none has the name
abbrev pub IsMissing : Option (List (List ℕ × List ℕ)) → List ℕ → Type 0
IsMissing None name = ⊥
IsMissing (Some files) name = bytes_of files name ≡ None

-- what a file that was just opened has left: all its bytes, where the files are told
abbrev pub Opens : Option (List (List ℕ × List ℕ)) → List ℕ → Option (List ℕ) → Type 0
Opens None name left = left ≡ None
Opens (Some files) name left = (bytes : List ℕ) × (bytes_of files name ≡ Some bytes) × (left ≡ Some bytes)

-- the bytes are those of the named file, where the files are told
abbrev pub HasBytes : Option (List (List ℕ × List ℕ)) → List ℕ → List ℕ → Type 0
HasBytes None name bytes = ⊤
HasBytes (Some files) name bytes = bytes_of files name ≡ Some bytes

-- the named file is there and longer than this, where the files are told
abbrev pub IsLonger : Option (List (List ℕ × List ℕ)) → List ℕ → ℕ → Type 0
IsLonger None name most = ⊤
IsLonger (Some files) name most = (bytes : List ℕ) × (bytes_of files name ≡ Some bytes) × (most < length bytes)

-- the named file stands behind its first `given` bytes, or none is begun and none was given, where the files are told
abbrev pub StandsBehind : Option (List (List ℕ × List ℕ)) → List ℕ → ℕ → Option (List ℕ) → Type 0
StandsBehind None name given left = left ≡ None
StandsBehind (Some files) name given left = ((bytes : List ℕ) × (bytes_of files name ≡ Some bytes) × (left ≡ Some (drop given bytes)))
    ⊎ ((left ≡ Some []) × (given ≡ 0))

-- whether there is a byte
abbrev pub has_bytes : List ℕ → Bool
has_bytes [] = false
has_bytes (byte ∷ bytes) = true

-- the sum of a count of 64 bits and a number: it stops at 2^64 - 1
abbrev pub capped_sum : ℕ → ℕ → ℕ
capped_sum count n = min (count + n) (2 ^ 64 - 1)

-- a count of faults rose, or it stands at its end and can't rise
abbrev pub Rises : ℕ → ℕ → Type 0
Rises before now = (before < now) ⊎ (2 ^ 64 - 1 ≤ now)

-- a front of the bytes was written behind what was there
abbrev pub WritesFront : Option (List ℕ) → Option (List ℕ) → List ℕ → Type 0
WritesFront old new bytes = (n : ℕ) × (n ≤ length bytes) × (new ≡ append_known old (take n bytes))
