-- Few items in one block.
use Rattle.std.specs.Prelude.{List, ◌≡◌, None, Some}
use Rattle.std.specs.List.{last_or}
use Rattle.std.specs.Map.{keys_of}

-- the key of the last item, of which there is one
abbrev pub IsLastKey : {K V : Type 0} → List (K × V) → K → Type 0
IsLastKey items key = last_or None (keys_of items) ≡ Some key
