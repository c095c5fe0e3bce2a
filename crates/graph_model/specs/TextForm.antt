-- The texts that are names, and those that are values.
use Rattle.std.specs.Prelude.{ℕ, List, length, Bool, ◌&&◌, nat_lt, nat_le}
use Rattle.std.specs.Str.{is_utf8}
use Rattle.graph_model.specs.Limits.{most_name_bytes, most_text_bytes}

-- a name has 1 to 256 bytes
abbrev pub is_name_long : List ℕ → Bool
is_name_long text = nat_lt 0 (length text) && nat_le (length text) most_name_bytes

-- the text of a value has at most 4,096 bytes
abbrev pub is_text_long : List ℕ → Bool
is_text_long text = nat_le (length text) most_text_bytes

-- a name is 1 to 256 bytes of UTF-8
abbrev pub is_name : List ℕ → Bool
is_name text = is_utf8 text && is_name_long text

-- the text of a value is at most 4,096 bytes of UTF-8
abbrev pub is_text : List ℕ → Bool
is_text text = is_utf8 text && is_text_long text
