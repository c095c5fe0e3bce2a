-- Keys of objects, lines that are no text, and what a call gave.
use Rattle.std.proofs.Common.{◌≡◌, ℕ, List, [], ◌∷◌, map, Bool, true, false, ◌&&◌, Err, None, String, Global, string_bytes, refl, ap}
use Rattle.std.proofs.lemmas.Str.{IsUtf8-from_is_utf8, is_utf8-from_IsUtf8}
use Rattle.std.specs.List.{list_all}
use Rattle.std.specs.Prelude.{if◌then◌else◌}
use Rattle.std.specs.Str.{IsUtf8, is_utf8}
use Rattle.serde_json.specs.Read.{read}
use Rattle.serde_json.specs.View.{members_view}
use Rattle.serde_json.specs.declared.value.Value.{Value}
use Rattle.graph_model.specs.QueryLine.{is_query_key, keys_of, query_said, reading_said}
use Rattle.graph_model.specs.Script.{Json}

pub keys_same : (es : List (String Global × Value)) → list_all is_query_key (keys_of (members_view es)) ≡ list_all (λ k. is_query_key (string_bytes k)) (map (λ e. e.0) es)
keys_same [] = refl
keys_same (e ∷ es) = ap (λ more. is_query_key (string_bytes e.0) && more) (keys_same es)

-- a line that is text is read
pub said-of-text : (line : List ℕ) → IsUtf8 line → query_said line ≡ reading_said (read line)
said-of-text line text = ap (λ t. if t then reading_said (read line) else Err Json) (is_utf8-from_IsUtf8 line text)

by_text : (line : List ℕ) (t : Bool) → is_utf8 line ≡ t → (IsUtf8 line → read line ≡ None) → (if t then reading_said (read line) else Err Json) ≡ Err Json
by_text line true text unread = ap reading_said (unread (IsUtf8-from_is_utf8 line text))
by_text line false text unread = refl

-- a line that cannot be read, if it is text, is no JSON
pub said-unread : (line : List ℕ) → (IsUtf8 line → read line ≡ None) → query_said line ≡ Err Json
said-unread line unread = by_text line (is_utf8 line) refl unread

pub not-both : (t : Bool) → t ≡ false → t ≡ true → ⊥
not-both true p q = cc
not-both false p q = cc
