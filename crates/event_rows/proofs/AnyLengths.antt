-- A writer of rows of any lengths writes each row as the default writer does.
use Rattle.std.proofs.Common.{◌≡◌, ◌∷◌, ℕ, List, [], refl}
use Rattle.csv.specs.Writing.{default_writer, escaped, field_text, fields_text, is_blank, row_text}
use Rattle.event_rows.specs.Written.{any_lengths}

escaped-any_lengths : (x : List ℕ) → escaped any_lengths x ≡ escaped default_writer x
unfolding escaped
escaped-any_lengths [] = refl
escaped-any_lengths (b ∷ rest) = rw (escaped-any_lengths rest) refl

field-any_lengths : (x : List ℕ) → field_text any_lengths x ≡ field_text default_writer x
field-any_lengths x = rw (escaped-any_lengths x) refl

fields-any_lengths : (xs : List (List ℕ)) → fields_text any_lengths xs ≡ fields_text default_writer xs
unfolding fields_text
fields-any_lengths [] = refl
fields-any_lengths (x ∷ xs) = rw (field-any_lengths x, fields-any_lengths xs) refl

blank-any_lengths : (xs : List (List ℕ)) → is_blank any_lengths xs ≡ is_blank default_writer xs
unfolding is_blank
blank-any_lengths [] = refl
blank-any_lengths (x ∷ []) = rw (field-any_lengths x) refl
blank-any_lengths (x ∷ y ∷ ys) = refl

pub row-any_lengths : (xs : List (List ℕ)) → row_text any_lengths xs ≡ row_text default_writer xs
row-any_lengths [] = rw (blank-any_lengths []) refl
row-any_lengths (x ∷ xs) = rw (field-any_lengths x, fields-any_lengths xs, blank-any_lengths (x ∷ xs)) refl
