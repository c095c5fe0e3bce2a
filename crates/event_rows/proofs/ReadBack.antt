-- What the default writer writes, the default reader reads back, row by row.
use Rattle.std.proofs.Common.{◌≡◌, ◌<◌, ◌≤◌, ◌∷◌, ◌++◌, ℕ, zero, suc, Bool, true, false, List, [], Some, length, refl, ap, arith, add-one, append_assoc}
use Rattle.std.specs.Prelude.{IsTrue}
use Rattle.std.specs.List.{list_all, list_any}
use Rattle.std.proofs.lemmas.Bool.{and_parts}
use Rattle.std.specs.Prelude.{not, ◌==◌}
use Rattle.std.proofs.lemmas.List.{length-append}
use Rattle.csv.specs.Machine.{next_record}
use Rattle.csv.specs.Reading.{Reached, default_config, records, records_from, strip_bom}
use Rattle.csv.specs.Writing.{default_writer, needs_byte, row_text}
use Rattle.csv.specs.declared.parser.State.TheVariants as st
use Rattle.csv.proofs.RoundTrip.{read-write}
use Rattle.graph_model.specs.Reading.{records_of}
use Rattle.graph_model.specs.RowText.{rows_text}
use Rattle.event_rows.specs.Rows.{begins_plainly, has_field}

-- a row of at least one field
pub row-back : (fields : List (List ℕ)) (rest : List ℕ) → IsTrue (has_field fields)
    → next_record default_config st.StartRecord [] [] (row_text default_writer fields ++ rest) ≡ Some (fields, st.StartRecord, rest)
row-back [] rest some = cc some
row-back (field ∷ fields) rest some = read-write (field ∷ fields) rest

-- a row takes a byte
pub row-some : (fields : List (List ℕ)) → 0 < length (row_text default_writer fields)
row-some fields = grind (arith, length-append)

pub rows-fit : (rows : List (List (List ℕ))) → length rows ≤ length (rows_text rows)
rows-fit [] = omega arith
rows-fit (row ∷ rows) =
    let some = row-some row in
    let more = rows-fit rows in
    let parts = length-append (row_text default_writer row) (rows_text rows) in
    omega arith

-- rows, and what stands behind them
pub rows-reached : (rows : List (List (List ℕ))) (rest : List ℕ) → IsTrue (list_all has_field rows)
    → Reached default_config st.StartRecord (rows_text rows ++ rest) rows st.StartRecord rest
unfolding Reached
rows-reached [] rest each = (refl, refl)
rows-reached (row ∷ rows) rest each =
    let (first, others) = and_parts (has_field row) (list_all has_field rows) each in
    ((row, st.StartRecord, rows_text rows ++ rest), rw (append_assoc (row_text default_writer row) (rows_text rows) rest) (row-back row (rows_text rows ++ rest) first), refl, rows-reached rows rest others)

pub rows-from : (rows : List (List (List ℕ))) (n : ℕ) → IsTrue (list_all has_field rows) → length rows ≤ n
    → records_from default_config (suc n) st.StartRecord (rows_text rows) ≡ rows
unfolding records_from next_record
rows-from [] n each fits = refl
rows-from (row ∷ rows) zero each fits = absurd (omega arith)
rows-from (row ∷ rows) (suc n) each fits =
    let (first, others) = and_parts (has_field row) (list_all has_field rows) each in
    rw (row-back row (rows_text rows) first) (ap (λ (more : List (List (List ℕ))). row ∷ more) (rows-from rows n others (omega arith)))

pub rows-back : (rows : List (List (List ℕ))) → IsTrue (list_all has_field rows) → records default_config (rows_text rows) ≡ rows
rows-back rows each = rw add-one (rows-from rows (length (rows_text rows)) each (rows-fit rows))

-- a text that begins with another byte has no byte order mark
no-mark : (b : ℕ) (xs : List ℕ) → (b == 239) ≡ false → strip_bom (b ∷ xs) ≡ b ∷ xs
unfolding strip_bom
no-mark b [] other = refl
no-mark b (c ∷ []) other = refl
no-mark b (c ∷ d ∷ rest) other = rw other refl

not-false : (t : Bool) → IsTrue (not t) → t ≡ false
not-false true e = cc e
not-false false e = refl

-- nor has a row whose first field begins with another byte: its text begins with that byte, or with a quote
pub row-unmarked : (fields : List (List ℕ)) (rest : List ℕ) → IsTrue (begins_plainly fields) → strip_bom (row_text default_writer fields ++ rest) ≡ row_text default_writer fields ++ rest
row-unmarked [] rest plain = cc plain
row-unmarked ([] ∷ fields) rest plain = cc plain
row-unmarked ((b ∷ x) ∷ fields) rest plain = by (list_any (needs_byte default_writer) (b ∷ x)) refl
  where
    by : (t : Bool) → list_any (needs_byte default_writer) (b ∷ x) ≡ t → strip_bom (row_text default_writer ((b ∷ x) ∷ fields) ++ rest) ≡ row_text default_writer ((b ∷ x) ∷ fields) ++ rest
    by true is = rw is (no-mark 34 _ refl)
    by false is = rw is (no-mark b _ (not-false (b == 239) plain))

plain-field : (fields : List (List ℕ)) → IsTrue (begins_plainly fields) → IsTrue (has_field fields)
plain-field [] plain = cc plain
plain-field (field ∷ fields) plain = refl

pub file-back : (fields : List (List ℕ)) (rows : List (List (List ℕ))) → IsTrue (begins_plainly fields) → IsTrue (list_all has_field rows)
    → records_of (rows_text (fields ∷ rows)) ≡ fields ∷ rows
file-back fields rows plain each =
    rw (row-unmarked fields (rows_text rows) plain) (rows-back (fields ∷ rows) (rw (plain-field fields plain) each))
