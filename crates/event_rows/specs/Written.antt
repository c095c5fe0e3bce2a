-- The rows that a writer has written into memory.
use Rattle.std.specs.Prelude.{◌≡◌, ℕ, Bool, true, false, List, [], ◌∷◌, Option, IsSome, unwrap_or, if◌then◌else◌}
use Rattle.csv.specs.Writing.{default_writer, fields_written, has_written, text_written, with_flexible, writer_setup}
use Rattle.csv.specs.declared.writer.Writer.{Writer}
use Rattle.csv.specs.declared.writer.WriterBuilder.{WriterBuilder}

-- the default writer, for rows of any lengths
abbrev pub any_lengths : WriterBuilder
any_lengths = with_flexible default_writer true

-- what stands in place of the text of a writer that has failed: no byte is 256, so it is the
-- beginning of no text, whatever is added behind it
abbrev pub no_text : List ℕ
no_text = 256 ∷ []

-- the text that a writer has written, unless it has failed
abbrev pub text_so_far : {W : Type 0} → (W → Option (List ℕ)) → Bool → Writer W → List ℕ
text_so_far contents failed writer = if failed then no_text else unwrap_or (text_written contents writer) []

-- a writer of rows of any lengths stands between two rows
pub record IsWriting {W : Type 0} (contents : W → Option (List ℕ)) (writer : Writer W) : Type 0 where
  pub setup : writer_setup writer ≡ any_lengths
  pub ended : fields_written writer ≡ 0
  pub clean : has_written writer ≡ false
  pub known : IsSome (text_written contents writer)
