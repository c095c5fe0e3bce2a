-- The records that a reader of bytes in memory has left.
use Rattle.std.specs.Prelude.{◌≡◌, ◌+◌, ℕ, Bool, false, List, [], length, Option, Some, None, IsSome, if◌then◌else◌}
use Rattle.csv.specs.Machine.{ends_at_end}
use Rattle.csv.specs.Reading.{Ready, default_config, records_from, source_of}
use Rattle.csv.specs.declared.parser.State.{State}
use Rattle.csv.specs.declared.reader.Reader.{Reader}
use Rattle.csv.specs.declared.reader.Trim.TheVariants as trim

-- the records of bytes, if these are known, from a state on
abbrev pub records_behind : State → Option (List ℕ) → List (List (List ℕ))
records_behind state None = []
records_behind state (Some bytes) = records_from default_config (length bytes + 1) state bytes

-- the records that a reader has left, unless it has ended
abbrev pub records_left : {R : Type 0} → (R → Option (List ℕ)) → Bool → Reader R → List (List (List ℕ))
records_left remaining ended reader = if ended then [] else records_behind reader.state (source_of remaining reader)

-- a reader of known bytes stands between two records, and takes each as it is
pub record IsReading {R : Type 0} (remaining : R → Option (List ℕ)) (reader : Reader R) : Type 0 where
  pub plain : reader.trim ≡ trim.None
  pub ready : Ready reader
  pub config : reader.config ≡ default_config
  pub known : IsSome (source_of remaining reader)
  pub between : ends_at_end reader.state ≡ false
