-- The records that are left, before and after one of them is read.
use Rattle.std.proofs.Common.{◌≡◌, ◌∙◌, ◌<◌, ◌+◌, ◌∷◌, ℕ, zero, suc, false, true, List, [], Option, Some, None, length, refl, sym, ap, arith, inl, inr, not, Bool}
use Rattle.std.specs.Prelude.{IsSome}
use Rattle.csv.specs.Machine.{Read, ends_at_end, next_record}
use Rattle.csv.specs.Reading.{Reached, ReadRecord, took_first, default_config, records_from, records_next, source_of}
use Rattle.csv.specs.declared.parser.State.{State}
use Rattle.csv.specs.declared.reader.Reader.{Reader}
use Rattle.csv.proofs.ReadFacts.{rows-end, rows-more}
use Rattle.event_rows.specs.Left.{IsReading, records_behind, records_left}
use Rattle.event_rows.proofs.Walked.{next_record-shrinks}

-- what is enough for the records of a text, as each takes a byte, is no less than more
records_from-enough : (n m : ℕ) (s : State) (xs : List ℕ) → ends_at_end s ≡ false → length xs < n → length xs < m → records_from default_config n s xs ≡ records_from default_config m s xs
unfolding records_from
records_from-enough zero m s xs between a b = absurd (omega arith)
records_from-enough (suc n) zero s xs between a b = absurd (omega arith)
records_from-enough (suc n) (suc m) s xs between a b = by (records_from-enough n m) (next_record default_config s [] [] xs) refl
  where
    by : ((t : State) (ys : List ℕ) → ends_at_end t ≡ false → length ys < n → length ys < m → records_from default_config n t ys ≡ records_from default_config m t ys)
        → (o : Option Read) → next_record default_config s [] [] xs ≡ o → records_next (records_from default_config n) o ≡ records_next (records_from default_config m) o
    by more None is = refl
    by more (Some p) is =
        let (no_longer, shorter, after) = next_record-shrinks xs s [] [] p is in
        let less : length p.2 < length xs = elim shorter [ inl less ↦ less | inr begun ↦ cc (begun, between) ] in
        ap (λ (rest : List (List (List ℕ))). p.0 ∷ rest) (more p.1 p.2 after (omega arith) (omega arith))

-- a record that is read is the first of those that were left
records_behind-more : (s : State) (xs : List ℕ) (p : Read) → ends_at_end s ≡ false → next_record default_config s [] [] xs ≡ Some p
    → (records_behind s (Some xs) ≡ p.0 ∷ records_behind p.1 (Some p.2)) × (ends_at_end p.1 ≡ false)
unfolding records_from
records_behind-more s xs p between next =
    let (no_longer, shorter, after) = next_record-shrinks xs s [] [] p next in
    let less : length p.2 < length xs = elim shorter [ inl less ↦ less | inr begun ↦ cc (begun, between) ] in
    let all : length xs + 1 ≡ suc (length xs) = omega arith in
    let others = records_from-enough (length xs) (length p.2 + 1) p.1 p.2 after less (omega arith) in
    (rw (all, next) (ap (λ (rest : List (List (List ℕ))). p.0 ∷ rest) others), after)

records_behind-end : (s : State) (xs : List ℕ) → next_record default_config s [] [] xs ≡ None → records_behind s (Some xs) ≡ []
unfolding records_from
records_behind-end s xs end =
    let all : length xs + 1 ≡ suc (length xs) = omega arith in
    rw (all, end) refl

joined : (s s2 : State) (xs ys : List ℕ) (fields : List (List ℕ)) (p : Read) → records_behind s (Some xs) ≡ p.0 ∷ records_behind p.1 (Some p.2)
    → fields ≡ p.0 → p.1 ≡ s2 → p.2 ≡ ys → records_behind s (Some xs) ≡ fields ∷ records_behind s2 (Some ys)
joined s s2 xs ys fields p all same state rest = rw (same, ← state, ← rest) all

some_known : (o : Option (List ℕ)) (xs : List ℕ) → o ≡ Some xs → IsSome o
some_known None xs is = cc is
some_known (Some ys) xs is = refl

-- a read that found a record
records_left-more : {R : Type 0} (remaining : R → Option (List ℕ)) (a b : Reader R) (fields : List (List ℕ)) (o : Option (List ℕ)) → source_of remaining a ≡ o → IsSome o
    → a.config ≡ default_config → ends_at_end a.state ≡ false → ReadRecord remaining a b true fields
    → (records_left remaining false a ≡ fields ∷ records_left remaining false b) × IsSome (source_of remaining b) × (ends_at_end b.state ≡ false)
unfolding Reached
records_left-more remaining a b fields None is some config between reads = cc some
records_left-more remaining a b fields (Some y) is some config between reads =
    let (z, source, reached) = rows-more remaining a b fields default_config a.state y y [] config is (refl, refl) reads in
    let (p, next, same, ends) = reached in
    let (all, after) = records_behind-more a.state y p between next in (
      ap (records_behind a.state) is ∙ joined a.state b.state y z fields p all same ends.0 ends.1 ∙ ap (λ (o : Option (List ℕ)). fields ∷ records_behind b.state o) (sym source),
      some_known (source_of remaining b) z source,
      sym (ap ends_at_end ends.0) ∙ after,
    )

-- a read that found none
records_left-end : {R : Type 0} (remaining : R → Option (List ℕ)) (a b : Reader R) (fields : List (List ℕ)) (o : Option (List ℕ)) → source_of remaining a ≡ o → IsSome o
    → a.config ≡ default_config → ReadRecord remaining a b false fields → records_left remaining false a ≡ []
records_left-end remaining a b fields None is some config reads = cc some
records_left-end remaining a b fields (Some y) is some config reads =
    rw is (records_behind-end a.state y (rows-end remaining a b fields default_config y config is reads))

-- a reader that takes a record has one record fewer left, and reads on
pub reading-more : {R : Type 0} (remaining : R → Option (List ℕ)) (a b : Reader R) (fields : List (List ℕ)) → IsReading remaining a → took_first b ≡ true → ReadRecord remaining a b true fields
    → (records_left remaining false a ≡ fields ∷ records_left remaining false b) × IsReading remaining b
reading-more remaining a b fields reading first reads =
    let (left, known, between) = records_left-more remaining a b fields (source_of remaining a) refl reading.known reading.config reading.between reads in
    (left, record { plain = reads.3 ∙ reading.plain; ready = inl first; config = reads.2 ∙ reading.config; known = known; between = between })

-- a reader that finds no record had none left
pub reading-end : {R : Type 0} (remaining : R → Option (List ℕ)) (a b : Reader R) (fields : List (List ℕ)) → IsReading remaining a → ReadRecord remaining a b false fields → records_left remaining false a ≡ []
reading-end remaining a b fields reading reads = records_left-end remaining a b fields (source_of remaining a) refl reading.known reading.config reads

pub not_false : (b : Bool) → not b ≡ false → b ≡ true
not_false true is = refl
not_false false is = cc is
