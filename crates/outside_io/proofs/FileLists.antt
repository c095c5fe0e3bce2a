-- Lists of files, and a file that is read piece by piece.
use Rattle.std.proofs.Common.{bytes_eq, inl, inr, true, false, ◌≡◌, ◌∙◌, ◌≤◌, ◌<◌, ◌+◌, ◌++◌, [], ℕ, List, Some, None, Option, length, take, drop, get_or, refl, sym, ap}
use Rattle.std.proofs.lemmas.Bool.{cases_Bool}
use Rattle.std.proofs.lemmas.Slice.Eq.{bytes_eq-Decides}
use Rattle.std.proofs.lemmas.List.{length-take-le, drop_more, get_or_read, append-nil, take-append-drop, drop-drop}
use Rattle.std.proofs.Math.Seq.{take-append_seam, take-nil}
use Rattle.outside_io.specs.Outside.{bytes_of}
use Rattle.outside_io.specs.MemoryFiles.{rest_of}

bytes_eq-true : (xs ys : List ℕ) → xs ≡ ys → bytes_eq xs ys ≡ true
bytes_eq-true xs ys e = (bytes_eq-Decides xs ys).1 e

bytes_eq-false : (xs ys : List ℕ) → (xs ≡ ys → ⊥) → bytes_eq xs ys ≡ false
bytes_eq-false xs ys e = elim (cases_Bool (bytes_eq xs ys)) [ inl same ↦ absurd (e ((bytes_eq-Decides xs ys).0 same)) | inr other ↦ other ]

-- a file that has another name is passed over
pub bytes_of-other : (files : List (List ℕ × List ℕ)) (name : List ℕ) (i : ℕ) (file : List ℕ × List ℕ) → i < length files → file ≡ get_or files i file
    → (file.0 ≡ name → ⊥) → bytes_of (drop i files) name ≡ bytes_of (drop (i + 1) files) name
bytes_of-other files name i file below is other = rw (drop_more files i file below, ← is, bytes_eq-false file.0 name other) refl

-- a file that has the name is found
pub bytes_of-found : (files : List (List ℕ × List ℕ)) (name : List ℕ) (i : ℕ) (file : List ℕ × List ℕ) → i < length files → file ≡ get_or files i file
    → file.0 ≡ name → bytes_of (drop i files) name ≡ Some (get_or files i ([], [])).1
bytes_of-found files name i file below is same =
    rw (← get_or_read files i file below is ([], []), drop_more files i file below, ← is, bytes_eq-true file.0 name same) refl

-- what is left of a file in memory begins with the bytes that a read gives
pub rest_of-more : (files : List (List ℕ × List ℕ)) (current : Option ℕ) (at n : ℕ)
    → rest_of files current at ≡ take n (rest_of files current at) ++ rest_of files current (at + n)
rest_of-more files None at n = sym (append-nil (take n []) ∙ take-nil n)
rest_of-more files (Some i) at n =
    let bytes : List ℕ = (get_or files i ([], [])).1 in
    sym (take-append-drop n (drop at bytes)) ∙ ap (λ (xs : List ℕ). take n (drop at bytes) ++ xs) (drop-drop n at bytes)

-- what was copied to the front of a buffer is there
pub take-copied : (n : ℕ) (copied rest behind : List ℕ) → copied ≡ take n rest → n ≤ length rest → take n (copied ++ behind) ≡ take n rest
take-copied n copied rest behind e within =
    let size : length copied ≡ n = ap length e ∙ length-take-le n rest within in
    rw (← size) (take-append_seam copied behind) ∙ e
