-- How a file is read in pieces.
use Rattle.std.proofs.Common.{◌≡◌, ◌∙◌, ◌+◌, ◌++◌, List, ℕ, Option, Some, None, length, inl, ap, sym, length-append, append_assoc}
use Rattle.std.specs.Io.KnownBytes.{prepend_known}
use Rattle.std.proofs.Math.Seq.{drop-append_seam}
use Rattle.outside_io.specs.Outside.{StandsBehind, bytes_of}

-- so far these bytes of the named file were read, and these are left, where the files are told
abbrev pub Reads : Option (List (List ℕ × List ℕ)) → List ℕ → List ℕ → Option (List ℕ) → Type 0
Reads None name bytes left = left ≡ None
Reads (Some files) name bytes left = (rest : List ℕ) × (left ≡ Some rest) × (bytes_of files name ≡ Some (bytes ++ rest))

-- behind one more piece the file stands behind as many bytes as were given
pub Reads-stands : (files : Option (List (List ℕ × List ℕ))) (name bytes piece : List ℕ) (left more : Option (List ℕ)) (given : ℕ)
    → Reads files name bytes left → left ≡ prepend_known piece more → given ≡ length bytes + length piece → StandsBehind files name given more
Reads-stands None name bytes piece left None given h e size = cc
Reads-stands None name bytes piece left (Some more) given h e size = cc (h, e)
Reads-stands (Some files) name bytes piece left None given h e size = cc (h.1, e)
Reads-stands (Some files) name bytes piece left (Some more) given h e size =
    let rest : h.0 ≡ piece ++ more = cc (h.1, e) in
    let whole : bytes ++ h.0 ≡ (bytes ++ piece) ++ more = ap (λ (xs : List ℕ). bytes ++ xs) rest ∙ sym (append_assoc bytes piece more) in
    let size_is : given ≡ length (bytes ++ piece) = size ∙ sym (length-append bytes piece) in
    inl (bytes ++ h.0, h.2, ap Some (sym (rw (whole, size_is) (drop-append_seam (bytes ++ piece) more))))
