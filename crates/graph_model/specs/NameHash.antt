-- Names that are the same are hashed the same.
use Rattle.std.specs.Prelude.{ℕ, List, IsTrue, ◌≡◌}
use Rattle.std.specs.Cmp.Lexicographic.{texts_ties, same_text}
use Rattle.std.specs.Hash as fed
use Rattle.std.proofs.Common.{ap, sym, ◌∙◌}
use Rattle.graph_model.specs.Names.{same_name}

-- names that compare as the same have the same bytes
pub same_name-equal : (x y : List ℕ) → IsTrue (same_name x y) → x ≡ y
same_name-equal x y same = same_text x y (sym (texts_ties x y ∙ same))

pub same_name-str : (x y : List ℕ) → IsTrue (same_name x y) → fed.str x ≡ fed.str y
same_name-str x y same = ap fed.str (same_name-equal x y same)
