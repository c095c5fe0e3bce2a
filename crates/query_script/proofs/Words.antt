-- A word that is in no form of a table.
use Rattle.std.proofs.Common.{◌≡◌, ◌≢◌, ℕ, List, [], ◌∷◌, ◌++◌, Result, Err, Bool, true, false, refl, inl, inr, cond}
use Rattle.std.proofs.lemmas.Bool.{cases_Bool}
use Rattle.std.proofs.lemmas.Slice.Eq.{bytes_eq-Decides}
use Rattle.std.specs.Str.{bytes_eq}
use Rattle.serde_json.specs.Data.{Data}
use Rattle.graph_model.specs.QueryForms.{Forms, by_word}
use Rattle.graph_model.specs.Script.{QueryRefusal, Shape}

bytes_eq-false : (a b : List ℕ) → a ≢ b → bytes_eq a b ≡ false
bytes_eq-false a b apart = elim (cases_Bool (bytes_eq a b)) [ inl same ↦ absurd (apart ((bytes_eq-Decides a b).0 same)) | inr other ↦ other ]

abbrev pub Misses : {A : Type 0} → Forms A → List ℕ → Type 0
Misses [] word = Unit {0}
Misses (form ∷ forms) word = (word ≢ form.0) × Misses forms word

passed : {A : Type 0} (test : Bool) (x : Result A QueryRefusal) (y : Result A QueryRefusal) (z : Result A QueryRefusal) → test ≡ false → y ≡ z → cond test x y ≡ z
passed true x y z failed e = cc
passed false x y z failed e = e

pub by_word-missed : {A : Type 0} (forms : Forms A) (word : List ℕ) (items : List Data) → Misses forms word → by_word forms word items ≡ Err Shape
by_word-missed [] word items missed = refl
by_word-missed (form ∷ forms) word items missed =
    passed (bytes_eq word form.0) (form.1 items) (by_word forms word items) (Err Shape) (bytes_eq-false word form.0 missed.0) (by_word-missed forms word items missed.1)

-- a word that is in no form of the front of a table is looked up behind it
pub by_word-behind : {A : Type 0} (front back : Forms A) (word : List ℕ) (items : List Data) → Misses front word → by_word (front ++ back) word items ≡ by_word back word items
by_word-behind [] back word items missed = refl
by_word-behind (form ∷ forms) back word items missed =
    passed (bytes_eq word form.0) (form.1 items) (by_word (forms ++ back) word items) (by_word back word items) (bytes_eq-false word form.0 missed.0) (by_word-behind forms back word items missed.1)
