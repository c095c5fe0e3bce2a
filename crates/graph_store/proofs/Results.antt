-- Results that are sure to be well, and places that are found.
use Rattle.std.proofs.Common.{◌≡◌, ℕ, List, [], ◌∷◌, Bool, true, false, ◌++◌, refl}
use Rattle.std.specs.Prelude.{Result, Ok, Err, IsOk, OnOk, IsErrOf, IfOk}
use Rattle.std.specs.List.{list_any}
use Rattle.indexmap.specs.IndexSet.{insert_key}
use Rattle.name_intern.specs.declared.table.InternFault.{InternFault}
use Rattle.name_intern.specs.declared.table.InternFault.TheVariants.{Full, Memory}

-- what holds of a value, where there is one
pub sure : {A E P : Type 0} (r : Result A E) → IsOk r → OnOk r P → P
sure (Ok x) ok h = h
sure (Err e) ok h = cc

-- a key that is not there goes last
pub insert_key-new : {X : Type 0} (eq : X → X → Bool) (xs : List X) (x : X) → list_any (eq x) xs ≡ false → insert_key eq xs x ≡ xs ++ x ∷ []
insert_key-new eq xs x e = rw e refl

-- and one that is there leaves the keys
pub insert_key-known : {X : Type 0} (eq : X → X → Bool) (xs : List X) (x : X) → list_any (eq x) xs ≡ true → insert_key eq xs x ≡ xs
insert_key-known eq xs x e = rw e refl

-- what holds of any result
pub on_any : {A E P : Type 0} (r : Result A E) → P → OnOk r P
on_any (Ok x) h = h
on_any (Err e) h = tt

-- a name is taken where the table is not full and there is memory
pub interned : (r : Result ℕ InternFault) → (IsErrOf r Full → ⊥) → (IsErrOf r Memory → ⊥) → IsOk r
interned (Ok x) full memory = refl
interned (Err Full) full memory = absurd (full refl)
interned (Err Memory) full memory = absurd (memory refl)

pub if_ok : {A E P : Type 0} {Q : A → Type 0} (r : Result A E) → IsOk r → IfOk r Q → ((x : A) → Q x → P) → P
if_ok (Ok x) ok h f = f x h
if_ok (Err e) ok h f = cc
