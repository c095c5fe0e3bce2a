-- What a contract sees of a list that grows.
use Rattle.std.specs.Prelude.{ℕ, List, refl}
use Rattle.std.specs.Coded.{Coded, code_by, coded×, coded_ℕ, coded_list}

-- the items, and how many more there is room for without memory
pub record Spaced (T : Type 0) : Type 0 where
  pub items : List T
  pub spare : ℕ

-- it is stored as the pair of its fields
abbrev pub spaced_code : {T : Type 0} → Coded T → Coded (Spaced T)
spaced_code {T} code = code_by (List T × ℕ) (coded× (coded_list code) coded_ℕ) (λ v. (v.items, v.spare)) (λ p. record { items = p.0; spare = p.1 }) (λ _. refl)
