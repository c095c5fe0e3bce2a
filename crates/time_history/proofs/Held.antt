-- How the updates of a history lie in memory.
use Rattle.std.proofs.Common.{◌≡◌, ℕ, zero, suc, ◌+◌, ◌^◌, ◌<◌, ◌≤◌, List, [], ◌∷◌, length, refl, ap, arith}
use Rattle.std.specs.List.{insert, All, AllByRecursion}
use Rattle.std.proofs.lemmas.List.Edits.{length-insert}
pub use Rattle.world_laws.proofs.ListItems.{each_at}
use Rattle.time_column.specs.Stamp.{Stamp, IsRising}
use Rattle.time_history.specs.declared.updates.Update.{Update}
use Rattle.time_history.specs.KeyValues.{KeyNumbersRise}
use Rattle.time_history.specs.Updates.{ValuesRise}
use Rattle.time_history.specs.History.{Change, updates_of, IsSound}

pub each_insert : {X : Type 0} (P : X → Type 0) (xs : List X) (i : ℕ) (x : X) → i ≤ length xs → AllByRecursion P xs → P x → AllByRecursion P (insert xs i x)
each_insert P [] zero x le h k = (k, tt)
each_insert P [] (suc i) x le h k = absurd (omega arith)
each_insert P (y ∷ ys) zero x le h k = (k, h)
each_insert P (y ∷ ys) (suc i) x le h k = (h.0, each_insert P ys i x (omega arith) h.1 k)

pub all_from_each : {X : Type 0} (P : X → Type 0) (xs : List X) → AllByRecursion P xs → All P xs
all_from_each P xs h i d lt = each_at P xs i d h lt

-- the keys of each update rise
rise_in_updates : (ss : List Stamp) (cs : List Change) → length ss ≡ length cs → AllByRecursion (λ (c : Change). KeyNumbersRise c.1) cs → AllByRecursion (λ (u : Update). KeyNumbersRise u.props) (updates_of ss cs)
rise_in_updates [] cs e h = tt
rise_in_updates (s ∷ ss) [] e h = tt
rise_in_updates (s ∷ ss) (c ∷ cs) e h = (h.0, rise_in_updates ss cs (omega arith) h.1)

pub sound_values : (ss : List Stamp) (cs : List Change) → IsSound ss cs → ValuesRise (updates_of ss cs)
sound_values ss cs h = all_from_each (λ u. KeyNumbersRise u.props) (updates_of ss cs) (rise_in_updates ss cs h.lengths h.rise)

-- one more update
pub sound_insert : (ss ts : List Stamp) (cs : List Change) (s : Stamp) (r : ℕ) (c : Change) → IsSound ss cs → r ≤ length ss → length cs + 1 < 2 ^ 32 → ts ≡ insert ss r s → IsRising ts → KeyNumbersRise c.1 → IsSound ts (insert cs r c)
sound_insert ss ts cs s r c h le fit e rise keys =
    let m = length-insert ss r s le in
    let n = length-insert cs r c (omega (arith, h.lengths)) in
    record {
      lengths = omega (arith, ap length e, h.lengths);
      fits = omega arith;
      rising = rise;
      rise = each_insert (λ (d : Change). KeyNumbersRise d.1) cs r c (omega (arith, h.lengths)) h.rise keys;
    }

pub sound_nothing : IsSound [] []
sound_nothing = record {
  lengths = refl;
  fits = omega arith;
  rising = λ i j lt in_list. absurd (omega arith);
  rise = tt;
}
