-- Updates with one more, which was placed among them.
use Rattle.std.proofs.Common.{◌≡◌, ◌+◌, List, [], ◌∷◌, length, refl, arith}
use Rattle.std.specs.List.{All, AllByRecursion}
use Rattle.std.specs.Ordering.{is_lt}
use Rattle.std.proofs.lemmas.Bool.{cond_both}
use Rattle.std.proofs.lemmas.List.Elements.{recursion_from_All}
use Rattle.time_history.specs.declared.updates.Update.{Update}
use Rattle.time_history.specs.Updates.{update_cmp, placed}
use Rattle.time_history.proofs.Held.{all_from_each}

pub length-placed : (u : Update) (us : List Update) → length (placed u us) ≡ length us + 1
length-placed u [] = refl
length-placed u (v ∷ us) = cond_both (is_lt (update_cmp u v)) (u ∷ v ∷ us) (v ∷ placed u us) (λ ws. length ws ≡ length (v ∷ us) + 1) (λ e. omega arith) (λ e. omega (arith, length-placed u us))

pub each_placed : (P : Update → Type 0) (u : Update) (us : List Update) → AllByRecursion P us → P u → AllByRecursion P (placed u us)
each_placed P u [] h k = (k, tt)
each_placed P u (v ∷ us) h k = cond_both (is_lt (update_cmp u v)) (u ∷ v ∷ us) (v ∷ placed u us) (AllByRecursion P) (λ e. (k, h)) (λ e. (h.0, each_placed P u us h.1 k))

-- what holds of all updates and of one more holds of all with it
pub All-placed : (P : Update → Type 0) (u : Update) (us : List Update) → All P us → P u → All P (placed u us)
All-placed P u us h k = all_from_each P (placed u us) (each_placed P u us (recursion_from_All P us h) k)
