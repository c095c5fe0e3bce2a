-- Contacts are inside the bounds of their world.
use Rattle.std.proofs.Common.{◌≡◌, ℤ, pos, negsuc, ◌-ℤ◌, ◌≤ℤ◌, ◌<ℤ◌, true, ◌∷◌, [], FitsSigned, w64, sym, subst, arith}
use Rattle.std.proofs.lemmas.Bool.{or_left}
use Rattle.std.proofs.lemmas.Int.{ints}
use Rattle.graph_model.specs.declared.events.EdgeName.{EdgeName}
use Rattle.graph_model.specs.Names.{same_name}
use Rattle.graph_model.specs.Interval.{Interval, is_inside, earliest, latest}
use Rattle.graph_model.specs.World.{World, IsLawful}
use Rattle.graph_model.specs.Presence.{IsContact}
use Rattle.world_laws.proofs.Earliest.{reached_inside}
use Rattle.world_laws.proofs.Order.{same_name-refl}
use Rattle.world_laws.proofs.Times.{inside_lo, inside_hi}
use Rattle.temporal_reach.proofs.Journeys.{reached_first}

pub contact_inside : (w : World) (e : EdgeName) (t : ℤ) → IsLawful w → IsContact w e t → is_inside w.bounds t ≡ true
contact_inside w e t lawful contact = reached_inside w (e.src ∷ []) t e.dst t lawful (reached_first w (e.src ∷ []) t e t (or_left (same_name e.src e.src) _ (same_name-refl e.src)) contact (omega (arith, ints)))

pub contact_from : (w : World) (e : EdgeName) (t : ℤ) (bounds : Interval) → IsLawful w → bounds ≡ w.bounds → IsContact w e t → bounds.lo ≤ℤ t
contact_from w e t bounds lawful is contact = subst (λ (i : Interval). i.lo ≤ℤ t) (sym is) (inside_lo w.bounds t (contact_inside w e t lawful contact))

pub contact_fits : (w : World) (e : EdgeName) (t : ℤ) (bounds : Interval) → IsLawful w → bounds ≡ w.bounds → IsContact w e t → earliest ≤ℤ bounds.lo → bounds.hi ≤ℤ latest → FitsSigned w64 t
contact_fits w e t bounds lawful is contact low high =
    let a = contact_from w e t bounds lawful is contact in
    let b : t <ℤ bounds.hi = subst (λ (i : Interval). t <ℤ i.hi) (sym is) (inside_hi w.bounds t (contact_inside w e t lawful contact)) in
    between t (omega (arith, ints)) (omega (arith, ints))
  where
    between : (m : ℤ) → earliest ≤ℤ m → m ≤ℤ latest → FitsSigned w64 m
    between (pos n) lo hi = record { sfits = omega (arith, ints) }
    between (negsuc n) lo hi = record { sfits = omega (arith, ints) }

-- the moment before the lower end fits too
pub low_fits : (lo m : ℤ) → m ≡ lo -ℤ pos 1 → earliest ≤ℤ lo → FitsSigned w64 lo → FitsSigned w64 m
low_fits (pos a) (pos b) is low f = let g = f.sfits in record { sfits = omega (arith, ints) }
low_fits (pos a) (negsuc b) is low f = record { sfits = omega (arith, ints) }
low_fits (negsuc a) (pos b) is low f = record { sfits = omega (arith, ints) }
low_fits (negsuc a) (negsuc b) is low f = record { sfits = omega (arith, ints) }

-- the moment before the lower end of bounds, for a start that is not after it
pub from_low : (start lo t : ℤ) → start ≤ℤ lo → lo ≤ℤ t → ((lo -ℤ pos 1) <ℤ t → start ≤ℤ t) × (start ≤ℤ t → (lo -ℤ pos 1) <ℤ t)
from_low start lo t a b = (λ h. omega (arith, ints), λ h. omega (arith, ints))
