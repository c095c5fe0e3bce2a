-- Steps for the spans of nodes and edges, and for their events.
use Rattle.std.proofs.Common.{◌≡◌, ℕ, zero, suc, ◌+◌, ◌-◌, ◌*◌, ◌<◌, ◌≤◌, List, [], ◌∷◌, ◌++◌, length, take, get_or, refl, sym, ◌∙◌, ap, subst, arith, length-append}
use Rattle.graph_model.specs.declared.events.Entity.{Entity}
use Rattle.graph_model.specs.declared.events.Event.{Event}
use Rattle.graph_model.specs.World.{World, events_of}
use Rattle.view_trait.specs.Meaning.{StepsWithin}
use Rattle.view_trait.proofs.Costs.{StepsWithin-fewer, StepsWithin-then, StepsWithin-times}
use Rattle.view_lists.specs.Listing.{all_placed, entities_of, placed_from}
use Rattle.view_lists.specs.declared.listing.EventPlace.{EventPlace}
use Rattle.view_lists.specs.declared.listing.ShownEntity.{ShownEntity}
use Rattle.view_lists.proofs.ShownOnes.{entity_shown}
use Rattle.view_lists.proofs.SpanPlaces.{places_more}

-- the searches of one more node, or of one more edge
pub node_more : (before between after i s among : ℕ) → StepsWithin before between (i * s) among → StepsWithin between after s among → StepsWithin before after ((i + 1) * s) among
node_more before between after i s among h k =
    let e : (i + 1) * s ≡ s + i * s = grind arith in
    subst (λ n. StepsWithin before after n among) (sym e) (StepsWithin-then before between after (i * s) s among h k)

pub edge_more : (before between after most j t among : ℕ) → StepsWithin before between (most + j * t) among → StepsWithin between after t among → StepsWithin before after (most + (j + 1) * t) among
edge_more before between after most j t among h k =
    let e : most + (j + 1) * t ≡ t + (most + j * t) = grind arith in
    subst (λ n. StepsWithin before after n among) (sym e) (StepsWithin-then before between after (most + j * t) t among h k)

pub no_edges : (before after n s t among : ℕ) → StepsWithin before after (n * s) among → StepsWithin before after (n * s + 0 * t) among
no_edges before after n s t among h =
    let e : n * s ≡ n * s + 0 * t = omega arith in
    subst (λ m. StepsWithin before after m among) e h

-- so far, and no more than of all nodes and edges
pub node_within : (before between after i n s rest among : ℕ) → i < n → StepsWithin before between (i * s) among → StepsWithin between after s among → StepsWithin before after (n * s + rest) among
node_within before between after i n s rest among lt h k =
    let made = StepsWithin-times before after (i + 1) n s among (omega (arith, lt)) (node_more before between after i s among h k) in
    let e : rest + n * s ≡ n * s + rest = omega arith in
    subst (λ m. StepsWithin before after m among) e (StepsWithin-fewer before after (n * s) rest among made)

pub edge_within : (before between after most j m t among : ℕ) → j < m → StepsWithin before between (most + j * t) among → StepsWithin between after t among → StepsWithin before after (most + m * t) among
edge_within before between after most j m t among lt h k =
    let left = m - (j + 1) in
    let n : left + (j + 1) ≡ m = omega (arith, lt) in
    let e : left * t + (most + (j + 1) * t) ≡ most + (left + (j + 1)) * t = grind arith in
    subst (λ n. StepsWithin before after n among) (e ∙ ap (λ n. most + n * t) n) (StepsWithin-fewer before after (most + (j + 1) * t) (left * t) among (edge_more before between after most j t among h k))

length_placed : (s k : ℕ) (xs : List Event) → length (placed_from s k xs) ≡ length xs
length_placed s k [] = omega arith
length_placed s k (x ∷ xs) = let rest = length_placed s (k + 1) xs in omega (arith, rest)

-- one reading for each event of one more node or edge
pub spent_more : (w : World) (x : Entity) (s : ℕ) (old new : List EventPlace) (before between after : ℕ) → new ≡ old ++ placed_from s 0 (events_of w x)
    → between ≤ before + length old → after ≤ between + length (events_of w x) → after ≤ before + length new
spent_more w x s old new before between after is spent more =
    let size : length new ≡ length old + length (events_of w x) = ap (λ l. length l) is ∙ (length-append old (placed_from s 0 (events_of w x)) ∙ ap (λ n. length old + n) (length_placed s 0 (events_of w x))) in
    omega (arith, size, spent, more)

-- the places of the first entities are no more than those of all
placed_first : (w : World) (s n : ℕ) (es : List Entity) → length (all_placed w s (take n es)) ≤ length (all_placed w s es)
placed_first w s zero es = omega arith
placed_first w s (suc n) [] = omega arith
placed_first w s (suc n) (e ∷ es) =
    let rest = placed_first w (s + 1) n es in
    let some = length-append (placed_from s 0 (events_of w e)) (all_placed w (s + 1) (take n es)) in
    let all = length-append (placed_from s 0 (events_of w e)) (all_placed w (s + 1) es) in
    omega (arith, rest, some, all)

-- the readings of one more node or edge are among those of all
pub spent_within : (w : World) (xs : List ShownEntity) (i : ℕ) (one : ShownEntity) (old : List EventPlace) (before between after : ℕ) → i < length xs → get_or xs i one ≡ one → old ≡ all_placed w 0 (take i (entities_of xs))
    → between ≤ before + length old → after ≤ between + length (events_of w (entity_shown one)) → after ≤ before + length (all_placed w 0 (entities_of xs))
spent_within w xs i one old before between after lt here is spent more =
    let new = old ++ placed_from i 0 (events_of w (entity_shown one)) in
    let placed = ap (λ l. length l) (places_more w xs i one old new lt here is refl) in
    let so_far = spent_more w (entity_shown one) i old new before between after refl spent more in
    let all = placed_first w 0 (i + 1) (entities_of xs) in
    omega (arith, placed, so_far, all)
