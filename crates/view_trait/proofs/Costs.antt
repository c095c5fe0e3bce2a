-- Searches among fewer events take no more steps.
use Rattle.std.proofs.Common.{◌≡◌, ℕ, ◌+◌, ◌-◌, ◌*◌, ◌≤◌, subst, sym, ap, ◌∙◌, arith}
use Rattle.graph_model.specs.Searches.{digits}
use Rattle.world_laws.proofs.Digits.{digits-le}
use Rattle.view_trait.specs.Meaning.{StepsWithin}

-- searches, and then some more among no more events
pub StepsWithin-more : (before between after searches more among m : ℕ) → StepsWithin before between searches among → after ≤ between + more * digits m → m ≤ among → StepsWithin before after (searches + more) among
StepsWithin-more before between after searches more among m h k l =
    let d = digits-le m among l in grind arith

-- searches among no more events
pub StepsWithin-among : (before after searches among more : ℕ) → StepsWithin before after searches among → among ≤ more → StepsWithin before after searches more
StepsWithin-among before after searches among more h l =
    let d = digits-le among more l in grind arith

-- searches one after another
pub StepsWithin-then : (before between after first second among : ℕ) → StepsWithin before between first among → StepsWithin between after second among → StepsWithin before after (second + first) among
StepsWithin-then before between after first second among h k = grind arith

-- fewer searches
pub StepsWithin-fewer : (before after searches more among : ℕ) → StepsWithin before after searches among → StepsWithin before after (more + searches) among
StepsWithin-fewer before after searches more among h = grind arith

-- ---- searches that are made for each of some

more_times : (a b s : ℕ) → a * s + b * s ≡ (a + b) * s
more_times a b s = grind arith

pub StepsWithin-times : (before after a b s among : ℕ) → a ≤ b → StepsWithin before after (a * s) among → StepsWithin before after (b * s) among
StepsWithin-times before after a b s among l h =
    let e : (b - a) + a ≡ b = omega arith in
    subst (λ n. StepsWithin before after n among) (more_times (b - a) a s ∙ ap (λ n. n * s) e) (StepsWithin-fewer before after (a * s) ((b - a) * s) among h)

-- some of them, and then others
pub StepsWithin-both : (before between after a b s among : ℕ) → StepsWithin before between (a * s) among → StepsWithin between after (b * s) among → StepsWithin before after ((a + b) * s) among
StepsWithin-both before between after a b s among h k =
    let e : b + a ≡ a + b = omega arith in
    subst (λ n. StepsWithin before after n among) (more_times b a s ∙ ap (λ n. n * s) e) (StepsWithin-then before between after (a * s) (b * s) among h k)

-- a part of them, of which there were some left
pub StepsWithin-part : (before between after all left rest part s among : ℕ) → left ≡ part + rest → left ≤ all → StepsWithin before between ((all - left) * s) among → StepsWithin between after (part * s) among → StepsWithin before after ((all - rest) * s) among
StepsWithin-part before between after all left rest part s among e l h k =
    let more : (all - left) + part ≡ all - rest = omega (arith, e, l) in
    subst (λ n. StepsWithin before after n among) (ap (λ n. n * s) more) (StepsWithin-both before between after (all - left) part s among h k)

-- one more of them, of which there were some left
pub StepsWithin-each : (before between after all left rest s among : ℕ) → left ≡ rest + 1 → left ≤ all → StepsWithin before between ((all - left) * s) among → StepsWithin between after s among → StepsWithin before after ((all - rest) * s) among
StepsWithin-each before between after all left rest s among e l h k =
    let one : 1 * s ≡ s = omega arith in
    let next : left ≡ 1 + rest = omega (arith, e) in
    StepsWithin-part before between after all left rest 1 s among next l h (subst (λ n. StepsWithin between after n among) (sym one) k)

-- one more span, of which two times are read
pub spans_more : (before between after n s d : ℕ) → between ≤ before + (n * s) * d + 2 * n → after ≤ between + s * d + 2 → after ≤ before + ((n + 1) * s) * d + 2 * (n + 1)
spans_more before between after n s d h k =
    let e : (n * s) * d + s * d ≡ ((n + 1) * s) * d = grind arith in
    omega (arith, h, k, e)

-- and one after others
pub spans_after : (before between after most m n s d : ℕ) → between ≤ before + (most + n * s) * d + 2 * (m + n) → after ≤ between + s * d + 2 → after ≤ before + (most + (n + 1) * s) * d + 2 * (m + (n + 1))
spans_after before between after most m n s d h k =
    let e : (most + n * s) * d + s * d ≡ (most + (n + 1) * s) * d = grind arith in
    omega (arith, h, k, e)
