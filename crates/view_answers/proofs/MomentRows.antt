-- The rows of a history that are yet to come.
use Rattle.std.proofs.Common.{◌≡◌, ◌∙◌, ◌∷◌, ◌+◌, ◌≤◌, [], ℕ, suc, List, length, drop, ap, arith}
use Rattle.std.specs.Prelude.{Some, slice_get}
use Rattle.std.proofs.lemmas.List.{drop_more, drop_all}
use Rattle.std.proofs.lemmas.Option.{get_or_from_slice_get, slice_get_within}
use Rattle.graph_model.specs.Answer.{MomentRow}
use Rattle.view_lists.specs.declared.moments.Moment.{Moment}
use Rattle.view_answers.specs.Moments.{kind_word, moment_rows}

pub moments_left : (ms : List Moment) (i : ℕ) (m : Moment) → slice_get ms i ≡ Some m → moment_rows i (drop i ms) ≡ MomentRow i m.time (kind_word m.kind) ∷ moment_rows (i + 1) (drop (i + 1) ms)
moments_left ms i m got =
    let more : drop i ms ≡ m ∷ drop (i + 1) ms = drop_more ms i m (slice_get_within ms i m got) ∙ ap (λ y. y ∷ drop (i + 1) ms) (get_or_from_slice_get ms i m m got) in
    let next : suc i ≡ i + 1 = omega arith in
    ap (moment_rows i) more ∙ ap (λ k. MomentRow i m.time (kind_word m.kind) ∷ moment_rows k (drop (i + 1) ms)) next

pub moments_end : (ms : List Moment) (i : ℕ) → length ms ≤ i → moment_rows i (drop i ms) ≡ []
moments_end ms i h = ap (moment_rows i) (drop_all i ms h)
