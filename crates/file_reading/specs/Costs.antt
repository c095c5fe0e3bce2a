-- How often stored times are read while events are taken.
use Rattle.std.specs.Prelude.{ℕ, ◌+◌, ◌*◌}
use Rattle.graph_model.specs.Searches.{digits}

-- so many at the most for n accepted events
abbrev pub paid_steps : ℕ → ℕ
paid_steps n = n * (digits n + 1)

-- and for n accepted events and one more for which memory was wanting
abbrev pub most_steps : ℕ → ℕ
most_steps n = (n + 1) * (digits n + 1)
