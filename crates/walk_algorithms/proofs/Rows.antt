-- The row of a node by its ways.
use Rattle.std.proofs.Common.{◌≡◌, ℕ, ◌+◌, ◌<◌, ◌≤◌, List, length, sym, ◌∙◌, arith}
use Rattle.graph_model.specs.Answer.{DegreeRow, degree_row}
use Rattle.graph_model.specs.World.{World}
use Rattle.graph_store.specs.declared.pairs.Ends.{Ends}
use Rattle.graph_store.specs.Contents.{name_at}
use Rattle.walk_algorithms.specs.declared.ways.Ways.{Ways}
use Rattle.present_links.specs.Links.{HasLinks}
use Rattle.walk_algorithms.specs.Counted.{AreWays}
use Rattle.present_links.proofs.Neighbours.{count_both, count_in, count_out, few_neighbours}

module _ (w : World) (names : List (List ℕ)) (links : List Ends) (h : HasLinks w names links) (n : ℕ) (exists : n < length names) (ways : Ways) (is : AreWays links links n ways) where
  -- the degrees of a node are its ways inwards and outwards, and those outwards with those that have no way back
  pub row_by_ways : DegreeRow (name_at names n) ways.ins ways.outs (ways.outs + ways.alone) ≡ degree_row w (name_at names n)
  row_by_ways =
      let ins = is.ins ∙ sym (count_in w names links h n exists) in
      let outs = is.outs ∙ sym (count_out w names links h n exists) in
      let both = (λ i. is.outs i + is.alone i) ∙ sym (count_both w names links h n exists) in
      λ i. DegreeRow (name_at names n) (ins i) (outs i) (both i)

  pub few_both : ways.outs + ways.alone ≤ length names
  few_both = omega (arith, is.outs, is.alone, few_neighbours w names links h n exists)
