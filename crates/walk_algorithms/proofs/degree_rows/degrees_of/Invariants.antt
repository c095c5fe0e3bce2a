use Rattle.std.proofs.Common.{◌≡◌, ◌<◌, ℕ, length, map, take}
use Rattle.std.specs.List.{All}
use Rattle.graph_model.specs.Answer.{degree_row}
use Rattle.graph_store.specs.Contents.{name_at}
use Rattle.walk_algorithms.specs.Degrees.{degree_row_of}
use Rattle.walk_algorithms.proofs.degree_rows.degrees_of.Given as goal

abbrev pub invariant-loop-i : goal.invariant-loop-i
invariant-loop-i g l =
    let contents = g.V.View.contents l.fn.view in
    let world = g.V.View.world l.fn.view in
    record {
      rows : map (degree_row_of contents) l.rows.items ≡ map (λ (n : ℕ). degree_row world (name_at contents.nodes n)) (take l.i l.nodes);
      known : All (λ d. d.node.0 < length contents.nodes) l.rows.items;
    }
