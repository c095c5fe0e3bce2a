use Rattle.std.proofs.Common.{◌≡◌, ◌<◌, ◌∙◌, ℕ, ap, arith, get_or, length, subst, sym}
use Rattle.std.specs.List.{All}
use Rattle.std.proofs.lemmas.List.Elements.{All-push}
use Rattle.std.proofs.lemmas.Option.{get_or_from_slice_get}
use Rattle.graph_model.specs.Answer.{degree_row}
use Rattle.graph_store.specs.Contents.{name_at}
use Rattle.present_links.proofs.Numbers.{rows_push}
use Rattle.walk_algorithms.specs.declared.degree_rows.Degree.{Degree}
use Rattle.walk_algorithms.specs.Degrees.{degree_row_of}
use Rattle.walk_algorithms.proofs.degree_rows.degrees_of.Goals as goal

pub loop-i-preserved : goal.loop-i-preserved
loop-i-preserved g c =
    let s = g.V.View.contents c.args.view.now in
    let w = g.V.View.world c.args.view.now in
    let i = c.loop-i.i in
    let below : i < length c.args.nodes.now = (let lt = c.loop-i-test.true in let long = c.len-i-end.ensures in omega (arith, lt, long)) in
    let here : get_or c.args.nodes.now i 0 ≡ c.item-node.result.0 = get_or_from_slice_get c.args.nodes.now i c.item-node.result.0 0 c.item-node.ensures in
    let within : c.degree_of.result.node.0 < length s.nodes = subst (λ n. n < length s.nodes) (here ∙ sym (ap (λ n. n.0) c.degree_of.ensures.node)) (c.requires.known i 0 below) in
    record {
      rows =
          rows_push (degree_row_of s) (λ (n : ℕ). degree_row w (name_at s.nodes n)) c.loop-i.rows.items c.push.new.self.items c.degree_of.result c.args.nodes.now i 0 c.in_ok-push.ensures.items c.loop-i.invariant.rows below
          (c.degree_of.ensures.row ∙ ap (λ (n : ℕ). degree_row w (name_at s.nodes n)) (sym here));
      known =
          subst (All (λ (d : Degree). d.node.0 < length s.nodes)) (sym c.in_ok-push.ensures.items)
          (All-push (λ (d : Degree). d.node.0 < length s.nodes) c.loop-i.rows.items c.degree_of.result c.loop-i.invariant.known within);
    }
