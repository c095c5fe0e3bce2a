use Rattle.std.proofs.Common.{◌≡◌, ℕ, List, length, sym, ap, ◌∙◌, arith}
use Rattle.std.specs.Prelude.{slice_get, map}
use Rattle.std.proofs.lemmas.List.{length-map}
use Rattle.graph_model.specs.declared.properties.Value.{Value}
use Rattle.graph_model.proofs.PropItems.{value_item}
use Rattle.graph_model.specs.Pairs.{pairs}
use Rattle.graph_model.proofs.properties.Props.value_at.Goals as goal

pub returns : goal.returns
returns c =
    let e : length (pairs c.self.inside.items.items) ≡ length c.args.self.now = ap length c.self.view_is in
    let m : length (pairs c.self.inside.items.items) ≡ length c.self.inside.items.items = length-map _ _ in
    ap (λ (ps : List (List ℕ × Value)). slice_get (map (λ (p : List ℕ × Value). p.1) ps) c.args.i) (sym c.self.view_is) ∙ value_item c.self.inside.items.items c.args.i c.index.result.now (omega arith) c.index.ensures
