use Rattle.std.proofs.Common.{◌≡◌, ◌<◌, ◌≤◌, ◌∙◌, ℕ, List, ap, arith, length, map, subst, sym}
use Rattle.std.specs.List.{All}
use Rattle.std.proofs.lemmas.Result.{IfOk-weaker}
use Rattle.graph_model.specs.Answer.{AreTheFacts}
use Rattle.graph_model.specs.declared.queries.Ask.TheVariants.{Weak}
use Rattle.graph_model.specs.Presence.{nodes}
use Rattle.graph_model.specs.World.{World}
use Rattle.graph_store.specs.Contents.{Contents, name_at}
use Rattle.walk_laws.proofs.LabelFacts.{label_facts}
use Rattle.walk_algorithms.specs.declared.labels.Part.{Part}
use Rattle.walk_algorithms.specs.WalkRows.{part_row_of}
use Rattle.walk_algorithms.proofs.JoinedPlaces.{few_numbers, numbers_once, part_rows, parts_known}
use Rattle.walk_algorithms.proofs.labels.weak_parts.Goals as goal

pub returns-clause-rows : goal.returns-clause-rows
returns-clause-rows g c =
    let s = g.V.View.contents c.args.view.now in
    let w = g.V.View.world c.args.view.now in
    let nodes = c.in_ok-nodes.nodes in
    let sets = c.in_ok-sets.sets in
    IfOk-weaker c.parts_of.result _ _
    (λ parts e.
    subst (AreTheFacts w Weak) (sym (ap (map (part_row_of s)) e ∙ part_rows s w nodes c.in_ok-nodes.ensures.names sets c.in_ok-sets.ensures.reached)) (label_facts w sets c.in_ok-sets.ensures)) c.parts_of.ensures

pub returns-clause-known : goal.returns-clause-known
returns-clause-known g c =
    let s = g.V.View.contents c.args.view.now in
    let w = g.V.View.world c.args.view.now in
    let nodes = c.in_ok-nodes.nodes in
    let sets = c.in_ok-sets.sets in
    IfOk-weaker c.parts_of.result _ _
    (λ parts e.
    subst (All (λ (p : Part). (p.node.0 < length s.nodes) × (p.label.0 < length s.nodes))) (sym e) (parts_known s w nodes c.in_ok-nodes.ensures.names sets c.in_ok-sets.ensures.reached c.in_ok-nodes.ensures.known)) c.parts_of.ensures

pub places_of-requires-clause-once : goal.places_of-requires-clause-once
places_of-requires-clause-once g c = numbers_once (g.V.View.contents c.args.view.now) (g.V.View.world c.args.view.now) c.in_ok-nodes.nodes c.in_ok-nodes.ensures.names

-- there are no more present nodes than nodes
few : (s : Contents) (w : World) (numbers : List ℕ) (count : ℕ) → count ≡ length s.nodes → count ≤ 1048576 → map (name_at s.nodes) numbers ≡ nodes w → All (λ n. n < length s.nodes) numbers → length numbers < 4294967296
few s w numbers count is le named known = let short = few_numbers (length s.nodes) numbers (numbers_once s w numbers named) known in omega arith

pub join_places-requires-clause-few : goal.join_places-requires-clause-few
join_places-requires-clause-few g c =
    few (g.V.View.contents c.args.view.now) (g.V.View.world c.args.view.now) c.in_ok-nodes.nodes c.nodes.result (c.nodes.ensures.len ∙ ap (λ (v : Contents). length v.nodes) c.store.ensures) c.nodes.ensures.few c.in_ok-nodes.ensures.names c.in_ok-nodes.ensures.known

pub parts_of-requires-clause-few : goal.parts_of-requires-clause-few
parts_of-requires-clause-few g c =
    few (g.V.View.contents c.args.view.now) (g.V.View.world c.args.view.now) c.in_ok-nodes.nodes c.nodes.result (c.nodes.ensures.len ∙ ap (λ (v : Contents). length v.nodes) c.store.ensures) c.nodes.ensures.few c.in_ok-nodes.ensures.names c.in_ok-nodes.ensures.known
