-- The rows of histories are those of the events of an entity.
use Rattle.std.proofs.Common.{◌≡◌, ℕ, suc, true, List, [], ◌∷◌, length, map, refl, sym, ◌∙◌, ap}
use Rattle.std.specs.Prelude.{codes, if◌then◌else◌}
use Rattle.std.specs.List.{AllByRecursion}
use Rattle.std.proofs.lemmas.List.{append-nil}
use Rattle.csv.specs.Writing.{default_writer, row_text}
use Rattle.graph_model.specs.declared.events.EdgeName.{EdgeName}
use Rattle.graph_model.specs.declared.events.Entity.TheVariants.{Node, Edge}
use Rattle.graph_model.specs.declared.events.Event.{Event}
use Rattle.graph_model.specs.declared.events.What.{What}
use Rattle.graph_model.specs.declared.events.What.TheVariants.{Node as Update, Add, Delete}
use Rattle.graph_model.specs.Answer.{Row, MomentRow, edge_kind, history_rows, row_fields}
use Rattle.graph_model.specs.Entity.{deletes, is_about, same_entity, subject}
use Rattle.graph_model.specs.Interval.{Interval}
use Rattle.graph_model.specs.Output.{world_row}
use Rattle.graph_model.specs.RowText.{rows_text}
use Rattle.graph_model.specs.World.{World, events_of}
use Rattle.world_laws.proofs.Filters.{kept_pass}
use Rattle.time_history.specs.Asked.{kind_of_event}
use Rattle.view_lists.specs.declared.moments.Moment.{Moment}
use Rattle.view_lists.specs.Moments.{moment_of_event}
use Rattle.view_answers.specs.Moments.{kind_word, moment_rows}
use Rattle.answer_parts.specs.WorldPart.{part_rows}

node_word : (name : List ℕ) (what : What) → same_entity (Node name) (subject what) ≡ true → kind_word (kind_of_event what) ≡ codes "node"
node_word name (Update other props) h = refl
node_word name (Add edge props) h = cc
node_word name (Delete edge) h = cc

edge_word : (edge : EdgeName) (what : What) → same_entity (Edge edge) (subject what) ≡ true → kind_word (kind_of_event what) ≡ (if deletes what then codes "delete" else codes "edge")
edge_word edge (Update name props) h = cc
edge_word edge (Add other props) h = refl
edge_word edge (Delete other) h = refl

rows_of : (kind : Event → List ℕ) (k : ℕ) (xs : List Event) → AllByRecursion (λ x. kind_word (kind_of_event x.what) ≡ kind x) xs → moment_rows k (map moment_of_event xs) ≡ history_rows kind k xs
rows_of kind k [] h = refl
rows_of kind k (x ∷ xs) h = let rest = rows_of kind (suc k) xs h.1 in λ i. MomentRow k x.time (h.0 i) ∷ rest i

each_node : (name : List ℕ) (xs : List Event) → AllByRecursion (λ x. is_about (Node name) x ≡ true) xs → AllByRecursion (λ x. kind_word (kind_of_event x.what) ≡ codes "node") xs
each_node name [] h = tt
each_node name (x ∷ xs) h = (node_word name x.what h.0, each_node name xs h.1)

each_edge : (edge : EdgeName) (xs : List Event) → AllByRecursion (λ x. is_about (Edge edge) x ≡ true) xs → AllByRecursion (λ x. kind_word (kind_of_event x.what) ≡ edge_kind x) xs
each_edge edge [] h = tt
each_edge edge (x ∷ xs) h = (edge_word edge x.what h.0, each_edge edge xs h.1)

length-moment_rows : (k : ℕ) (ms : List Moment) → length (moment_rows k ms) ≡ length ms
length-moment_rows k [] = refl
length-moment_rows k (m ∷ ms) = ap suc (length-moment_rows (suc k) ms)

part_is : (w : World) (bounds : Interval) (moments : List Moment) (rows : List Row) → bounds ≡ w.bounds → moment_rows 0 moments ≡ rows → world_row bounds (length moments) ∷ map row_fields (moment_rows 0 moments) ≡ part_rows w rows
part_is w bounds moments rows e h =
    let count : length moments ≡ length rows = sym (length-moment_rows 0 moments) ∙ ap length h in
    λ i. world_row (e i) (count i) ∷ map row_fields (h i)

-- the part of a node's history, and of an edge's
pub node_part : (w : World) (bounds : Interval) (moments : List Moment) (name : List ℕ) → bounds ≡ w.bounds → moments ≡ map moment_of_event (events_of w (Node name))
    → world_row bounds (length moments) ∷ map row_fields (moment_rows 0 moments) ≡ part_rows w (history_rows (λ x. codes "node") 0 (events_of w (Node name)))
node_part w bounds moments name e h =
    part_is w bounds moments (history_rows (λ x. codes "node") 0 (events_of w (Node name))) e
    (ap (moment_rows 0) h ∙ rows_of (λ x. codes "node") 0 (events_of w (Node name)) (each_node name (events_of w (Node name)) (kept_pass (is_about (Node name)) w.events)))

pub edge_part : (w : World) (bounds : Interval) (moments : List Moment) (edge : EdgeName) → bounds ≡ w.bounds → moments ≡ map moment_of_event (events_of w (Edge edge))
    → world_row bounds (length moments) ∷ map row_fields (moment_rows 0 moments) ≡ part_rows w (history_rows edge_kind 0 (events_of w (Edge edge)))
edge_part w bounds moments edge e h =
    part_is w bounds moments (history_rows edge_kind 0 (events_of w (Edge edge))) e
    (ap (moment_rows 0) h ∙ rows_of edge_kind 0 (events_of w (Edge edge)) (each_edge edge (events_of w (Edge edge)) (kept_pass (is_about (Edge edge)) w.events)))

-- the part of an answer without rows
pub none_part : (w : World) (bounds : Interval) (answer : List Row) → bounds ≡ w.bounds → answer ≡ [] → row_text default_writer (world_row bounds 0) ≡ rows_text (part_rows w answer)
none_part w bounds answer e none =
    ap (λ (b : Interval). row_text default_writer (world_row b 0)) e
    ∙ (sym (append-nil (row_text default_writer (world_row w.bounds 0)))
    ∙ ap (λ rows. rows_text (part_rows w rows)) (sym none))
