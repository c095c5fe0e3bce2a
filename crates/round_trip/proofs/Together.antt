-- What a query leaves of an events file is read again, and asked again with the same answers.
use Rattle.std.proofs.Common.{◌==◌, false, ◌≡◌, ◌&&◌, ℕ, ℤ, Bool, true, List, [], ◌∷◌, ◌++◌, map, length, Option, None, Some, refl, sym, ◌∙◌, ap, subst}
use Rattle.std.specs.Prelude.{if◌then◌else◌, Result, Ok, Err, IsTrue, ◌↔◌}
use Rattle.std.specs.Option.{option_map_or}
use Rattle.std.specs.List.{AllByRecursion, Contains, list_all, range_with_len}
use Rattle.std.proofs.lemmas.Bool.{and_parts}
use Rattle.csv.specs.Writing.{default_writer, row_text}
use Rattle.graph_model.specs.declared.events.Event.{Event}
use Rattle.graph_model.specs.declared.events.Model.{Model}
use Rattle.graph_model.specs.declared.queries.Each.{Each}
use Rattle.graph_model.specs.declared.queries.Op.{Op}
use Rattle.graph_model.specs.declared.queries.Op.TheVariants.{Window, At, Before, After, Layers, ExcludeLayers, Subgraph, ExcludeNodes, EdgesWhere, NodesWhere, Valid, NodeTypes}
use Rattle.graph_model.specs.declared.queries.Query.{Query}
use Rattle.graph_model.specs.declared.queries.Ask.TheVariants.{Materialise}
use Rattle.graph_model.specs.Answer.{Row, row_fields, world_rows}
use Rattle.graph_model.specs.Output.{AreBlocks, IsOutput, is_clean, is_clean_line, IsPart, graph_row, refused_row, world_row}
use Rattle.graph_model.specs.QueryLine.{asked_of, query_of, query_said, unless_refused}
use Rattle.query_script.proofs.Kept.{line-in-range}
use Rattle.graph_model.specs.Range.{ask_in_range, each_in_range, op_in_range, query_in_range}
use Rattle.graph_model.specs.Refusal.{RecordRefusal}
use Rattle.graph_model.specs.Reading.{Reading, base_world, reading}
use Rattle.graph_model.specs.RowText.{rows_text, world_text}
use Rattle.graph_model.specs.Script.{QueryRefusal, lines_of}
use Rattle.graph_model.specs.Stack.{apply, view}
use Rattle.graph_model.specs.Window.{window}
use Rattle.graph_model.specs.Windows.{bounded, last_time, window_count, window_end, window_start, windows, windows_from}
use Rattle.graph_model.specs.World.{World}
use Rattle.world_laws.proofs.Rows.{each_contained}
use Rattle.round_trip.specs.Printable.{IsPrintable, worlds_left}
use Rattle.round_trip.proofs.Accepted.{file_printable}
use Rattle.round_trip.proofs.ReadAgain.{given, world_again, world_said}
use Rattle.round_trip.proofs.Shown.{stack_printable, windows_printable}

-- ---- the model stays

view_model : (w : World) (op : Op) → (view w op).model ≡ w.model
view_model w (Window a b) = refl
view_model w (At t) = refl
view_model w (Before t) = refl
view_model w (After t) = refl
view_model w (Layers names) = refl
view_model w (ExcludeLayers names) = refl
view_model w (Subgraph names) = refl
view_model w (ExcludeNodes names) = refl
view_model w (EdgesWhere key c v) = refl
view_model w (NodesWhere key c v) = refl
view_model w Valid = refl
view_model w (NodeTypes names) = refl

stack_model : (ops : List Op) (w : World) → (apply ops w).model ≡ w.model
stack_model [] w = refl
stack_model (op ∷ ops) w = stack_model ops (view w op) ∙ view_model w op

windows_model_at : (w : World) (each : Each) (first : ℤ) (ks : List ℕ) → AllByRecursion (λ v. v.model ≡ w.model) (map (λ k. window w (bounded (window_start each first k)) (bounded (window_end each first k))) ks)
windows_model_at w each first [] = tt
windows_model_at w each first (k ∷ ks) = (refl, windows_model_at w each first ks)

windows_model : (w : World) (each : Option Each) → AllByRecursion (λ v. v.model ≡ w.model) (windows w each)
windows_model w None = (refl, tt)
windows_model w (Some each) = by w.events
  where
    by : (xs : List Event) → AllByRecursion (λ v. v.model ≡ w.model) (windows_from w each xs)
    by [] = tt
    by (x ∷ xs) = windows_model_at w each x.time (range_with_len 0 (window_count each x.time (last_time x.time xs)))

pub left_model : (model : Model) (bytes : List ℕ) (query : Query) (w : World) → Contains (worlds_left model bytes query) w → w.model ≡ model
left_model model bytes query w k = each_contained (λ v. v.model ≡ (apply query.views (base_world model bytes)).model) (worlds_left model bytes query) w (windows_model (apply query.views (base_world model bytes)) query.each) k ∙ stack_model query.views (base_world model bytes)

-- ---- what a query leaves

pub left_printable : (model : Model) (bytes : List ℕ) (query : Query) (w : World) → IsTrue (query_in_range query) → Contains (worlds_left model bytes query) w → IsPrintable w
left_printable model bytes query w range k =
    let (ask, more) = and_parts (ask_in_range query.ask) (list_all op_in_range query.views && option_map_or each_in_range query.each true) range in
    let (views, each) = and_parts (list_all op_in_range query.views) (option_map_or each_in_range query.each true) more in
    windows_printable (apply query.views (base_world model bytes)) w query.each (stack_printable (base_world model bytes) query.views views (file_printable model bytes)) k

pub left_said : (model : Model) (bytes : List ℕ) (query : Query) (w : World) → IsTrue (query_in_range query) → Contains (worlds_left model bytes query) w → reading model (world_text w) ≡ given w.bounds w.events w.types
left_said model bytes query w range k = ap (λ m. reading m (world_text w)) (sym (left_model model bytes query w k)) ∙ world_said w (left_printable model bytes query w range k)

pub left_again : (model : Model) (bytes : List ℕ) (query : Query) (w : World) → IsTrue (query_in_range query) → Contains (worlds_left model bytes query) w → base_world model (world_text w) ≡ w
left_again model bytes query w range k = ap (λ m. base_world m (world_text w)) (sym (left_model model bytes query w k)) ∙ world_again w (left_printable model bytes query w range k)

-- ---- lines of a script

-- a line that is answered says its query
said_unless : (refusal : Option QueryRefusal) (q query : Query) → unless_refused refusal q ≡ Ok query → q ≡ query
said_unless None q query e = cc e
said_unless (Some refusal) q query e = cc e

said_by_line : (refuses : World → Query → Option QueryRefusal) (w : World) (r : Result Query QueryRefusal) (query : Query)
    → asked_of refuses w r ≡ Ok query → r ≡ Ok query
said_by_line refuses w (Err refusal) query e = cc e
said_by_line refuses w (Ok q) query e = ap Ok (said_unless (refuses w q) q query e)

pub line_in_range : (refuses : World → Query → Option QueryRefusal) (w : World) (line : List ℕ) (query : Query)
    → query_of refuses w line ≡ Ok query → IsTrue (query_in_range query)
line_in_range refuses w line query e = line-in-range line query (said_by_line refuses w (query_said line) query e)

pub line_unrefused : (refuses : World → Query → Option QueryRefusal) (model : Model) (bytes line : List ℕ) (query : Query) (w : World)
    → query_of refuses (base_world model bytes) line ≡ Ok query → Contains (worlds_left model bytes query) w → (reading model (world_text w)).refused ≡ []
line_unrefused refuses model bytes line query w e k =
    ap (λ (r : Reading). r.refused) (left_said model bytes query w (line_in_range refuses (base_world model bytes) line query e) k)

pub line_again : (refuses : World → Query → Option QueryRefusal) (model : Model) (bytes line : List ℕ) (query : Query) (w : World)
    → query_of refuses (base_world model bytes) line ≡ Ok query → Contains (worlds_left model bytes query) w → base_world model (world_text w) ≡ w
line_again refuses model bytes line query w e k = left_again model bytes query w (line_in_range refuses (base_world model bytes) line query e) k

-- ---- what is printed

-- the part of a world that answers `materialise`
pub printed_part : (w : World) (part : List (List (List ℕ))) → IsPart w Materialise part ↔ (part ≡ world_row w.bounds (length (world_rows w)) ∷ map row_fields (world_rows w))
printed_part w part = (
  λ h. h.2 ∙ ap (λ (rows : List Row). world_row w.bounds (length rows) ∷ map row_fields rows) h.1,
  λ e. (world_rows w, refl, e),
)

pub printed_text : (w : World) (part : List (List (List ℕ))) → IsPart w Materialise part → rows_text part ≡ row_text default_writer (world_row w.bounds (length (world_rows w))) ++ world_text w
printed_text w part h = ap rows_text ((printed_part w part).0 h)

-- ---- what is written for it

-- what is written for what was read
abbrev IsWritten : (World → Query → Option QueryRefusal) → Model → List ℕ → List ℕ → Reading → World → Type 0
IsWritten refuses model script text r w = (blocks : List (List (List ℕ))) × AreBlocks refuses w 1 (lines_of script) blocks
    × (text ≡ rows_text (map refused_row r.refused ++ (graph_row model r.bounds (length r.accepted) (length r.refused) ∷ blocks)))

written_same : (refuses : World → Query → Option QueryRefusal) (model : Model) (bytes script text : List ℕ) (r : Reading) (w : World) → reading model bytes ≡ r → base_world model bytes ≡ w → IsOutput refuses model bytes script text ↔ IsWritten refuses model script text r w
unfolding IsOutput
written_same refuses model bytes script text r w said again = (
  λ h. subst (λ v. IsWritten refuses model script text r v) again (subst (λ s. IsWritten refuses model script text s (base_world model bytes)) said h),
  λ h. subst (λ s. IsWritten refuses model script text s (base_world model bytes)) (sym said) (subst (λ v. IsWritten refuses model script text r v) (sym again) h),
)

pub world_written : (refuses : World → Query → Option QueryRefusal) (w : World) (script text : List ℕ) → IsPrintable w
    → IsOutput refuses w.model (world_text w) script text
    ↔ ((blocks : List (List (List ℕ))) × AreBlocks refuses w 1 (lines_of script) blocks × (text ≡ rows_text (graph_row w.model w.bounds (length w.events) 0 ∷ blocks)))
world_written refuses w script text h = written_same refuses w.model (world_text w) script text (given w.bounds w.events w.types) w (world_said w h) (world_again w h)

pub left_written : (refuses : World → Query → Option QueryRefusal) (model : Model) (bytes : List ℕ) (query : Query) (w : World) (script text : List ℕ) → IsTrue (query_in_range query) → Contains (worlds_left model bytes query) w
    → IsOutput refuses model (world_text w) script text
    ↔ ((blocks : List (List (List ℕ))) × AreBlocks refuses w 1 (lines_of script) blocks × (text ≡ rows_text (graph_row model w.bounds (length w.events) 0 ∷ blocks)))
left_written refuses model bytes query w script text range k =
    written_same refuses model (world_text w) script text (given w.bounds w.events w.types) w (left_said model bytes query w range k) (left_again model bytes query w range k)

-- ---- nothing of it is refused

clean_same : (refuses : World → Query → Option QueryRefusal) (model : Model) (bytes script : List ℕ) (r : Reading) (w : World) → reading model bytes ≡ r → base_world model bytes ≡ w
    → r.refused ≡ [] → is_clean refuses model bytes script ≡ list_all (is_clean_line refuses w) (lines_of script)
unfolding is_clean
clean_same refuses model bytes script r w said again none =
    ap (λ (s : Reading). (length s.refused == 0) && list_all (is_clean_line refuses (base_world model bytes)) (lines_of script)) said
    ∙ ap (λ v. (length r.refused == 0) && list_all (is_clean_line refuses v) (lines_of script)) again
    ∙ ap (λ (refused : List (ℕ × RecordRefusal)). (length refused == 0) && list_all (is_clean_line refuses w) (lines_of script)) none

pub world_clean : (refuses : World → Query → Option QueryRefusal) (w : World) (script : List ℕ) → IsPrintable w
    → is_clean refuses w.model (world_text w) script ≡ list_all (is_clean_line refuses w) (lines_of script)
world_clean refuses w script h = clean_same refuses w.model (world_text w) script (given w.bounds w.events w.types) w (world_said w h) (world_again w h) refl
