-- The records of a world, written one after another.
use Rattle.std.proofs.Common.{◌≡◌, ◌∙◌, ◌++◌, ◌∷◌, ◌+◌, [], ℕ, suc, List, length, map, refl, sym, ap, append_assoc, arith}
use Rattle.std.specs.Prelude.{OnOk, Result, Ok, Err}
use Rattle.std.proofs.lemmas.List.{length-map, length-append, map-append}
use Rattle.std.proofs.lemmas.List.Concat.{flat_map-append}
use Rattle.csv.specs.Writing.{default_writer, row_text}
use Rattle.graph_model.specs.Answer.{Row, EventRow, SpanRow, TypeRow, row_fields, world_rows}
use Rattle.graph_model.specs.Interval.{Interval}
use Rattle.graph_model.specs.Output.{world_row}
use Rattle.graph_model.specs.RowText.{rows_text}
use Rattle.graph_model.specs.World.{World}
use Rattle.view_lists.specs.declared.listing.EventPlace.{EventPlace}
use Rattle.view_lists.specs.declared.listing.ShownEntity.{ShownEntity}
use Rattle.view_lists.specs.declared.types.TypedNode.{TypedNode}
use Rattle.view_lists.specs.Listing.{event_placed}
use Rattle.view_lists.specs.Types.{types_listed}
use Rattle.answer_parts.specs.WorldPart.{part_rows}
use Rattle.view_answers.specs.Records.{type_row}
use Rattle.answer_parts.proofs.Written.{part_of}

type_rows : (types : List TypedNode) → map type_row types ≡ map (λ (t : List ℕ × List ℕ). TypeRow t.0 t.1) (types_listed types)
type_rows [] = refl
type_rows (t ∷ types) = ap (λ rows. type_row t ∷ rows) (type_rows types)

record_rows : (w : World) (xs : List ShownEntity) (places : List EventPlace) → map (λ p. EventRow (event_placed w xs p)) places ≡ map EventRow (map (event_placed w xs) places)
record_rows w xs [] = refl
record_rows w xs (p ∷ places) = ap (λ rows. EventRow (event_placed w xs p) ∷ rows) (record_rows w xs places)

rows_text-append : (front behind : List Row) → rows_text (map row_fields (front ++ behind)) ≡ rows_text (map row_fields front) ++ rows_text (map row_fields behind)
rows_text-append front behind = ap rows_text (map-append row_fields front behind) ∙ flat_map-append (row_text default_writer) (map row_fields front) (map row_fields behind)

-- the row of a world, its bounds, its types, and then its events
pub records_part : {T E : Type 0} (r : Result T E) (w : World) (bounds : Interval) (n : ℕ) (types : List TypedNode) (xs : List ShownEntity) (places : List EventPlace) (old first second third new : List ℕ)
    → bounds ≡ w.bounds → types_listed types ≡ w.types → map (event_placed w xs) places ≡ w.events → n ≡ suc (length types + length places)
    → first ≡ old ++ row_text default_writer (world_row bounds n) → second ≡ first ++ row_text default_writer (row_fields (SpanRow bounds)) → third ≡ second ++ rows_text (map row_fields (map type_row types))
    → OnOk r (new ≡ third ++ rows_text (map row_fields (map (λ p. EventRow (event_placed w xs p)) places)))
    → OnOk r (new ≡ old ++ rows_text (part_rows w (world_rows w)))
records_part (Err e) w bounds n types xs places old first second third new b t v count one two three h = tt
records_part {T} {E} (Ok x) w bounds n types xs places old first second third new b t v count one two three h =
    let ts = map type_row types in
    let es = map (λ p. EventRow (event_placed w xs p)) places in
    let rows : SpanRow bounds ∷ (ts ++ es) ≡ world_rows w = (λ i. SpanRow (b i) ∷ ((type_rows types ∙ ap (map (λ (t : List ℕ × List ℕ). TypeRow t.0 t.1)) t) i ++ (record_rows w xs places ∙ ap (map EventRow) v) i)) in
    let both = length-append ts es in
    let some = length-map types type_row in
    let more = length-map places (λ p. EventRow (event_placed w xs p)) in
    let size : n ≡ length (SpanRow bounds ∷ (ts ++ es)) = count ∙ omega (arith, both, some, more) in
    let span = row_text default_writer (row_fields (SpanRow bounds)) in
    let world = row_text default_writer (world_row bounds n) in
    let typed = rows_text (map row_fields ts) in
    let recorded = rows_text (map row_fields es) in
    let whole : new ≡ old ++ rows_text (world_row bounds n ∷ map row_fields (SpanRow bounds ∷ (ts ++ es))) =
    h
    ∙ (ap (λ s. s ++ recorded) (three ∙ ap (λ s. s ++ typed) (two ∙ ap (λ s. s ++ span) one))
    ∙ (append_assoc ((old ++ world) ++ span) typed recorded
    ∙ (ap (λ s. ((old ++ world) ++ span) ++ s) (sym (rows_text-append ts es))
    ∙ (append_assoc (old ++ world) span (rows_text (map row_fields (ts ++ es)))
    ∙ append_assoc old world (span ++ rows_text (map row_fields (ts ++ es))))))) in
    part_of {T = T} {E = E} (Ok x) w bounds n (SpanRow bounds ∷ (ts ++ es)) (world_rows w) old new b size rows whole
