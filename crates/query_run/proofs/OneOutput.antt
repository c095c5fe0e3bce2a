-- There is exactly one output for an events file and a script.
use Rattle.std.proofs.Common.{◌≡◌, ◌∙◌, ◌++◌, ◌∷◌, ◌+◌, [], ℕ, Bool, true, false, List, length, map, refl, sym, ap}
use Rattle.std.specs.Prelude.{Option, Result, Ok, Err}
use Rattle.std.specs.List.{Contains}
use Rattle.graph_model.specs.declared.events.Model.{Model}
use Rattle.graph_model.specs.declared.queries.Ask.{Ask}
use Rattle.graph_model.specs.declared.queries.Query.{Query}
use Rattle.graph_model.specs.World.{World, IsLawful}
use Rattle.graph_model.specs.Stack.{apply}
use Rattle.graph_model.specs.Windows.{windows}
use Rattle.graph_model.specs.Answer.{Row, row_fields}
use Rattle.graph_model.specs.RowText.{rows_text}
use Rattle.graph_model.specs.Reading.{base_world, reading, world_of}
use Rattle.graph_model.specs.Script.{QueryRefusal, is_blank, lines_of}
use Rattle.graph_model.specs.QueryLine.{query_of}
use Rattle.graph_model.specs.Output.{AreBlocks, AreParts, IsBlock, IsBlockOf, IsOutput, IsPart, IsQueryBlock, graph_row, query_row, refused_row, world_row}
use Rattle.world_laws.proofs.Rows.{contains_first, contains_later, one_answer}
use Rattle.world_laws.proofs.Each.{lawful_windows}
use Rattle.world_laws.proofs.Lawful.{IsLawful-apply}
use Rattle.world_laws.proofs.OneAnswer.{some_answer}
use Rattle.round_trip.proofs.Accepted.{file_printable}

part-one : (w : World) (ask : Ask) (xs ys : List (List (List ℕ))) → IsPart w ask xs → IsPart w ask ys → xs ≡ ys
part-one w ask xs ys p q =
    let same : p.0 ≡ q.0 = one_answer w ask p.0 q.0 p.1 q.1 in
    p.2 ∙ ap (λ (answer : List Row). world_row w.bounds (length answer) ∷ map row_fields answer) same ∙ sym q.2

joined : (a b c d xs ys : List (List (List ℕ))) → a ≡ c → b ≡ d → xs ≡ a ++ b → ys ≡ c ++ d → xs ≡ ys
joined a b c d xs ys e f g h = g ∙ ap (λ z. z ++ b) e ∙ ap (λ z. c ++ z) f ∙ sym h

parts-one : (worlds : List World) (ask : Ask) (xs ys : List (List (List ℕ))) → AreParts worlds ask xs → AreParts worlds ask ys → xs ≡ ys
parts-one [] ask xs ys p q = p ∙ sym q
parts-one (w ∷ more) ask xs ys p q = joined p.0 p.1 q.0 q.1 xs ys (part-one w ask p.0 q.0 p.2 q.2) (parts-one more ask p.1 q.1 p.3 q.3) p.4 q.4

query-one : (w : World) (number : ℕ) (query : Result Query QueryRefusal) (xs ys : List (List (List ℕ))) → IsQueryBlock w number query xs → IsQueryBlock w number query ys → xs ≡ ys
query-one w number (Ok query) xs ys p q =
    let worlds = windows (apply query.views w) query.each in
    p.2 ∙ ap (λ (parts : List (List (List ℕ))). query_row number query.ask (length worlds) ∷ parts) (parts-one worlds query.ask p.0 q.0 p.1 q.1) ∙ sym q.2
query-one w number (Err refusal) xs ys p q = p ∙ sym q

block-one : (w : World) (number : ℕ) (blank : Bool) (query : Result Query QueryRefusal) (xs ys : List (List (List ℕ))) → IsBlockOf w number blank query xs → IsBlockOf w number blank query ys → xs ≡ ys
block-one w number true query xs ys p q = p ∙ sym q
block-one w number false query xs ys p q = query-one w number query xs ys p q

blocks-one : (refuses : World → Query → Option QueryRefusal) (w : World) (number : ℕ) (lines : List (List ℕ)) (xs ys : List (List (List ℕ))) → AreBlocks refuses w number lines xs → AreBlocks refuses w number lines ys → xs ≡ ys
blocks-one refuses w number [] xs ys p q = p ∙ sym q
blocks-one refuses w number (line ∷ lines) xs ys p q =
    joined p.0 p.1 q.0 q.1 xs ys (block-one w number (is_blank line) (query_of refuses w line) p.0 q.0 p.2 q.2) (blocks-one refuses w (number + 1) lines p.1 q.1 p.3 q.3) p.4 q.4

-- an output with these blocks
abbrev text_with : Model → List ℕ → List (List (List ℕ)) → List ℕ
text_with model events blocks = let r = reading model events in
    rows_text (map refused_row r.refused ++ (graph_row model r.bounds (length r.accepted) (length r.refused) ∷ blocks))

pub output-one : (refuses : World → Query → Option QueryRefusal) (model : Model) (events script text other : List ℕ) → IsOutput refuses model events script text → IsOutput refuses model events script other → text ≡ other
unfolding IsOutput
output-one refuses model events script text other p q =
    p.2 ∙ ap (text_with model events) (blocks-one refuses (world_of model (reading model events)) 1 (lines_of script) p.0 q.0 p.1 q.1) ∙ sym q.2

-- ---- and there is one: lawful worlds have answers

parts-some : (worlds : List World) (ask : Ask) → ((v : World) → Contains worlds v → IsLawful v) → (rows : List (List (List ℕ))) × AreParts worlds ask rows
parts-some [] ask lawful = ([], refl)
parts-some (w ∷ more) ask lawful =
    let (answer, is) = some_answer w ask (lawful w (contains_first w more)) in
    let (rest, are) = parts-some more ask (λ v among. lawful v (contains_later w more v among)) in
    let part = world_row w.bounds (length answer) ∷ map row_fields answer in
    (part ++ rest, (part, rest, (answer, is, refl), are, refl))

query-some : (w : World) (number : ℕ) (said : Result Query QueryRefusal) → IsLawful w → (rows : List (List (List ℕ))) × IsQueryBlock w number said rows
query-some w number (Ok query) lawful =
    let seen = apply query.views w in
    let worlds = windows seen query.each in
    let (parts, are) = parts-some worlds query.ask (λ v among. lawful_windows seen v query.each (IsLawful-apply query.views w lawful) among) in
    (query_row number query.ask (length worlds) ∷ parts, (parts, are, refl))
query-some w number (Err refusal) lawful = (_, refl)

block-some : (w : World) (number : ℕ) (blank : Bool) (said : Result Query QueryRefusal) → IsLawful w → (rows : List (List (List ℕ))) × IsBlockOf w number blank said rows
block-some w number true said lawful = ([], refl)
block-some w number false said lawful = query-some w number said lawful

blocks-some : (refuses : World → Query → Option QueryRefusal) (w : World) (number : ℕ) (lines : List (List ℕ)) → IsLawful w → (rows : List (List (List ℕ))) × AreBlocks refuses w number lines rows
blocks-some refuses w number [] lawful = ([], refl)
blocks-some refuses w number (line ∷ lines) lawful =
    let (block, is) = block-some w number (is_blank line) (query_of refuses w line) lawful in
    let (rest, are) = blocks-some refuses w (number + 1) lines lawful in
    (block ++ rest, (block, rest, is, are, refl))

pub output-some : (refuses : World → Query → Option QueryRefusal) (model : Model) (events script : List ℕ) → (text : List ℕ) × IsOutput refuses model events script text
unfolding IsOutput
output-some refuses model events script =
    let (blocks, are) = blocks-some refuses (base_world model events) 1 (lines_of script) (file_printable model events).storable.lawful in
    (text_with model events blocks, (blocks, are, refl))
