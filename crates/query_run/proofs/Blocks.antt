-- Rows that were written one after another, and the blocks that they are.
use Rattle.std.proofs.Common.{◌≡◌, ◌∙◌, ◌++◌, ◌∷◌, ◌+◌, ◌<◌, ◌≤◌, [], ℕ, Bool, true, false, List, length, drop, get_or, map, refl, sym, ap, subst, append_assoc, arith}
use Rattle.std.proofs.lemmas.Bool.Decides.{nat_tests}
use Rattle.std.proofs.lemmas.List.{append-nil, drop_more}
use Rattle.std.proofs.lemmas.Simd.{map-map}
use Rattle.std.proofs.lemmas.Grind.{flat_map-append}
use Rattle.std.specs.List.{list_all}
use Rattle.std.specs.Prelude.{◌&&◌, OnOk, Result, Ok, Err}
use Rattle.csv.specs.Writing.{default_writer, row_text}
use Rattle.graph_model.specs.declared.queries.Query.{Query}
use Rattle.graph_model.specs.World.{World}
use Rattle.graph_model.specs.RowText.{rows_text}
use Rattle.graph_model.specs.Refusal.{RecordRefusal}
use Rattle.graph_model.specs.Limits.{most_windows}
use Rattle.graph_model.specs.Script.{QueryRefusal, Windows, is_blank, lines_of}
use Rattle.graph_model.specs.QueryLine.{asked_of, query_of, query_said, unless_refused}
use Rattle.graph_model.specs.Output.{IsBlockOf, IsQueryBlock, refused_query_row, refused_row}
use Rattle.query_answers.specs.Blocks.{AddsAnswer}
use Rattle.query_answers.specs.Refusing.{are_too_many, asked_refusal, asked_worlds}
use Rattle.query_run.specs.Blocks.{AddsLine, AddsLines, AddsQuery}

-- the row of an item, and those of the items behind it
pub rows_text-step : {X : Type 0} (f : X → List (List ℕ)) (xs : List X) (i : ℕ) (x : X) (before after : List ℕ) → i < length xs → x ≡ get_or xs i x
    → after ≡ before ++ row_text default_writer (f x) → after ++ rows_text (map f (drop (i + 1) xs)) ≡ before ++ rows_text (map f (drop i xs))
rows_text-step f xs i x before after within is written =
    let left : drop i xs ≡ x ∷ drop (i + 1) xs = drop_more xs i x within ∙ ap (λ y. y ∷ drop (i + 1) xs) (sym is) in
    rw (written, left, append_assoc) refl

-- the rows of refused records, that of the graph, and the blocks
pub rows_text-whole : {X : Type 0} (said : X → ℕ × RecordRefusal) (refused : List X) (graph : List (List ℕ)) (blocks : List (List (List ℕ))) (none first second all : List ℕ) → none ≡ []
    → first ≡ none ++ rows_text (map (λ r. refused_row (said r)) refused) → second ≡ first ++ row_text default_writer graph → all ≡ second ++ rows_text blocks
    → all ≡ rows_text (map refused_row (map said refused) ++ (graph ∷ blocks))
rows_text-whole said refused graph blocks none first second all empty e f g =
    rw (g, f, e, empty, append_assoc, map-map refused_row said refused) (sym (flat_map-append (row_text default_writer) (map (λ r. refused_row (said r)) refused) (graph ∷ blocks)))

-- whether a line is clean, and the lines behind it
pub clean-more : (clean_line : List ℕ → Bool) (left more : List (List ℕ)) (line : List ℕ) (clean line_clean next all : Bool) → left ≡ line ∷ more → line_clean ≡ clean_line line → next ≡ (clean && line_clean)
    → (clean && list_all clean_line left) ≡ all → (next && list_all clean_line more) ≡ all
clean-more clean_line left more line true line_clean next all is at both so_far = ap (λ b. b && list_all clean_line more) (both ∙ at) ∙ ap (λ lines. list_all clean_line lines) (sym is) ∙ so_far
clean-more clean_line left more line false line_clean next all is at both so_far = ap (λ b. b && list_all clean_line more) both ∙ so_far

-- ---- the block of a query

refused-added : (w : World) (number : ℕ) (refusal : QueryRefusal) (old new : List ℕ) → new ≡ old ++ row_text default_writer (refused_query_row number refusal) → AddsQuery w number (Err refusal) old new
unfolding AddsQuery
refused-added w number refusal old new is =
    let row = row_text default_writer (refused_query_row number refusal) in
    (refused_query_row number refusal ∷ [], refl, is ∙ ap (λ t. old ++ t) (sym (append-nil row)))

-- a query that is asked of a world is refused for its windows, or answered
pub asked-windows : (w : World) (query : Query) (count : ℕ) → count ≡ length (asked_worlds w query) → most_windows < count → asked_of asked_refusal w (Ok query) ≡ Err Windows
asked-windows w query count counted many =
    let too_many : are_too_many (asked_worlds w query) ≡ true = grind (arith, nat_tests) in
    rw too_many refl

pub asked-answered : (w : World) (query : Query) → length (asked_worlds w query) ≤ most_windows → asked_of asked_refusal w (Ok query) ≡ Ok query
asked-answered w query few =
    let not_too_many : are_too_many (asked_worlds w query) ≡ false = grind (arith, nat_tests) in
    rw not_too_many refl

pub refusal-added : (w : World) (number : ℕ) (query : Query) (refusal : QueryRefusal) (old middle new : List ℕ) → asked_of asked_refusal w (Ok query) ≡ Err refusal → middle ≡ old
    → new ≡ middle ++ row_text default_writer (refused_query_row number refusal) → AddsQuery w number (asked_of asked_refusal w (Ok query)) old new
refusal-added w number query refusal old middle new refused same is =
    let row = row_text default_writer (refused_query_row number refusal) in
    rw refused (refused-added w number refusal old new (is ∙ ap (λ t. t ++ row) same))

pub answered-added : (w : World) (number : ℕ) (query : Query) (old new : List ℕ) → asked_of asked_refusal w (Ok query) ≡ Ok query → AddsAnswer w number query old new
    → AddsQuery w number (asked_of asked_refusal w (Ok query)) old new
unfolding AddsAnswer AddsQuery
answered-added w number query old new answered added = rw answered added

-- ---- the block of a line

pub blank-added : (w : World) (number : ℕ) (line text : List ℕ) → is_blank line ≡ true → AddsLine w number line text text
unfolding AddsLine
blank-added w number line text blank = ([], subst (λ b. IsBlockOf w number b (query_of asked_refusal w line) []) (sym blank) refl, sym (append-nil text))

line-added : (w : World) (number : ℕ) (line : List ℕ) (said : Result Query QueryRefusal) (old new : List ℕ) → is_blank line ≡ false → query_said line ≡ said
    → AddsQuery w number (asked_of asked_refusal w said) old new → AddsLine w number line old new
unfolding AddsQuery AddsLine
line-added w number line said old new some is added = rw (some, is) added

pub said-added : {T E : Type 0} (r : Result T E) (w : World) (number : ℕ) (line : List ℕ) (query : Query) (old new : List ℕ) → is_blank line ≡ false → query_said line ≡ Ok query
    → OnOk r (AddsQuery w number (asked_of asked_refusal w (Ok query)) old new) → OnOk r (AddsLine w number line old new)
said-added (Ok x) w number line query old new some is added = line-added w number line (Ok query) old new some is added
said-added (Err e) w number line query old new some is added = tt

pub refused_line-added : (w : World) (number : ℕ) (line : List ℕ) (refusal : QueryRefusal) (old new : List ℕ) → is_blank line ≡ false → query_said line ≡ Err refusal
    → new ≡ old ++ row_text default_writer (refused_query_row number refusal) → AddsLine w number line old new
refused_line-added w number line refusal old new some is written = line-added w number line (Err refusal) old new some is (refused-added w number refusal old new written)

-- ---- the blocks of lines

-- what is still to be put behind a text: the blocks of the lines that are left
abbrev pub AddsRest : World → ℕ → List (List ℕ) → List (List ℕ) → List ℕ → List ℕ → Type 0
AddsRest w number left lines old now = (end : List ℕ) → AddsLines w number left now end → AddsLines w 1 lines old end

pub AddsRest-none : (w : World) (number : ℕ) (left : List ℕ) (lines : List (List ℕ)) (old now : List ℕ) → left ≡ [] → AddsRest w number (lines_of left) lines old now → AddsLines w 1 lines old now
unfolding AddsLines
AddsRest-none w number left lines old now none rest = (rw none at rest) now ([], refl, sym (append-nil now))

pub AddsRest-more : (w : World) (number : ℕ) (left more lines : List (List ℕ)) (line old now after : List ℕ) → left ≡ line ∷ more → AddsLine w number line now after
    → AddsRest w number left lines old now → AddsRest w (number + 1) more lines old after
unfolding AddsLine AddsLines
AddsRest-more w number left more lines line old now after is added rest end others =
    let (block, is_block, first) = added in
    let (blocks, are, then) = others in
    let text : end ≡ now ++ rows_text (block ++ blocks) =
    then ∙ (ap (λ t. t ++ rows_text blocks) first ∙ (append_assoc now (rows_text block) (rows_text blocks)
    ∙ ap (λ t. now ++ t) (sym (flat_map-append (row_text default_writer) block blocks)))) in
    rest end (rw is (block ++ blocks, (block, blocks, is_block, are, refl), text))
