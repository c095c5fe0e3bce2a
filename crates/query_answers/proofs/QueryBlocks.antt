-- The block of an answered query.
use Rattle.std.proofs.Common.{◌≡◌, ◌∙◌, ◌∷◌, ◌++◌, ℕ, true, List, [], Some, length, refl, sym, ap, append_assoc}
use Rattle.std.specs.Prelude.{◌&&◌, IsTrue}
use Rattle.std.specs.List.{list_all}
use Rattle.std.specs.Option.{option_map_or}
use Rattle.std.proofs.lemmas.Bool.{and_parts}
use Rattle.std.proofs.lemmas.List.{append-nil, length-map}
use Rattle.std.proofs.lemmas.Grind.{flat_map-append}
use Rattle.csv.specs.Writing.{default_writer, row_text}
use Rattle.graph_model.specs.declared.queries.Ask.{Ask}
use Rattle.graph_model.specs.declared.queries.Ask.TheVariants.{Updates}
use Rattle.graph_model.specs.declared.queries.Each.{Each}
use Rattle.graph_model.specs.declared.queries.Op.{Op}
use Rattle.graph_model.specs.declared.queries.Query.{Query}
use Rattle.graph_model.specs.Output.{query_row}
use Rattle.graph_model.specs.Range.{ask_in_range, each_in_range, op_in_range, query_in_range}
use Rattle.graph_model.specs.RowText.{rows_text}
use Rattle.graph_model.specs.Stack.{apply}
use Rattle.graph_model.specs.Window.{window}
use Rattle.graph_model.specs.Windows.{windows}
use Rattle.graph_model.specs.World.{World}
use Rattle.graph_store.specs.Contents.{Contents, base_of}
use Rattle.view_trait.specs.declared.ready_ops.ReadyOp.{ReadyOp}
use Rattle.view_trait.specs.Ready.{ready_apply}
use Rattle.answer_parts.specs.WorldPart.{AddsPart}
use Rattle.window_ends.specs.declared.ends.Ends.{Ends}
use Rattle.window_ends.specs.Ends.{windows_at}
use Rattle.query_answers.specs.Asks.{is_asked}
use Rattle.query_answers.specs.Blocks.{AddsAnswer, AddsBlock, AddsParts}
use Rattle.query_answers.specs.Refusing.{asked_worlds}

-- the views of a query in range are, and its windows are
pub views-in_range : (query : Query) → IsTrue (query_in_range query) → list_all op_in_range query.views ≡ true
views-in_range query h =
    let windowed = option_map_or each_in_range query.each true in
    let parts = and_parts (ask_in_range query.ask) (list_all op_in_range query.views && windowed) h in
    (and_parts (list_all op_in_range query.views) windowed parts.1).0

pub windows-in_range : (query : Query) → IsTrue (query_in_range query) → IsTrue (option_map_or each_in_range query.each true)
windows-in_range query h =
    let windowed = option_map_or each_in_range query.each true in
    let parts = and_parts (ask_in_range query.ask) (list_all op_in_range query.views && windowed) h in
    (and_parts (list_all op_in_range query.views) windowed parts.1).1

-- a question in range is one that a line can ask
pub asked-in_range : (query : Query) → IsTrue (query_in_range query) → is_asked query.ask ≡ true
asked-in_range query h = by query.ask (and_parts (ask_in_range query.ask) (list_all op_in_range query.views && option_map_or each_in_range query.each true) h).0
  where
    by : (ask : Ask) → ask_in_range ask ≡ true → is_asked ask ≡ true
    by Updates k = cc
    by _ k = refl

-- ---- the parts of worlds

-- no part is that of no world
pub no-parts : (ask : Ask) (text : List ℕ) → AddsParts [] ask text text
unfolding AddsParts
no-parts ask text = ([], refl, sym (append-nil text))

-- a part, and the parts of more worlds behind it
pub parts-behind : (w : World) (more : List World) (ask : Ask) (old middle new : List ℕ) → AddsPart w ask old middle → AddsParts more ask middle new → AddsParts (w ∷ more) ask old new
unfolding AddsPart AddsParts
parts-behind w more ask old middle new added others =
    let (part, is, first) = added in
    let (parts, are, then) = others in
    let text : new ≡ old ++ rows_text (part ++ parts) =
    then ∙ (ap (λ t. t ++ rows_text parts) first ∙ (append_assoc old (rows_text part) (rows_text parts)
    ∙ ap (λ t. old ++ t) (sym (flat_map-append (row_text default_writer) part parts)))) in
    (part ++ parts, (part, parts, is, are, refl), text)

-- what is still to be put behind a text: the parts of the windows that are left
abbrev pub AddsRest : World → Ask → List Ends → List Ends → List ℕ → List ℕ → Type 0
AddsRest w ask left all old now = (end : List ℕ) → AddsParts (windows_at w left) ask now end → AddsParts (windows_at w all) ask old end

pub AddsRest-more : (w seen : World) (ask : Ask) (left more all : List Ends) (ends : Ends) (old now after : List ℕ) → left ≡ ends ∷ more → seen ≡ window w ends.from ends.to
    → AddsPart seen ask now after → AddsRest w ask left all old now → AddsRest w ask more all old after
AddsRest-more w seen ask left more all ends old now after is shown added rest end others =
    rest end (rw is (parts-behind (window w ends.from ends.to) (windows_at w more) ask now after end (rw (sym shown) added) others))

pub AddsRest-none : (w : World) (ask : Ask) (left all : List Ends) (old now : List ℕ) → left ≡ [] → AddsRest w ask left all old now → AddsParts (windows_at w all) ask old now
AddsRest-none w ask left all old now none rest = rest now (rw none (no-parts ask now))

-- ---- the block

-- a row, and the parts of the worlds that it counts
pub row-and-parts : (worlds : List World) (number n : ℕ) (ask : Ask) (old middle new : List ℕ) → n ≡ length worlds → middle ≡ old ++ row_text default_writer (query_row number ask n)
    → AddsParts worlds ask middle new → AddsBlock worlds number ask old new
unfolding AddsParts AddsBlock
row-and-parts worlds number n ask old middle new counted row added =
    let (parts, are, then) = added in
    let first : middle ≡ old ++ row_text default_writer (query_row number ask (length worlds)) = row ∙ ap (λ k. old ++ row_text default_writer (query_row number ask k)) counted in
    (parts, are, then ∙ (ap (λ t. t ++ rows_text parts) first ∙ append_assoc old (row_text default_writer (query_row number ask (length worlds))) (rows_text parts)))

pub row-and-part : (w : World) (number : ℕ) (ask : Ask) (old middle new : List ℕ) → middle ≡ old ++ row_text default_writer (query_row number ask 1)
    → AddsPart w ask middle new → AddsBlock (w ∷ []) number ask old new
row-and-part w number ask old middle new row added =
    row-and-parts (w ∷ []) number 1 ask old middle new refl row (parts-behind w [] ask middle new new added (no-parts ask new))

-- there are as many windows as ends
pub as-many : (w : World) (each : Each) (ends : List Ends) → windows_at w ends ≡ windows w (Some each) → length ends ≡ length (windows w (Some each))
as-many w each ends are = sym (length-map ends (λ (e : Ends). window w e.from e.to)) ∙ ap length are

-- the block of a query behind a text
pub block-added : (w : World) (number : ℕ) (query : Query) (old empty added new : List ℕ) → empty ≡ [] → AddsBlock (asked_worlds w query) number query.ask empty added → new ≡ old ++ added
    → AddsAnswer w number query old new
unfolding AddsBlock AddsAnswer
block-added w number query old empty added new none block all =
    let (parts, are, text) = block in
    let rows = query_row number query.ask (length (asked_worlds w query)) ∷ parts in
    (rows, (parts, are, refl), all ∙ ap (λ t. old ++ t) (text ∙ ap (λ t. t ++ rows_text rows) none))

-- views whose names were found show what the views leave
pub seen-world : (c shown : Contents) (ops given : List ReadyOp) (views : List Op) → shown ≡ c → given ≡ ops → ready_apply c ops (base_of c) ≡ apply views (base_of c)
    → ready_apply shown given (base_of shown) ≡ apply views (base_of c)
seen-world c shown ops given views same listed base = rw (same, listed) base
