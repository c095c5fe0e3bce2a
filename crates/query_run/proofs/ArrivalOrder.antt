-- Events files that say the same but for the order of arrival have one output.
use Rattle.std.proofs.Common.{◌≡◌, ◌∙◌, ◌∷◌, ◌++◌, [], ℕ, List, length, map, true, false, sym, ap, subst}
use Rattle.std.specs.Prelude.{Option, Some, ◌&&◌, ◌==◌}
use Rattle.std.specs.List.{list_all}
use Rattle.std.proofs.lemmas.List.Sorted.{length_permutation}
use Rattle.std.proofs.lemmas.Option.{same_Some}
use Rattle.command_words.specs.Command.{Files}
use Rattle.graph_model.specs.declared.events.Event.{Event}
use Rattle.graph_model.specs.declared.events.Model.{Model}
use Rattle.graph_model.specs.declared.queries.Query.{Query}
use Rattle.graph_model.specs.Interval.{Interval}
use Rattle.graph_model.specs.Output.{AreBlocks, IsOutput, graph_row, is_clean, is_clean_line, refused_row}
use Rattle.graph_model.specs.Reading.{Reading, reading, world_of}
use Rattle.graph_model.specs.Refusal.{RecordRefusal}
use Rattle.graph_model.specs.RowText.{rows_text}
use Rattle.graph_model.specs.Script.{QueryRefusal, lines_of}
use Rattle.graph_model.specs.World.{World, arrange, base, event_cmp}
use Rattle.outside_io.specs.Outside.{bytes_of}
use Rattle.query_answers.specs.Refusing.{asked_refusal}
use Rattle.world_laws.specs.Acceptance.{ArriveAlike}
use Rattle.world_laws.proofs.Arranged.{in_order_permutes}
use Rattle.world_laws.proofs.Arrivals.{arranged_alike, base_alike}
use Rattle.query_run.specs.Arrival.{ReadAlike, SayAlike}
use Rattle.query_run.specs.Runs.{HasTexts, Writes, WritesAll, WritesFrontOf}
use Rattle.query_run.specs.declared.top.Status.{Status}
use Rattle.query_run.specs.declared.top.Status.TheVariants.{Done, DoneWithRefusals, Usage, Memory, InputFault, OutputFault, TooLong}

-- an arranged list is as long as what arrived
arranged-length : (xs : List Event) → length (arrange xs) ≡ length xs
arranged-length xs = length_permutation xs (arrange xs) (in_order_permutes event_cmp xs)

-- as many events are accepted
accepted-length : (xs ys : List Event) → ArriveAlike xs ys → length xs ≡ length ys
accepted-length xs ys same = sym (arranged-length xs) ∙ ap length (arranged_alike xs ys same) ∙ arranged-length ys

-- the base worlds are one
world-alike : (model : Model) (one other : Reading) → ReadAlike one other → world_of model one ≡ world_of model other
world-alike model one other alike =
    ap (λ (bounds : Interval). base model bounds one.types one.accepted) alike.bounds
    ∙ ap (λ (types : List (List ℕ × List ℕ)). base model other.bounds types one.accepted) alike.types
    ∙ base_alike model other.bounds other.types one.accepted other.accepted alike.arrive

-- so are the lists of what is refused
refused-alike : (one other : Reading) → ReadAlike one other → one.refused ≡ other.refused
refused-alike one other alike = alike.unrefused ∙ sym alike.other_unrefused

-- the text of these blocks behind what is refused and the row of a graph
abbrev text_of : Model → List (ℕ × RecordRefusal) → Interval → ℕ → List (List (List ℕ)) → List ℕ
text_of model refused bounds accepted blocks =
    rows_text (map refused_row refused ++ (graph_row model bounds accepted (length refused) ∷ blocks))

text-alike : (model : Model) (one other : Reading) (blocks : List (List (List ℕ))) → ReadAlike one other
    → text_of model one.refused one.bounds (length one.accepted) blocks ≡ text_of model other.refused other.bounds (length other.accepted) blocks
text-alike model one other blocks alike =
    ap (λ (refused : List (ℕ × RecordRefusal)). text_of model refused one.bounds (length one.accepted) blocks) (refused-alike one other alike)
    ∙ ap (λ (bounds : Interval). text_of model other.refused bounds (length one.accepted) blocks) alike.bounds
    ∙ ap (λ n. text_of model other.refused other.bounds n blocks) (accepted-length one.accepted other.accepted alike.arrive)

pub output-alike : (refuses : World → Query → Option QueryRefusal) (model : Model) (one other script text : List ℕ) → SayAlike model one other
    → IsOutput refuses model one script text → IsOutput refuses model other script text
unfolding IsOutput
output-alike refuses model one other script text alike is =
    let r = reading model one in
    let s = reading model other in
    let same : world_of model r ≡ world_of model s = world-alike model r s alike in
    let blocks : AreBlocks refuses (world_of model s) 1 (lines_of script) is.0 = rw (← same) is.1 in
    (is.0, blocks, is.2 ∙ text-alike model r s is.0 alike)

pub clean-alike : (refuses : World → Query → Option QueryRefusal) (model : Model) (one other script : List ℕ) → SayAlike model one other
    → is_clean refuses model one script ≡ is_clean refuses model other script
unfolding is_clean
clean-alike refuses model one other script alike =
    let r = reading model one in
    let s = reading model other in
    ap (λ (refused : List (ℕ × RecordRefusal)). (length refused == 0) && list_all (is_clean_line refuses (world_of model r)) (lines_of script)) (refused-alike r s alike)
    ∙ ap (λ (w : World). (length s.refused == 0) && list_all (is_clean_line refuses w) (lines_of script)) (world-alike model r s alike)

all-alike : (old new : Option (List ℕ)) (model : Model) (one other script : List ℕ) → SayAlike model one other → WritesAll old new model one script → WritesAll old new model other script
all-alike old new model one other script alike is = (is.0, output-alike asked_refusal model one other script is.0 alike is.1, is.2)

front-alike : (old new : Option (List ℕ)) (model : Model) (one other script : List ℕ) → SayAlike model one other → WritesFrontOf old new model one script → WritesFrontOf old new model other script
front-alike old new model one other script alike is = (is.0, output-alike asked_refusal model one other script is.0 alike is.1, is.2, is.3, is.4)

-- what a file holds is one text
held-one : (x : Option (List ℕ)) (one held : List ℕ) → x ≡ Some one → x ≡ Some held → held ≡ one
held-one x one held told holds = same_Some held one (sym holds ∙ told)

-- a fact of both texts goes on where the events file is another and the script the same
texts-alike : (P : Model → List ℕ → List ℕ → Type 0) (model : Model) (e s f t one other script : List ℕ) (files others : List (List ℕ × List ℕ))
    → bytes_of files e ≡ Some one → bytes_of others f ≡ Some other → bytes_of files s ≡ Some script → bytes_of others t ≡ Some script
    → (P model one script → P model other script) → HasTexts (Some (Files model e s)) (Some files) P → HasTexts (Some (Files model f t)) (Some others) P
texts-alike P model e s f t one other script files others has_one has_other has_script has_same go is =
    let first : P model one is.2 = subst (λ x. P model x is.2) (held-one (bytes_of files e) one is.0 has_one is.1) is.4 in
    let both : P model one script = subst (λ x. P model one x) (held-one (bytes_of files s) script is.2 has_script is.3) first in
    (other, has_other, script, has_same, go both)

pub writes-alike : (status : Status) (model : Model) (e s f t one other script : List ℕ) (files others : List (List ℕ × List ℕ)) (old new : Option (List ℕ))
    → bytes_of files e ≡ Some one → bytes_of others f ≡ Some other → bytes_of files s ≡ Some script → bytes_of others t ≡ Some script
    → SayAlike model one other → Writes status (Some (Files model e s)) (Some files) old new → Writes status (Some (Files model f t)) (Some others) old new
writes-alike Done model e s f t one other script files others old new has_one has_other has_script has_same alike is =
    texts-alike (λ m x y. WritesAll old new m x y × (is_clean asked_refusal m x y ≡ true)) model e s f t one other script files others has_one has_other has_script has_same
    (λ p. (all-alike old new model one other script alike p.0, sym (clean-alike asked_refusal model one other script alike) ∙ p.1)) is
writes-alike DoneWithRefusals model e s f t one other script files others old new has_one has_other has_script has_same alike is =
    texts-alike (λ m x y. WritesAll old new m x y × (is_clean asked_refusal m x y ≡ false)) model e s f t one other script files others has_one has_other has_script has_same
    (λ p. (all-alike old new model one other script alike p.0, sym (clean-alike asked_refusal model one other script alike) ∙ p.1)) is
writes-alike OutputFault model e s f t one other script files others old new has_one has_other has_script has_same alike is =
    texts-alike (λ m x y. WritesFrontOf old new m x y) model e s f t one other script files others has_one has_other has_script has_same
    (front-alike old new model one other script alike) is
writes-alike Usage model e s f t one other script files others old new has_one has_other has_script has_same alike is = is
writes-alike Memory model e s f t one other script files others old new has_one has_other has_script has_same alike is = is
writes-alike (InputFault which) model e s f t one other script files others old new has_one has_other has_script has_same alike is = is
writes-alike (TooLong which) model e s f t one other script files others old new has_one has_other has_script has_same alike is = is
