-- What the calls that read give, in the words of what a line says.
use Rattle.std.specs.Prelude.{◌≡◌, ◌≢◌, ⊤, Result, Ok, Err}
use Rattle.graph_model.specs.QueryOutcome.{first_refusal}
use Rattle.graph_model.specs.Script as why
use Rattle.query_script.specs.declared.refusal.QueryRefusal.{QueryRefusal}
use Rattle.query_script.specs.declared.refusal.QueryRefusal.TheVariants as refused

-- a refusal is the one that is said; of want of memory nothing is said
abbrev pub Refuses : {A : Type 0} → QueryRefusal → Result A why.QueryRefusal → Type 0
Refuses refused.Json said = said ≡ Err why.Json
Refuses refused.Shape said = said ≡ Err why.Shape
Refuses refused.Number said = said ≡ Err why.Number
Refuses refused.Depth said = said ≡ Err why.Depth
Refuses refused.Memory said = ⊤

-- the cause of a refusal, if it is no want of memory; for that one stands that is no cause of a line
abbrev pub cause : QueryRefusal → why.QueryRefusal
cause refused.Json = why.Json
cause refused.Shape = why.Shape
cause refused.Number = why.Number
cause refused.Depth = why.Depth
cause refused.Memory = why.Windows

-- a call gave what is said, unless memory was wanting
abbrev pub Gives : {A : Type 0} → Result A QueryRefusal → Result A why.QueryRefusal → Type 0
Gives (Ok a) said = said ≡ Ok a
Gives (Err refusal) said = refusal ≢ refused.Memory → said ≡ Err (cause refusal)

-- a refusal stands for two: want of memory, if one of them is, else the one that is judged first
abbrev pub StandsForBoth : QueryRefusal → QueryRefusal → QueryRefusal → Type 0
StandsForBoth first refusal other = first ≢ refused.Memory → (refusal ≢ refused.Memory) × (other ≢ refused.Memory) × (cause first ≡ first_refusal (cause refusal) (cause other))
