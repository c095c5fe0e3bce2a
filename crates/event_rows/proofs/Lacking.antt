-- Memory may be wanting where nothing is wrong but, maybe, properties.
use Rattle.std.proofs.Common.{ℕ, ℤ, List, Option, Some, None, refl}
use Rattle.std.specs.Prelude.{◌≡◌, Result, Ok, Err}
use Rattle.graph_model.specs.declared.properties.Value.{Value}
use Rattle.graph_model.specs.declared.events.What.{What}
use Rattle.graph_model.specs.Refusal as why
use Rattle.graph_model.specs.Refusal.{RecordRefusal}
use Rattle.graph_model.specs.Said.{event_at, with_props}
use Rattle.event_rows.specs.declared.parsed.RowRefusal.{RowRefusal}
use Rattle.event_rows.specs.declared.parsed.RowRefusal.TheVariants as refused
use Rattle.event_rows.specs.Parsing.{IsRefused, MayLack, Refuses}

pub props_lack : (what : List (List ℕ × Value) → What) (props : Option (List (List ℕ × Value))) → MayLack (with_props what props)
props_lack what None = tt
props_lack what (Some props) = tt

pub is_refuses : {A : Type 0} (e : RowRefusal) (said : Result A RecordRefusal) → IsRefused e said → Refuses e said
is_refuses refused.Memory said is = absurd is
is_refuses refused.Shape said is = is
is_refuses refused.Text said is = is
is_refuses refused.Time said is = is
is_refuses refused.Outside said is = is
is_refuses refused.Name said is = is
is_refuses refused.Property said is = is

-- what refuses a moment refuses its event
pub event_refused : (e : RowRefusal) (at : Result (ℤ × ℕ) RecordRefusal) (what : Result What RecordRefusal) → IsRefused e at → Refuses e (event_at at what)
event_refused refused.Memory at what is = absurd is
event_refused refused.Shape at what is = rw is refl
event_refused refused.Text at what is = rw is refl
event_refused refused.Time at what is = rw is refl
event_refused refused.Outside at what is = rw is refl
event_refused refused.Name at what is = rw is refl
event_refused refused.Property at what is = rw is refl

-- what refuses what happens refuses its event, where there is a moment
pub what_refused : (e : RowRefusal) (at : Result (ℤ × ℕ) RecordRefusal) (t : ℤ × ℕ) (what : Result What RecordRefusal) → at ≡ Ok t → Refuses e what → Refuses e (event_at at what)
what_refused refused.Memory at t what ok is = rw ok (lacking what is)
  where
    lacking : (what : Result What RecordRefusal) → MayLack what → MayLack (event_at (Ok t) what)
    lacking (Ok w) is = tt
    lacking (Err why.Property) is = tt
    lacking (Err why.Shape) is = is
    lacking (Err why.Text) is = is
    lacking (Err why.Time) is = is
    lacking (Err why.Outside) is = is
    lacking (Err why.Name) is = is
    lacking (Err why.Deletion) is = is
    lacking (Err why.KeyType) is = is
    lacking (Err why.Retype) is = is
    lacking (Err why.Limit) is = is
what_refused refused.Shape at t what ok is = rw (ok, is) refl
what_refused refused.Text at t what ok is = rw (ok, is) refl
what_refused refused.Time at t what ok is = rw (ok, is) refl
what_refused refused.Outside at t what ok is = rw (ok, is) refl
what_refused refused.Name at t what ok is = rw (ok, is) refl
what_refused refused.Property at t what ok is = rw (ok, is) refl
