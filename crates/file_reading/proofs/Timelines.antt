-- Timelines that are kept beside a store.
use Rattle.std.proofs.Common.{◌≡◌, ℕ, ◌<◌, List, [], ◌∷◌, ◌++◌, length, refl, sym, ap, ◌∙◌, subst}
use Rattle.std.specs.Prelude.{Result, Ok, Err, OnOk}
use Rattle.graph_model.specs.declared.events.Event.{Event}
use Rattle.graph_model.specs.declared.events.Entity.TheVariants.{Node, Edge}
use Rattle.graph_model.specs.declared.events.Model.{Model}
use Rattle.graph_model.specs.declared.events.Model.TheVariants.{Event as Instants, Persistent}
use Rattle.graph_store.specs.declared.edges.EdgeParts.{EdgeParts}
use Rattle.graph_store.specs.declared.taking.Filed.{Filed}
use Rattle.graph_store.specs.declared.taking.Filed.TheVariants.{Node as FiledNode, Edge as FiledEdge}
use Rattle.graph_store.specs.Contents.{Contents, name_at, edge_name}
use Rattle.graph_store.specs.EdgeParts.{parts_at}
use Rattle.graph_store.specs.FiledAs.{IsFiledAs}
use Rattle.graph_store.specs.Indexed.{IsIndexed}
use Rattle.graph_store.specs.KeepsNumbers.{KeepsNumbers}
use Rattle.graph_store.specs.WithEvent.{with_event}
use Rattle.graph_store.specs.WithType.{with_type}
use Rattle.graph_store.proofs.NumbersStay.{numbers_stay, numbers_stay-type}
use Rattle.lane_scan.specs.declared.hits.Hit.{Hit}
use Rattle.file_reading.specs.Rows.{IsGiven, row_of, with_row, IsRowFor, AreRowsFor, HasRows, IsTimeline}
use Rattle.file_reading.specs.StoreReading.{IsFresh}

-- the number of an event's entity is given
pub given : (c : Contents) (x : Event) (filed : Filed) → IsFiledAs c x filed → IsGiven c filed
given c x (FiledNode n) h = h.0
given c x (FiledEdge e) h = h.0

module _ (c after : Contents) (indexed : IsIndexed c) (stay : KeepsNumbers c after) where
  -- an edge keeps its name
  named : (e : ℕ) → e < length c.edges → edge_name after.nodes after.layers (parts_at after.edges e) ≡ edge_name c.nodes c.layers (parts_at c.edges e)
  named e lt =
      let within = indexed.within e lt in
      let parts = (stay.edges e lt).1 in
      let src = (stay.nodes (parts_at c.edges e).src within.0).1 in
      let dst = (stay.nodes (parts_at c.edges e).dst within.1).1 in
      let layer = (stay.layers (parts_at c.edges e).layer within.2).1 in
      ap (edge_name after.nodes after.layers) parts ∙ (λ k. record { src = src k; dst = dst k; layer = layer k })

  -- an event keeps its number
  filed_stays : (x : Event) (filed : Filed) → IsFiledAs c x filed → IsFiledAs after x filed
  filed_stays x (FiledNode n) h = let kept = stay.nodes n.0 h.0 in (kept.0, ap Node kept.1 ∙ h.1)
  filed_stays x (FiledEdge e) h = ((stay.edges e.0 h.0).0, ap Edge (named e.0 h.0) ∙ h.1)

  -- and its row
  row_stays : (x : Event) (filed : Filed) → IsFiledAs c x filed → row_of c x.time filed ≡ row_of after x.time filed
  row_stays x (FiledNode n) h = refl
  row_stays x (FiledEdge e) h = let layer = ap (λ (p : EdgeParts). p.layer) (sym (stay.edges e.0 h.0).1) in λ k. record { time = x.time; code = layer k; number = e.0 }

  rows_stay : (xs : List Event) (rows : List Hit) → AreRowsFor c xs rows → AreRowsFor after xs rows
  rows_stay [] [] h = tt
  rows_stay [] (row ∷ rows) h = absurd h
  rows_stay (x ∷ xs) [] h = absurd h
  rows_stay (x ∷ xs) (row ∷ rows) h =
      let first = h.0 in
      ((first.0, filed_stays x first.0 first.1, first.2 ∙ row_stays x first.0 first.1), rows_stay xs rows h.1)

-- a row more, of an event more
rows_pushed : (c : Contents) (xs : List Event) (rows : List Hit) (x : Event) (row : Hit) → AreRowsFor c xs rows → IsRowFor c x row → AreRowsFor c (xs ++ x ∷ []) (rows ++ row ∷ [])
rows_pushed c [] [] x row h is = (is, tt)
rows_pushed c [] (r ∷ rows) x row h is = absurd h
rows_pushed c (y ∷ xs) [] x row h is = absurd h
rows_pushed c (y ∷ xs) (r ∷ rows) x row h is = (h.0, rows_pushed c xs rows x row h.1 is)

-- a store that accepts an event takes its row
pub event_added : (c after : Contents) (rows : List Hit) (x : Event) (filed : Filed) → IsIndexed c → after ≡ with_event c x → after.accepted ≡ c.accepted ++ x ∷ [] → after.model ≡ c.model → IsFiledAs after x filed → IsTimeline c rows
    → IsTimeline after (with_row after.model rows (row_of after x.time filed))
event_added c after rows x filed indexed is accepted model own h = subst (λ m. HasRows m after (with_row m rows (row_of after x.time filed))) (sym model) (go c.model h)
  where
    go : (m : Model) → HasRows m c rows → HasRows m after (with_row m rows (row_of after x.time filed))
    go Persistent h = h
    go Instants h =
        subst (λ xs. AreRowsFor after xs (rows ++ row_of after x.time filed ∷ [])) (sym accepted)
        (rows_pushed after c.accepted rows x (row_of after x.time filed) (rows_stay c after indexed (subst (KeepsNumbers c) (sym is) (numbers_stay c x)) c.accepted rows h) (filed, own, refl))

-- and one that accepts a type takes none
pub type_added : (c after : Contents) (rows : List Hit) (node kind : List ℕ) → IsIndexed c → after ≡ with_type c node kind → after.accepted ≡ c.accepted → after.model ≡ c.model → IsTimeline c rows → IsTimeline after rows
type_added c after rows node kind indexed is accepted model h = subst (λ m. HasRows m after rows) (sym model) (go c.model h)
  where
    go : (m : Model) → HasRows m c rows → HasRows m after rows
    go Persistent h = h
    go Instants h = subst (λ xs. AreRowsFor after xs rows) (sym accepted) (rows_stay c after indexed (subst (KeepsNumbers c) (sym is) (numbers_stay-type c node kind)) c.accepted rows h)

-- before the first event there is no row
pub fresh_rows : (c : Contents) (rows : List Hit) → c.accepted ≡ [] → IsTimeline c rows → rows ≡ []
fresh_rows c rows none h = go c.model h
  where
    nothing : (rows : List Hit) → AreRowsFor c [] rows → rows ≡ []
    nothing [] h = refl
    nothing (row ∷ rows) h = absurd h

    go : (m : Model) → HasRows m c rows → rows ≡ []
    go Persistent h = h
    go Instants h = nothing rows (subst (λ xs. AreRowsFor c xs rows) none h)

pub fresh_timeline : (c : Contents) → c.accepted ≡ [] → IsTimeline c []
fresh_timeline c none = go c.model
  where
    go : (m : Model) → HasRows m c []
    go Persistent = refl
    go Instants = subst (λ xs. AreRowsFor c xs []) (sym none) tt

-- what holds of any result
pub on_any : {A E P : Type 0} (r : Result A E) → P → OnOk r P
on_any (Ok x) h = h
on_any (Err e) h = tt
