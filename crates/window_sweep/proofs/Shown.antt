-- What a sweep lists of a window of the world that it is over.
use Rattle.std.proofs.Common.{◌≡◌, ℕ, ℤ, ◌+◌, ◌≤◌, false, ◌&&◌, List, length, sym, ◌∙◌, ap, subst, arith}
use Rattle.std.specs.Prelude.{int_le, int_lt}
use Rattle.std.specs.Ordering.{nat_cmp}
use Rattle.graph_model.specs.declared.events.Model.TheVariants.{Event as Instants}
use Rattle.graph_model.specs.Rising.{rising}
use Rattle.graph_model.specs.Window.{window}
use Rattle.graph_model.specs.World.{World, IsLawful}
use Rattle.graph_store.specs.Contents.{Contents}
use Rattle.view_trait.specs.Meaning.{edge_at, node_at}
use Rattle.view_trait.specs.Numbered.{is_listed}
use Rattle.event_sweep.specs.Held.{additions_last}
use Rattle.event_sweep.specs.Swept.{Swept, events_between, is_shown}
use Rattle.event_sweep.proofs.Told.{events_inside, not_shown}
use Rattle.window_sweep.specs.WindowSwept.{AreOn, IsOver, WindowSwept}
use Rattle.window_sweep.proofs.Listing.{listed_rising, length_rising}

-- what a sweep has listed of a window: the numbers that it shows, and these rising
pub record IsSwept (old new : Swept) (rising_list : List ℕ) (a b : ℤ) : Type 0 where
  pub listed : (n : ℕ) → is_listed new.listed n ≡ is_shown old.carries old.held a b n
  pub few : old.carries ≡ false → length new.listed ≤ length (events_between a b old.held)
  pub list : rising_list ≡ rising nat_cmp new.listed

pub swept_at : (old new : Swept) (list numbers : List ℕ) (s t a b : ℤ) → s ≡ a → t ≡ b
    → ((n : ℕ) → is_listed new.listed n ≡ is_shown old.carries old.held s t n)
    → (old.carries ≡ false → length new.listed ≤ length (events_between s t old.held))
    → list ≡ rising nat_cmp numbers → numbers ≡ new.listed → IsSwept old new list a b
swept_at old new list numbers s t a b e f listed few is same = record {
  listed = λ n. listed n ∙ (λ i. is_shown old.carries old.held (e i) (f i) n);
  few = λ k. subst (λ l. length new.listed ≤ length l) (λ i. events_between (e i) (f i) old.held) (few k);
  list = is ∙ ap (rising nat_cmp) same;
}

module _ (c : Contents) (w : World) (lawful : IsLawful w) (a b : ℤ) (old new : WindowSwept) (over : IsOver c w old) (nodes : IsSwept old.nodes new.nodes new.node_list a b) (edges : IsSwept old.edges new.edges new.edge_list a b) where
  off : (o n : Swept) (list : List ℕ) → IsSwept o n list a b → o.carries ≡ additions_last w.model → (k : ℕ) → is_listed list k ≡ false → is_shown (additions_last w.model) o.held a b k ≡ false
  off o n list h model k missing =
      ap (λ t. is_shown t o.held a b k) (sym model)
      ∙ (sym (h.listed k) ∙ (sym (listed_rising n.listed k) ∙ (ap (λ l. is_listed l k) (sym h.list) ∙ missing)))

  -- what is not listed has no event in the window
  pub all_on : AreOn c (window w a b) new
  all_on = record {
    nodes = λ n below missing. not_shown w lawful a b old.nodes.held n (node_at c n) (over.filled.nodes n below) (off old.nodes new.nodes new.node_list nodes over.node_model n missing);
    edges = λ e below missing. not_shown w lawful a b old.edges.held e (edge_at c e) (over.filled.edges e below) (off old.edges new.edges new.edge_list edges over.edge_model e missing);
  }

  -- in the event model no more are listed than the window has events
  pub few_on : w.model ≡ Instants → length new.node_list + length new.edge_list ≤ length (window w a b).events
  few_on model =
      let n : length new.node_list ≤ length new.nodes.listed = subst (λ l. length l ≤ length new.nodes.listed) (sym nodes.list) (length_rising new.nodes.listed) in
      let e : length new.edge_list ≤ length new.edges.listed = subst (λ l. length l ≤ length new.edges.listed) (sym edges.list) (length_rising new.edges.listed) in
      let k = nodes.few (over.node_model ∙ ap additions_last model) in
      let m = edges.few (over.edge_model ∙ ap additions_last model) in
      let all = over.filled.as_many (λ t. int_le a t && int_lt t b) in
      let inside : length (window w a b).events ≡ _ = ap (λ l. length l) (events_inside w lawful a b model) in
      omega (arith, n, e, k, m, all, inside)
