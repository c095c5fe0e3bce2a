-- The rows of the accepted events mirror the store.
use Rattle.std.proofs.Common.{◌≡◌, ℕ, ℤ, ◌<◌, ◌≤◌, List, [], ◌∷◌, Bool, true, false, cond, length, map, refl, sym, ap, ◌∙◌, arith, subst, inl, inr}
use Rattle.std.specs.Prelude.{nat_lt, ◌==◌}
use Rattle.std.specs.List.{AllByRecursion, filter}
use Rattle.std.proofs.lemmas.Bool.{true≢false, eqb-true, eq-eqb, lt-ltb, false_from_ne_true}
use Rattle.graph_model.specs.declared.events.Entity.{Entity}
use Rattle.graph_model.specs.declared.events.Entity.TheVariants.{Node, Edge}
use Rattle.graph_model.specs.declared.events.Event.{Event}
use Rattle.graph_model.specs.Entity.{entity_of, same_entity, is_about, about}
use Rattle.world_laws.proofs.Members.{both_true}
use Rattle.world_laws.proofs.Order.{same_entity-refl, same_entity-exact}
use Rattle.time_history.proofs.Held.{all_from_each}
use Rattle.graph_store.specs.declared.taking.Filed.{Filed}
use Rattle.graph_store.specs.declared.taking.Filed.TheVariants.{Node as FiledNode, Edge as FiledEdge}
use Rattle.graph_store.specs.Contents.{Contents}
use Rattle.graph_store.specs.EdgeParts.{parts_at}
use Rattle.graph_store.specs.FiledAs.{IsFiledAs}
use Rattle.graph_store.specs.Indexed.{IsIndexed}
use Rattle.view_trait.specs.Meaning.{node_at, edge_at}
use Rattle.view_trait.proofs.OnRoster.{nodes_apart, edges_apart}
use Rattle.lane_scan.specs.declared.hits.Hit.{Hit}
use Rattle.temporal_reach.specs.Mirrors.{IsRowOf, node_rows, edge_rows, times_of, Mirrors}
use Rattle.temporal_reach.proofs.Mirrored.{Mirrors-from_arrival}
use Rattle.file_reading.specs.Rows.{row_of, IsRowFor, AreRowsFor}

-- the times of events, in their order
abbrev times : List Event → List ℤ
times xs = map (λ (x : Event). x.time) xs

-- a row and an event of one time, which are taken or passed over together
time_more : (t u : Bool) (row : Hit) (x : Event) (rows : List Hit) (xs : List Event) → t ≡ u → row.time ≡ x.time → map (λ (r : Hit). r.time) rows ≡ times xs
    → map (λ (r : Hit). r.time) (cond t (row ∷ rows) rows) ≡ times (cond u (x ∷ xs) xs)
time_more true true row x rows xs same time rest = λ i. time i ∷ rest i
time_more false false row x rows xs same time rest = rest
time_more true false row x rows xs same time rest = absurd (true≢false same)
time_more false true row x rows xs same time rest = absurd (true≢false (sym same))

-- where numbers name distinct entities, numbers are equal where the entities are
same_number : (at : ℕ → Entity) (m n : ℕ) (e : Entity) → (at n ≡ at m → n ≡ m) → at m ≡ e → (m == n) ≡ same_entity (at n) e
same_number at m n e apart is =
    both_true (m == n) (same_entity (at n) e)
    (λ h. ap (λ k. same_entity (at k) e) (sym (eqb-true m n h)) ∙ (ap (λ x. same_entity x e) is ∙ same_entity-refl e))
    (λ h. eq-eqb m n (sym (apart (same_entity-exact (at n) e h ∙ sym is))))

module _ (c : Contents) (indexed : IsIndexed c) (few : length c.layers ≤ 64) where
  low : (e : ℕ) → e < length c.edges → (parts_at c.edges e).layer < 64
  low e lt = let within = (indexed.within e lt).2 in omega arith

  no_node_code : (e : ℕ) → e < length c.edges → ((parts_at c.edges e).layer == 64) ≡ false
  no_node_code e lt = let below = low e lt in false_from_ne_true ((parts_at c.edges e).layer == 64) (λ h. let is = eqb-true (parts_at c.edges e).layer 64 h in omega arith)

  is_row : (x : Event) (filed : Filed) → IsFiledAs c x filed → IsRowOf c (row_of c x.time filed)
  is_row x (FiledNode n) h = inl (refl, h.0)
  is_row x (FiledEdge e) h = inr (h.0, refl)

  all_rows : (xs : List Event) (rows : List Hit) → AreRowsFor c xs rows → AllByRecursion (IsRowOf c) rows
  all_rows [] [] h = tt
  all_rows [] (row ∷ rows) h = absurd h
  all_rows (x ∷ xs) [] h = absurd h
  all_rows (x ∷ xs) (row ∷ rows) h = (subst (IsRowOf c) (sym h.0.2) (is_row x h.0.0 h.0.1), all_rows xs rows h.1)

  -- the rows of a node have the times of its events
  node_times : (n : ℕ) → n < length c.nodes → (xs : List Event) (rows : List Hit) → AreRowsFor c xs rows → times_of (node_rows rows) n ≡ times (about (node_at c n) xs)
  node_times n lt [] [] h = refl
  node_times n lt [] (row ∷ rows) h = absurd h
  node_times n lt (x ∷ xs) [] h = absurd h
  node_times n lt (x ∷ xs) (row ∷ rows) h = ap (λ r. times_of (node_rows (r ∷ rows)) n) h.0.2 ∙ go h.0.0 h.0.1 (node_times n lt xs rows h.1)
    where
      go : (filed : Filed) → IsFiledAs c x filed → times_of (node_rows rows) n ≡ times (about (node_at c n) xs) → times_of (node_rows (row_of c x.time filed ∷ rows)) n ≡ times (about (node_at c n) (x ∷ xs))
      go (FiledNode m) own rest =
          time_more (m.0 == n) (is_about (node_at c n) x) (row_of c x.time (FiledNode m)) x (filter (λ r. r.number == n) (node_rows rows)) (about (node_at c n) xs)
          (same_number (node_at c) m.0 n (entity_of x) (nodes_apart c indexed n m.0 lt own.0) own.1) refl rest
      go (FiledEdge e) own rest =
          ap (λ t. times_of (cond t (row_of c x.time (FiledEdge e) ∷ node_rows rows) (node_rows rows)) n) (no_node_code e.0 own.0)
          ∙ (rest ∙ ap (λ t. times (cond t (x ∷ about (node_at c n) xs) (about (node_at c n) xs))) (ap (same_entity (node_at c n)) own.1))

  -- and those of an edge
  edge_times : (n : ℕ) → n < length c.edges → (xs : List Event) (rows : List Hit) → AreRowsFor c xs rows → times_of (edge_rows rows) n ≡ times (about (edge_at c n) xs)
  edge_times n lt [] [] h = refl
  edge_times n lt [] (row ∷ rows) h = absurd h
  edge_times n lt (x ∷ xs) [] h = absurd h
  edge_times n lt (x ∷ xs) (row ∷ rows) h = ap (λ r. times_of (edge_rows (r ∷ rows)) n) h.0.2 ∙ go h.0.0 h.0.1 (edge_times n lt xs rows h.1)
    where
      go : (filed : Filed) → IsFiledAs c x filed → times_of (edge_rows rows) n ≡ times (about (edge_at c n) xs) → times_of (edge_rows (row_of c x.time filed ∷ rows)) n ≡ times (about (edge_at c n) (x ∷ xs))
      go (FiledNode m) own rest = rest ∙ ap (λ t. times (cond t (x ∷ about (edge_at c n) xs) (about (edge_at c n) xs))) (ap (same_entity (edge_at c n)) own.1)
      go (FiledEdge e) own rest =
          ap (λ t. times_of (cond t (row_of c x.time (FiledEdge e) ∷ edge_rows rows) (edge_rows rows)) n) (lt-ltb (parts_at c.edges e.0).layer 64 (low e.0 own.0))
          ∙ time_more (e.0 == n) (is_about (edge_at c n) x) (row_of c x.time (FiledEdge e)) x (filter (λ r. r.number == n) (edge_rows rows)) (about (edge_at c n) xs)
          (same_number (edge_at c) e.0 n (entity_of x) (edges_apart c indexed n e.0 lt own.0) own.1) refl rest

  pub mirrored : (rows : List Hit) → AreRowsFor c c.accepted rows → Mirrors rows c
  mirrored rows h =
      Mirrors-from_arrival rows c (all_from_each (IsRowOf c) rows (all_rows c.accepted rows h))
      (λ n lt. node_times n lt c.accepted rows h)
      (λ e lt. edge_times e lt c.accepted rows h)
