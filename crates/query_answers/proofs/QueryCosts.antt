-- What the answer to a query costs.
use Rattle.std.proofs.Common.{◌≡◌, ◌∙◌, ◌≤◌, ◌+◌, ◌*◌, ℕ, true, List, Option, None, Some, map, length, refl, sym, ap, subst, arith}
use Rattle.std.specs.Prelude.{IsTrue, is_none, if◌then◌else◌}
use Rattle.std.proofs.lemmas.Bool.{and_parts}
use Rattle.graph_model.specs.declared.events.Entity.TheVariants.{Node, Edge}
use Rattle.graph_model.specs.declared.events.Model.{Model}
use Rattle.graph_model.specs.declared.events.Model.TheVariants.{Event as Instants, Persistent}
use Rattle.graph_model.specs.declared.queries.Ask.{Ask}
use Rattle.graph_model.specs.declared.queries.Ask.TheVariants.{Nodes, Edges, Degree, NodeValue, EdgeValue, EdgeAlive}
use Rattle.graph_model.specs.declared.queries.Each.{Each}
use Rattle.graph_model.specs.declared.queries.Query.{Query}
use Rattle.graph_model.specs.Searches.{Searches, ViewKind, digits, fused_searches, kind_of_view}
use Rattle.graph_model.specs.World.{World}
use Rattle.graph_store.specs.Contents.{Contents, base_of}
use Rattle.view_trait.specs.declared.ready_ops.ReadyOp.{ReadyOp}
use Rattle.view_trait.specs.declared.rosters.Roster.TheVariants.{All as Whole}
use Rattle.view_trait.specs.Meaning.{IsShown, knows}
use Rattle.view_trait.specs.Ready.{ready_apply, ready_kind}
use Rattle.stack_view.specs.Shown.{IsShown-after}
use Rattle.query_answers.specs.Asks.{IsPaid}
use Rattle.query_answers.specs.Cost.{ask_steps, is_counted_ask, is_counted_query, query_steps, size_of}

-- ---- what it costs

point-steps : (old new searches d : ℕ) → new ≤ old + searches * d → new ≤ old + (0 + searches) * (d + 1)
point-steps old new searches d cost = grind (arith, cost)

point-readings : (old new searches d : ℕ) → new ≤ old + searches * (d + 1) → new ≤ old + (0 + searches) * (d + 1)
point-readings old new searches d cost =
    let same : 0 + searches ≡ searches = omega arith in
    rw same cost

list-steps : (old new searches d : ℕ) → new ≤ old + searches * d → new ≤ old + (searches + 0) * (d + 1)
list-steps old new searches d cost = grind (arith, cost)

-- questions about all nodes or edges are counted in the event model alone
instants-degree : (model : Model) → is_counted_ask model Degree ≡ true → model ≡ Instants
instants-degree Instants h = refl
instants-degree Persistent h = cc

instants-nodes : (model : Model) → is_counted_ask model Nodes ≡ true → model ≡ Instants
instants-nodes Instants h = refl
instants-nodes Persistent h = cc

instants-edges : (model : Model) → is_counted_ask model Edges ≡ true → model ≡ Instants
instants-edges Instants h = refl
instants-edges Persistent h = cc

each-none : (each : Option Each) → is_none each ≡ true → each ≡ None
each-none None h = refl
each-none (Some each) h = cc

-- the readings of a question are those of its searches
paid-steps : (c : Contents) (w : World) (s : Searches) (ask : Ask) (old new : ℕ) → IsPaid c Whole w s ask old new → IsTrue (is_counted_ask w.model ask) → new ≤ old + ask_steps s (size_of c) ask
paid-steps c w s (NodeValue node key) old new paid counted = point-steps old new (if knows c (Node node) then s.nodes else 0) (digits (length c.accepted)) paid
paid-steps c w s (EdgeValue edge key) old new paid counted = point-steps old new (if knows c (Edge edge) then s.edges else 0) (digits (length c.accepted)) paid
paid-steps c w s (EdgeAlive edge m) old new paid counted = point-readings old new (if knows c (Edge edge) then s.edges + 1 else 0) (digits (length c.accepted)) paid
paid-steps c w s Nodes old new paid counted = list-steps old new (length c.nodes * s.nodes + length c.edges * s.edges) (digits (length c.accepted)) (paid (instants-nodes w.model counted))
paid-steps c w s Degree old new paid counted = list-steps old new (length c.nodes * s.nodes + length c.edges * s.edges) (digits (length c.accepted)) (paid (instants-degree w.model counted))
paid-steps c w s Edges old new paid counted = list-steps old new (length c.edges * s.edges) (digits (length c.accepted)) (paid (instants-edges w.model counted))
paid-steps c w s _ old new paid counted = cc

-- and those of a query are those of its question, about the world of its views
pub seen-steps : (c shown : Contents) (ops given : List ReadyOp) (query : Query) (old new : ℕ) → shown ≡ c → given ≡ ops → map ready_kind ops ≡ map kind_of_view query.views → IsShown shown (base_of shown)
    → (query.each ≡ None → IsPaid shown Whole (ready_apply shown given (base_of shown)) (fused_searches (map ready_kind given)) query.ask old new)
    → IsTrue (is_counted_query c.model query) → new ≤ old + query_steps (size_of c) query
seen-steps c shown ops given query old new same listed kinds drawn paid counted =
    let asked = and_parts (is_counted_ask c.model query.ask) (is_none query.each) counted in
    let w = ready_apply shown given (base_of shown) in
    let after : IsShown shown w = IsShown-after shown given (base_of shown) drawn in
    let model : w.model ≡ c.model = after.model ∙ ap (λ (x : Contents). x.model) same in
    let kinds_are : map ready_kind given ≡ map kind_of_view query.views = ap (map ready_kind) listed ∙ kinds in
    let cost = paid-steps shown w (fused_searches (map ready_kind given)) query.ask old new (paid (each-none query.each asked.1)) (subst (λ m. IsTrue (is_counted_ask m query.ask)) (sym model) asked.0) in
    let priced : new ≤ old + ask_steps (fused_searches (map kind_of_view query.views)) (size_of shown) query.ask = subst (λ (ks : List ViewKind). new ≤ old + ask_steps (fused_searches ks) (size_of shown) query.ask) kinds_are cost in
    subst (λ (x : Contents). new ≤ old + ask_steps (fused_searches (map kind_of_view query.views)) (size_of x) query.ask) same priced
