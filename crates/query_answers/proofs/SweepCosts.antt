-- What the windows of a query cost.
use Rattle.std.proofs.Common.{◌≡◌, ◌∙◌, ◌≤◌, ◌+◌, ◌*◌, ℕ, true, List, ◌∷◌, map, length, refl, sym, ap, subst, arith}
use Rattle.std.specs.Prelude.{IsTrue}
use Rattle.std.proofs.lemmas.List.Sums.{sum_by-cons}
use Rattle.graph_model.specs.declared.events.Model.{Model}
use Rattle.graph_model.specs.declared.events.Model.TheVariants.{Event as Instants, Persistent}
use Rattle.graph_model.specs.declared.queries.Ask.{Ask}
use Rattle.graph_model.specs.declared.queries.Ask.TheVariants.{Nodes, Edges, Events, Degree}
use Rattle.graph_model.specs.declared.queries.Query.{Query}
use Rattle.graph_model.specs.Searches.{Searches, ViewKind, digits, fused_searches, kind_of_view, searches_with}
use Rattle.graph_model.specs.Searches.ViewKind.{IsWindow}
use Rattle.graph_model.specs.Stack.{apply}
use Rattle.graph_model.specs.Window.{window}
use Rattle.graph_model.specs.Windows.{windows}
use Rattle.graph_model.specs.World.{World}
use Rattle.graph_store.specs.Contents.{Contents, base_of}
use Rattle.view_trait.specs.declared.ready_ops.ReadyOp.{ReadyOp}
use Rattle.view_trait.specs.declared.rosters.Roster.{Roster}
use Rattle.view_trait.specs.Coverage.{edge_count_on, node_count_on}
use Rattle.view_trait.specs.Meaning.{IsShown}
use Rattle.view_trait.specs.Ready.{ready_apply, ready_kind}
use Rattle.stack_view.specs.Shown.{IsShown-after}
use Rattle.stack_view.proofs.Counts.{length_shown}
use Rattle.window_ends.specs.declared.ends.Ends.{Ends}
use Rattle.window_ends.specs.Ends.{windows_at}
use Rattle.query_answers.specs.Asks.{IsPaid, is_swept}
use Rattle.query_answers.specs.Cost.{event_steps, held_in, is_counted_in_windows, is_counted_each, query_windows_steps, size_of, sweep_steps, windows_steps}
use Rattle.query_answers.specs.Refusing.{asked_worlds}

pub swept-model : (model : Model) (ask : Ask) → is_counted_in_windows model ask ≡ true → model ≡ Instants
swept-model Instants ask h = refl
swept-model Persistent ask h = cc

pub swept-listing : (model : Model) (ask : Ask) → is_counted_in_windows model ask ≡ true → is_swept ask ≡ true
swept-listing model Nodes h = refl
swept-listing model Edges h = refl
swept-listing model Events h = refl
swept-listing model Degree h = refl
swept-listing Instants _ h = cc
swept-listing Persistent _ h = cc

-- ---- one window

le-times : (a b k : ℕ) → a ≤ b → a * k ≤ b * k
le-times a b k h = grind arith

-- the searches for what is on a roster are no more than those for as many events
on-roster : (n e a b h : ℕ) → n + e ≤ h → n * (a + 2) + e * (b + 2) ≤ h * (a + b + 2)
on-roster n e a b h few =
    let all = le-times (n + e) h (a + b + 2) few in
    let split : (n + e) * (a + b + 2) ≡ (n * (a + 2) + e * (b + 2)) + (n * b + e * a) = grind arith in
    omega (arith, all, split)

edges-only : (n e a b h : ℕ) → n + e ≤ h → e * (b + 2) ≤ h * (a + b + 2)
edges-only n e a b h few = let all = on-roster n e a b h few in omega (arith, all)

within : (old new x y d : ℕ) → x ≤ y → new ≤ old + x * d → new ≤ old + y * (d + 1)
within old new x y d h cost =
    let more = le-times x y d h in
    let split : y * (d + 1) ≡ y * d + y = grind arith in
    omega (arith, more, split, cost)

within-read : (old new x y z d : ℕ) → x ≤ y → z ≤ y → new ≤ old + x * d + z → new ≤ old + y * (d + 1)
within-read old new x y z d h k cost =
    let more = le-times x y d h in
    let split : y * (d + 1) ≡ y * d + y = grind arith in
    omega (arith, more, split, cost, k)

twice : (m h k : ℕ) → m ≤ h → 2 * m ≤ h * (k + 2)
twice m h k few =
    let split : h * (k + 2) ≡ h * k + 2 * h = grind arith in
    omega (arith, split, few)

regroup : (h k d : ℕ) → (h * k) * (d + 1) ≡ h * (k * (d + 1))
regroup h k d = grind arith

-- the readings of a window at the most, by the roster of what it holds
pub part-swept : (c : Contents) (r : Roster) (w : World) (s : Searches) (ask : Ask) (h old new : ℕ) → IsPaid c r w (searches_with s IsWindow) ask old new → IsTrue (is_counted_in_windows w.model ask)
    → node_count_on c r + edge_count_on c r ≤ h → new ≤ old + h * event_steps s (length c.accepted)
part-swept c r w s Nodes h old new paid swept few =
    let d = digits (length c.accepted) in
    subst (λ n. new ≤ old + n) (regroup h (s.nodes + s.edges + 2) d)
    (within old new _ _ d (on-roster (node_count_on c r) (edge_count_on c r) s.nodes s.edges h few) (paid (swept-model w.model Nodes swept)))
part-swept c r w s Degree h old new paid swept few =
    let d = digits (length c.accepted) in
    subst (λ n. new ≤ old + n) (regroup h (s.nodes + s.edges + 2) d)
    (within old new _ _ d (on-roster (node_count_on c r) (edge_count_on c r) s.nodes s.edges h few) (paid (swept-model w.model Degree swept)))
part-swept c r w s Edges h old new paid swept few =
    let d = digits (length c.accepted) in
    subst (λ n. new ≤ old + n) (regroup h (s.nodes + s.edges + 2) d)
    (within old new _ _ d (edges-only (node_count_on c r) (edge_count_on c r) s.nodes s.edges h few) (paid (swept-model w.model Edges swept)))
part-swept c r w s Events h old new paid swept few =
    let d = digits (length c.accepted) in
    subst (λ n. new ≤ old + n) (regroup h (s.nodes + s.edges + 2) d)
    (within-read old new _ _ _ d (on-roster (node_count_on c r) (edge_count_on c r) s.nodes s.edges h few) (twice (node_count_on c r + edge_count_on c r) h (s.nodes + s.edges) few) paid)
part-swept c r w s ask h old new paid swept few =
    absurd (let no : is_counted_in_windows Instants ask ≡ true = subst (λ m. is_counted_in_windows m ask ≡ true) (swept-model w.model ask swept) swept in
    let none : ⊥ = cc in none)

-- ---- one window after another

-- what the windows that are left may cost, after what those before have cost
pub swept-more : (w seen : World) (left more : List Ends) (ends : Ends) (cost before after most : ℕ) → left ≡ ends ∷ more → seen ≡ window w ends.from ends.to
    → after ≤ before + length seen.events * cost → before + held_in (windows_at w left) * cost ≤ most → after + held_in (windows_at w more) * cost ≤ most
swept-more w seen left more ends cost before after most is shown paid rest =
    let held : held_in (windows_at w left) ≡ length seen.events + held_in (windows_at w more) =
    ap (λ l. held_in (windows_at w l)) is ∙ (sum_by-cons (λ (v : World). length v.events) (window w ends.from ends.to) (windows_at w more) ∙ ap (λ (v : World). length v.events + held_in (windows_at w more)) (sym shown)) in
    let split : (length seen.events + held_in (windows_at w more)) * cost ≡ length seen.events * cost + held_in (windows_at w more) * cost = grind arith in
    let all = ap (λ n. n * cost) held in
    omega (arith, paid, rest, split, all)

-- ---- a query

windows-priced : (n e a b d seen events held k : ℕ) → seen ≤ events → (n * a + e * b) * d + seen + held * ((a + b + 2) * (d + 1)) ≤ (n * a + e * b + (a + b + 2) * (events + held + k)) * (d + 1)
windows-priced n e a b d seen events held k few =
    let s = n * a + e * b in
    let c = a + b + 1 in
    let split : (s + (c + 1) * (events + held + k)) * (d + 1) ≡ (s * d + events + held * ((c + 1) * (d + 1))) + (s + c * events * (d + 1) + events * d + (c + 1) * k * (d + 1)) = grind arith in
    omega (arith, few, split)

more-steps : (old new x y : ℕ) → new ≤ old + x → x ≤ y → new ≤ old + y
more-steps old new x y h k = omega (arith, h, k)

-- where windows of what views show of a store were answered, these are the windows of the query
pub query-windows-priced : (c : Contents) (ops : List ReadyOp) (query : Query) (old new : ℕ) → map ready_kind ops ≡ map kind_of_view query.views → IsShown c (base_of c)
    → ready_apply c ops (base_of c) ≡ apply query.views (base_of c)
    → (IsTrue (is_counted_each (ready_apply c ops (base_of c)).model query) → new ≤ old + sweep_steps c (ready_apply c ops (base_of c)) (fused_searches (map ready_kind ops)) (windows (ready_apply c ops (base_of c)) query.each))
    → IsTrue (is_counted_each c.model query) → new ≤ old + query_windows_steps (size_of c) query (asked_worlds (base_of c) query)
query-windows-priced c ops query old new kinds drawn base cost swept =
    let w = ready_apply c ops (base_of c) in
    let s = fused_searches (map ready_kind ops) in
    let worlds = windows w query.each in
    let shown : IsShown c w = IsShown-after c ops (base_of c) drawn in
    let paid = cost (subst (λ m. IsTrue (is_counted_each m query)) (sym shown.model) swept) in
    let priced : sweep_steps c w s worlds ≤ windows_steps s (size_of c) worlds =
    windows-priced (length c.nodes) (length c.edges) s.nodes s.edges (digits (length c.accepted)) (length w.events) (length c.accepted) (held_in worlds) (length worlds) (length_shown c ops) in
    subst (λ (v : World). new ≤ old + query_windows_steps (size_of c) query (windows v query.each)) base
    (subst (λ (ks : List ViewKind). new ≤ old + windows_steps (fused_searches ks) (size_of c) worlds) kinds
    (more-steps old new (sweep_steps c w s worlds) (windows_steps s (size_of c) worlds) paid priced))

pub seen-windows : (c shown : Contents) (ops given : List ReadyOp) (query : Query) (old new : ℕ) → shown ≡ c → given ≡ ops → map ready_kind ops ≡ map kind_of_view query.views → IsShown shown (base_of shown)
    → ready_apply c ops (base_of c) ≡ apply query.views (base_of c)
    → (IsTrue (is_counted_each (ready_apply shown given (base_of shown)).model query) → new ≤ old + sweep_steps shown (ready_apply shown given (base_of shown)) (fused_searches (map ready_kind given)) (windows (ready_apply shown given (base_of shown)) query.each))
    → IsTrue (is_counted_each c.model query) → new ≤ old + query_windows_steps (size_of c) query (asked_worlds (base_of c) query)
seen-windows c shown ops given query old new same listed kinds drawn base cost =
    query-windows-priced c ops query old new kinds (subst (λ (x : Contents). IsShown x (base_of x)) same drawn) base
    (subst (λ (v : Contents × List ReadyOp). IsTrue (is_counted_each (ready_apply v.0 v.1 (base_of v.0)).model query) → new ≤ old + sweep_steps v.0 (ready_apply v.0 v.1 (base_of v.0)) (fused_searches (map ready_kind v.1)) (windows (ready_apply v.0 v.1 (base_of v.0)) query.each))
    (λ k. (same k, listed k)) cost)
