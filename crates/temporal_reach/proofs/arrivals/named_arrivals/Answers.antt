use Rattle.std.proofs.Common.{◌≡◌, ◌+◌, ◌<◌, ◌++◌, ◌∷◌, [], List, ℕ, true, false, Some, None, Option, cond, get_or, length, map, take, refl, sym, ◌∙◌, ap, subst, arith}
use Rattle.std.specs.Prelude.{is_some, slice_get}
use Rattle.std.specs.List.{All, filter}
use Rattle.std.proofs.lemmas.List.{append-nil, map-append}
use Rattle.std.proofs.lemmas.List.Elements.{All-push, filter_more}
use Rattle.std.proofs.lemmas.Option.{get_or_from_slice_get}
use Rattle.graph_store.specs.Contents.{Contents, name_at}
use Rattle.temporal_reach.specs.declared.arrivals.NamedArrival.{NamedArrival}
use Rattle.temporal_reach.specs.declared.reach_table.Reached.{Reached}
use Rattle.temporal_reach.specs.Arrivals.{IsNamedArrival, is_answered}
use Rattle.temporal_reach.specs.Reaching.{reached_at, nodes_in}
use Rattle.temporal_reach.proofs.TablePlaces.{listed_reached}
use Rattle.temporal_reach.proofs.arrivals.named_arrivals.Goals.{in-Some+in_ok-push, in_default}
use Rattle.temporal_reach.proofs.arrivals.named_arrivals.Goals as goal

none_some : {X : Type 0} (o : Option X) → ((x : X) → o ≡ Some x → ⊥) → is_some o ≡ false
none_some None h = refl
none_some (Some x) h = absurd (h x refl)

-- the node in a place is one of the store's
placed_within : (contents : Contents) (table : List (ℕ × Reached)) (i n : ℕ) → ((k : ℕ) (r : Reached) → reached_at table k ≡ Some r → k < length contents.nodes) → i < length (nodes_in table) → slice_get (nodes_in table) i ≡ Some n → n < length contents.nodes
placed_within contents table i n within below is = let found = listed_reached table n (i, below, get_or_from_slice_get (nodes_in table) i n n is) in within n found.0 found.1

pub answer_of-requires : goal.answer_of-requires
answer_of-requires g c =
    let below : c.loop-i.i < length (nodes_in c.args.table.now) = (let lt = c.loop-i-test.true in let long = c.len-i-end.ensures.len in omega (arith, lt, long)) in
    placed_within (g.V.View.contents c.args.view.now) c.args.table.now c.loop-i.i c.node-node.result.0 c.requires below c.node-node.ensures

pub loop-i-preserved : goal.loop-i-preserved
loop-i-preserved g c =
    let contents = g.V.View.contents c.args.view.now in
    let world = g.V.View.world c.args.view.now in
    let answered = is_answered contents world c.args.table.now in
    let fits = IsNamedArrival contents world c.args.table.now in
    let nodes = nodes_in c.args.table.now in
    let i = c.loop-i.i in
    let k = c.node-node.result.0 in
    let inv = c.loop-i.invariant in
    let below : i < length nodes = (let lt = c.loop-i-test.true in let long = c.len-i-end.ensures.len in omega (arith, lt, long)) in
    let here : get_or nodes i k ≡ k = get_or_from_slice_get nodes i k k c.node-node.ensures in
    let more : filter answered (take (i + 1) nodes) ≡ filter answered (take i nodes) ++ cond (answered k) (k ∷ []) [] = filter_more answered nodes i k below ∙ ap (λ m. filter answered (take i nodes) ++ cond (answered m) (m ∷ []) []) here in
    let within : k < length contents.nodes = placed_within contents c.args.table.now i k c.requires below c.node-node.ensures in
    elim c.match-answer_of.branch [
      | in-Some+in_ok-push w ↦
          let x : NamedArrival = record { name = w.as_str-name.result; arrival = record { node = c.node-node.result; reached = w.in-Some.reached } } in
          let items = ap (λ v. v.items) w.named-is ∙ w.in_ok-push.ensures.items in
          let passes : answered k ≡ true = sym (ap is_some w.in-Some.ensures) in
          let name : name_at contents.nodes k ≡ w.as_str-name.result.now = ap (λ (s : Contents). name_at s.nodes k) (sym c.store-store.ensures) ∙ (get_or_from_slice_get _ k w.node_name.result.now [] w.node_name.ensures ∙ sym w.as_str-name.ensures.bytes) in
          record {
            nodes =
                ap (map (λ (y : NamedArrival). y.arrival.node.0)) items
                ∙ (map-append (λ (y : NamedArrival). y.arrival.node.0) c.loop-i.named.items (x ∷ [])
                ∙ ((λ j. inv.nodes j ++ cond (sym passes j) (k ∷ []) []) ∙ sym more));
            names = subst (All fits) (sym items) (All-push fits c.loop-i.named.items x inv.names (record { within = within; name = name; answer = sym w.in-Some.ensures }));
          }
      | in_default w ↦
          let items = ap (λ v. v.items) w.named-is in
          let fails : answered k ≡ false = sym (ap is_some c.answer_of.ensures) ∙ none_some c.answer_of.result w.in_default.not-Some in
          record {
            nodes =
                ap (map (λ (y : NamedArrival). y.arrival.node.0)) items
                ∙ (inv.nodes
                ∙ (sym (append-nil (filter answered (take i nodes)))
                ∙ ((λ j. filter answered (take i nodes) ++ cond (sym fails j) (k ∷ []) []) ∙ sym more)));
            names = subst (All fits) (sym items) inv.names;
          }
    ]
