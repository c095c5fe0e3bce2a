use Rattle.std.proofs.Common.{◌≡◌, ◌<◌, ◌∙◌, [], length, refl, subst, sym, arith}
use Rattle.std.specs.List.{All}
use Rattle.std.proofs.lemmas.List.Elements.{All-push}
use Rattle.std.proofs.lemmas.Option.{get_or_from_slice_get}
use Rattle.graph_store.specs.Contents.{name_at}
use Rattle.walk_algorithms.specs.Visits.{IsNamed}
use Rattle.walk_algorithms.proofs.Visits.{node_below, visits_push}
use Rattle.walk_algorithms.proofs.by_name.named_visits.Goals as goal

pub node_name-requires : goal.node_name-requires
node_name-requires c =
    let visits = c.args.visited.now.visits in
    let lt : c.loop-i.i < length visits = (let test = c.loop-i-test.true in let len = c.len-i-end.ensures.len in omega arith) in
    subst (λ l. c.item-visit.result.node < l) c.requires (node_below c.args.visited.now.limit visits c.loop-i.i c.item-visit.result c.len-i-end.ensures.visits lt c.item-visit.ensures)

pub loop-i-preserved : goal.loop-i-preserved
loop-i-preserved c =
    let s = c.args.store.now in
    let visits = c.args.visited.now.visits in
    let visit = c.item-visit.result in
    let lt : c.loop-i.i < length visits = (let test = c.loop-i-test.true in let len = c.len-i-end.ensures.len in omega arith) in
    let below = subst (λ l. visit.node < l) c.requires (node_below c.args.visited.now.limit visits c.loop-i.i visit c.len-i-end.ensures.visits lt c.item-visit.ensures) in
    let name : name_at s.nodes visit.node ≡ c.as_str-name.result.now = get_or_from_slice_get s.nodes visit.node c.node_name.result.now [] c.node_name.ensures ∙ sym c.as_str-name.ensures.bytes in
    record {
      visits = visits_push c.loop-i.named.items c.push.new.self.items (record { name = c.as_str-name.result; visit = visit }) visits c.loop-i.i visit c.in_ok-push.ensures.items refl c.item-visit.ensures lt c.loop-i.invariant.visits;
      names =
          subst (All (IsNamed s)) (sym c.in_ok-push.ensures.items)
          (All-push (IsNamed s) c.loop-i.named.items (record { name = c.as_str-name.result; visit = visit }) c.loop-i.invariant.names (record { within = below; name = name }));
    }
