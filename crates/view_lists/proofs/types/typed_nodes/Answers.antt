use Rattle.std.proofs.Common.{◌≡◌, ◌∙◌, ◌<◌, ◌++◌, [], cond, false, length, get_or, ap, arith}
use Rattle.graph_model.specs.World.{names_node}
use Rattle.graph_store.specs.Contents.{Contents, name_at}
use Rattle.view_lists.specs.Types.{types_listed, typed_node}
use Rattle.view_lists.proofs.NamedTypes.{named_shown, typed_more, types_all}
use Rattle.view_lists.proofs.types.typed_nodes.Goals as goal

pub loop-n-preserved : goal.loop-n-preserved
loop-n-preserved g c =
    let contents = g.V.View.contents c.args.view.now in
    let world = g.V.View.world c.args.view.now in
    let n = c.loop-n.n in
    let flag = get_or c.args.flags.now n false in
    let count = c.nodes-n-end.ensures.len ∙ ap (λ (s : Contents). length s.nodes) c.store-store.ensures in
    let lt : n < length contents.nodes = (let test = c.loop-n-test.true in omega (arith, count, test)) in
    let is : flag ≡ names_node world.events (name_at contents.nodes n) = c.requires.marked.marked n lt ∙ named_shown contents world (g.met.V.View.shown c.args.view.now) c.args.shown.now c.requires.found (name_at contents.nodes n) in
    typed_more contents (names_node world.events) n flag (types_listed c.loop-n.typed.items) (types_listed c.push_typed.new.typed.items) lt is c.loop-n.invariant
    (c.in_ok-push_typed.ensures ∙ ap (λ (s : Contents). types_listed c.loop-n.typed.items ++ cond flag (typed_node s.types (name_at s.nodes n)) []) c.store-store.ensures)

pub returns : goal.returns
returns g c =
    let contents = g.V.View.contents c.args.view.now in
    let world = g.V.View.world c.args.view.now in
    let count = c.nodes-n-end.ensures.len ∙ ap (λ (s : Contents). length s.nodes) c.store-store.ensures in
    let past = c.loop-n-test.false in
    let end = c.loop-n.auto.n-end in
    let all : c.loop-n.n ≡ length contents.nodes = omega (arith, count, past, end) in
    types_all contents (names_node world.events) c.loop-n.n (types_listed c.loop-n.typed.items) all c.loop-n.invariant
