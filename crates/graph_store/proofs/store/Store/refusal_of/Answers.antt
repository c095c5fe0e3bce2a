use Rattle.std.proofs.Common.{◌≡◌, ◌∙◌, true, None, rules, sym, ap}
use Rattle.graph_model.specs.World.{allows}
use Rattle.graph_store.specs.Contents.{Contents}
use Rattle.graph_store.proofs.JudgeLaws.{judged, refused-limit, not-refused}
use Rattle.graph_store.proofs.store.Store.refusal_of.Goals as goal

pub returns-then-has_room : goal.returns-then-has_room
returns-then-has_room c =
    let allowed : allows c.self.inside.model c.args.event.now ≡ true = search rules in
    judged c.args.self.now.model c.args.self.now.accepted c.args.self.now.types c.args.event.now (ap (λ (v : Contents). allows v.model c.args.event.now) (sym c.self.view_is) ∙ allowed) c.in_default.ensures None (search rules)

pub returns-in-Some-first_above : goal.returns-in-Some-first_above
returns-in-Some-first_above c =
    let allowed : allows c.self.inside.model c.args.event.now ≡ true = search rules in
    refused-limit c.args.self.now.model c.args.self.now.accepted c.args.self.now.types c.args.event.now (ap (λ (v : Contents). allows v.model c.args.event.now) (sym c.self.view_is) ∙ allowed) c.in_default.ensures c.totals_with.result c.totals_with.ensures c.in-Some-first_above.count c.in-Some-first_above.ensures

pub returns-in-None : goal.returns-in-None
returns-in-None c =
    let allowed : allows c.self.inside.model c.args.event.now ≡ true = search rules in
    not-refused c.args.self.now.model c.args.self.now.accepted c.args.self.now.types c.args.event.now (ap (λ (v : Contents). allows v.model c.args.event.now) (sym c.self.view_is) ∙ allowed) c.in_default.ensures c.totals_with.result c.totals_with.ensures c.in-None.ensures
