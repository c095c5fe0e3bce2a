use Rattle.std.proofs.Common.{◌≡◌, rules}
use Rattle.std.proofs.lemmas.Fn.{always_returns_same}
use Rattle.event_sweep.specs.declared.held_events.HeldEvent.{HeldEvent}
use Rattle.window_sweep.proofs.Gathered.{in_time}
use Rattle.window_sweep.proofs.filling.in_time.Goals as goal

pub returns : goal.returns
returns c =
    let key : HeldEvent → _ = λ x. x.time in
    let computes = always_returns_same _ (λ a r. r ≡ a.0.now.time) _ (λ a r q k. search rules) in
    in_time c.args.held.items c.sort_by_key.new.self.items (c.in_ok-sort_by_key.ensures.sorted key computes) (c.sort_by_key.ensures.stable key computes)
