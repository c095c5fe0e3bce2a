use Rattle.std.proofs.Common.{rules, SFits, w64, to_z, of_z, ap}
use Rattle.std.proofs.lemmas.Int.{to_z-of_z}
use Rattle.time_history.proofs.Putting.{in_stamps, last_stamps, stamps_rise, sound_put, updates_put}
use Rattle.time_history.proofs.history.History.place.Goals as goal

pub put-requires-clause-place : goal.put-requires-clause-place
put-requires-clause-place c =
    let s = c.self.inside in
    let seen = ap (λ k. k.updates) c.self.view_is in
    let fits : SFits w64 c.args.update.time = search rules in
    let same = to_z-of_z w64 c.args.update.time fits in
    let q = c.requires in
    in_stamps s.column.stamps s.column.besides c.args.self.now.updates c.args.update c.args.at (to_z w64 (of_z w64 c.args.update.time)) c.self.invariant seen q.within same q.before q.after q.last

pub put-requires-clause-rising : goal.put-requires-clause-rising
put-requires-clause-rising c =
    let s = c.self.inside in
    let seen = ap (λ k. k.updates) c.self.view_is in
    let fits : SFits w64 c.args.update.time = search rules in
    let same = to_z-of_z w64 c.args.update.time fits in
    let q = c.requires in
    stamps_rise s.column.stamps s.column.besides c.args.self.now.updates c.args.update c.args.at (to_z w64 (of_z w64 c.args.update.time)) c.self.invariant seen q.within same q.before q.after q.last

pub put-requires-clause-last : goal.put-requires-clause-last
put-requires-clause-last c =
    let s = c.self.inside in
    let seen = ap (λ k. k.updates) c.self.view_is in
    let fits : SFits w64 c.args.update.time = search rules in
    let same = to_z-of_z w64 c.args.update.time fits in
    let q = c.requires in
    last_stamps s.column.stamps s.column.besides c.args.self.now.updates c.args.update c.args.at (to_z w64 (of_z w64 c.args.update.time)) c.self.invariant seen q.within same q.before q.after q.last

pub invariant_of-self : goal.invariant_of-self
invariant_of-self c =
    let s = c.self.inside in
    let seen = ap (λ k. k.updates) c.self.view_is in
    let fits : SFits w64 c.args.update.time = search rules in
    let same = to_z-of_z w64 c.args.update.time fits in
    let q = c.requires in
    sound_put s.column.stamps s.column.besides c.args.self.now.updates c.args.update c.args.at (to_z w64 (of_z w64 c.args.update.time)) c.self.invariant seen q.within same q.before q.after q.last c.put.new.self.stamps c.put.new.self.besides c.put.ensures.stamps c.put.ensures.besides q.fits c.len-rise.ensures.rise

pub returns-clause-updates : goal.returns-clause-updates
returns-clause-updates c =
    let s = c.self.inside in
    let seen = ap (λ k. k.updates) c.self.view_is in
    let fits : SFits w64 c.args.update.time = search rules in
    let same = to_z-of_z w64 c.args.update.time fits in
    let q = c.requires in
    updates_put s.column.stamps s.column.besides c.args.self.now.updates c.args.update c.args.at (to_z w64 (of_z w64 c.args.update.time)) c.self.invariant seen q.within same q.before q.after q.last c.put.new.self.stamps c.put.new.self.besides c.put.ensures.stamps c.put.ensures.besides
