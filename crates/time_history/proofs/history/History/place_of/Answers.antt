use Rattle.std.proofs.Common.{◌≡◌, ℕ, ℤ, ◌<◌, List, length, arith, ap, sym, ◌∙◌, w64}
use Rattle.std.proofs.lemmas.Int.{to_z-of_z}
use Rattle.graph_model.specs.Searches.{digits}
use Rattle.time_column.specs.Stamp.{Stamp, stamp_at, is_not_after}
use Rattle.time_history.specs.declared.updates.Update.{Update}
use Rattle.time_history.specs.Updates.{stamp_of, update_at}
use Rattle.time_history.specs.History.{Change, updates_of}
use Rattle.time_history.proofs.ByPlace.{length-updates_of, stamp_of-update_at}
use Rattle.time_history.proofs.history.History.place_of.Goals as goal

length_is : (ss : List Stamp) (cs : List Change) (us : List Update) → length ss ≡ length cs → updates_of ss cs ≡ us → length us ≡ length ss
length_is ss cs us h e = sym (ap length e) ∙ length-updates_of ss cs h

-- a test of the update at a place is a test of its stamp
tested : (ss : List Stamp) (cs : List Change) (us : List Update) (t x : ℤ) (o k : ℕ) → length ss ≡ length cs → updates_of ss cs ≡ us → x ≡ t → k < length ss → is_not_after t o (stamp_of (update_at us k)) ≡ is_not_after x o (stamp_at ss k)
tested ss cs us t x o k h e same lt = ap (is_not_after t o) (sym (ap (λ ws. stamp_of (update_at ws k)) e) ∙ stamp_of-update_at ss cs k h lt) ∙ ap (λ y. is_not_after y o (stamp_at ss k)) (sym same)

pub returns-clause-within : goal.returns-clause-within
returns-clause-within g c =
    let s = c.self.inside in
    let len = length_is s.column.stamps s.column.besides c.args.self.now.updates c.self.invariant.lengths (ap (λ k. k.updates) c.self.view_is) in
    omega (arith, len, c.last_place.ensures.within)

pub returns-clause-before : goal.returns-clause-before
returns-clause-before g c = λ k lt.
    let s = c.self.inside in
    tested s.column.stamps s.column.besides c.args.self.now.updates c.args.time _ c.args.order k c.self.invariant.lengths (ap (λ k. k.updates) c.self.view_is) (to_z-of_z w64 c.args.time c.ranges.time) (omega (arith, c.last_place.ensures.within)) ∙ c.last_place.ensures.before k lt

pub returns-clause-after : goal.returns-clause-after
returns-clause-after g c = λ k a b.
    let s = c.self.inside in
    let len = length_is s.column.stamps s.column.besides c.args.self.now.updates c.self.invariant.lengths (ap (λ k. k.updates) c.self.view_is) in
    let lt : k < length s.column.stamps = omega (arith, len) in
    tested s.column.stamps s.column.besides c.args.self.now.updates c.args.time _ c.args.order k c.self.invariant.lengths (ap (λ k. k.updates) c.self.view_is) (to_z-of_z w64 c.args.time c.ranges.time) lt ∙ c.last_place.ensures.after k a lt

pub returns-clause-cost : goal.returns-clause-cost
returns-clause-cost g c =
    let s = c.self.inside in
    let len = length_is s.column.stamps s.column.besides c.args.self.now.updates c.self.invariant.lengths (ap (λ k. k.updates) c.self.view_is) in
    omega (arith, ap (λ n. digits n) len, c.last_place.ensures.cost)

pub returns-clause-cost_at_end : goal.returns-clause-cost_at_end
returns-clause-cost_at_end g c = λ h.
    let s = c.self.inside in
    let len = length_is s.column.stamps s.column.besides c.args.self.now.updates c.self.invariant.lengths (ap (λ k. k.updates) c.self.view_is) in
    c.last_place.ensures.cost_at_end (λ k lt. sym (tested s.column.stamps s.column.besides c.args.self.now.updates c.args.time _ c.args.order k c.self.invariant.lengths (ap (λ k. k.updates) c.self.view_is) (to_z-of_z w64 c.args.time c.ranges.time) lt) ∙ h k (omega (arith, len)))
