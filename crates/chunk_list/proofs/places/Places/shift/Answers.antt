use Rattle.std.proofs.Common.{arith, ap, ◌≡◌, ℕ, ◌<◌, ◌≤◌, ◌*◌, ◌/◌, ◌+◌, ◌^◌, ◌∙◌, length, get_or, refl}
use Rattle.std.specs.Prelude.{min}
use Rattle.chunk_list.specs.Groups.{sums_of}
use Rattle.chunk_list.proofs.Joined.{written}
use Rattle.chunk_list.proofs.Sums.{length-sums_of, sum_at, many, sum_kept, sum_moved, shifted, end_after, end_within}
use Rattle.chunk_list.proofs.places.Places.shift.Goals as goal

pub shift-requires-clause-order : goal.shift-requires-clause-order
shift-requires-clause-order c =
    let s = c.self.inside in
    let gs = s.groups.items in
    let ns = s.own.items in
    let xs = c.args.self.now.items in
    let e = ap (λ v. v.items) c.self.view_is in
    let a = c.self.invariant in
    let n = c.next_group.ensures in
    let g = c.min-group.result in
    let end = c.group_end-end.result in
    let g_is : g ≡ min c.next_group.result (length gs) = omega (arith, c.min-group.ensures, c.len-groups.ensures, s.groups.ok.0) in
    let inside : g < length gs → end ≡ 64 * g = λ m. c.group_end-end.ensures.inside (omega (arith, m, c.len-groups.ensures, s.groups.ok.0)) in
    let last : length gs ≤ g → end ≡ length ns = λ m. omega (arith, c.group_end-end.ensures.last (omega (arith, m, c.len-groups.ensures, s.groups.ok.0)), c.len.ensures, s.own.ok.0) in
    end_after c.args.from c.next_group.result g end (length gs) (length ns) n.from g_is inside last (omega (arith, c.requires.from, many gs ns xs e))

pub shift-requires-clause-fits : goal.shift-requires-clause-fits
shift-requires-clause-fits c = λ k l m.
    let s = c.self.inside in
    let gs = s.groups.items in
    let ns = s.own.items in
    let xs = c.args.self.now.items in
    let e = ap (λ v. v.items) c.self.view_is in
    let a = c.self.invariant in
    let n = c.next_group.ensures in
    let g = c.min-group.result in
    let end = c.group_end-end.result in
    let g_is : g ≡ min c.next_group.result (length gs) = omega (arith, c.min-group.ensures, c.len-groups.ensures, s.groups.ok.0) in
    let inside : g < length gs → end ≡ 64 * g = λ m. c.group_end-end.ensures.inside (omega (arith, m, c.len-groups.ensures, s.groups.ok.0)) in
    let last : length gs ≤ g → end ≡ length ns = λ m. omega (arith, c.group_end-end.ensures.last (omega (arith, m, c.len-groups.ensures, s.groups.ok.0)), c.len.ensures, s.own.ok.0) in
    let before_end = end_within g end gs ns a inside last in
    let in_own : k < length ns = omega (arith, m, before_end) in
    omega (arith, ap (λ ys. get_or ys k 0) c.as_mut_slice.ensures.value, c.requires.fits k l (omega (arith, in_own, many gs ns xs e)), sum_at gs ns xs k e in_own)

pub shift-requires-2-clause-fits : goal.shift-requires-2-clause-fits
shift-requires-2-clause-fits c = λ k l m.
    let s = c.self.inside in
    let gs = s.groups.items in
    let ns = s.own.items in
    let xs = c.args.self.now.items in
    let e = ap (λ v. v.items) c.self.view_is in
    let a = c.self.invariant in
    let n = c.next_group.ensures in
    let g = c.min-group.result in
    let end = c.group_end-end.result in
    let g_is : g ≡ min c.next_group.result (length gs) = omega (arith, c.min-group.ensures, c.len-groups.ensures, s.groups.ok.0) in
    let inside : g < length gs → end ≡ 64 * g = λ m. c.group_end-end.ensures.inside (omega (arith, m, c.len-groups.ensures, s.groups.ok.0)) in
    let last : length gs ≤ g → end ≡ length ns = λ m. omega (arith, c.group_end-end.ensures.last (omega (arith, m, c.len-groups.ensures, s.groups.ok.0)), c.len.ensures, s.own.ok.0) in
    let in_groups : k < length gs = omega (arith, m, c.len-groups.ensures, s.groups.ok.0) in
    let in_own = a.begun k in_groups in
    let same : 64 * k / 64 ≡ k = omega arith in
    omega (arith, ap (λ ys. get_or ys k 0) c.as_mut_slice-2.ensures.value, c.requires.fits (64 * k) (omega (arith, l, n.from, g_is)) (omega (arith, in_own, many gs ns xs e)), sum_at gs ns xs (64 * k) e in_own, ap (λ i. get_or gs i 0) same)

pub invariant_of-self : goal.invariant_of-self
invariant_of-self c =
    let s = c.self.inside in
    let gs = s.groups.items in
    let ns = s.own.items in
    let xs = c.args.self.now.items in
    let e = ap (λ v. v.items) c.self.view_is in
    let a = c.self.invariant in
    let n = c.next_group.ensures in
    let g = c.min-group.result in
    let end = c.group_end-end.result in
    let g_is : g ≡ min c.next_group.result (length gs) = omega (arith, c.min-group.ensures, c.len-groups.ensures, s.groups.ok.0) in
    let inside : g < length gs → end ≡ 64 * g = λ m. c.group_end-end.ensures.inside (omega (arith, m, c.len-groups.ensures, s.groups.ok.0)) in
    let last : length gs ≤ g → end ≡ length ns = λ m. omega (arith, c.group_end-end.ensures.last (omega (arith, m, c.len-groups.ensures, s.groups.ok.0)), c.len.ensures, s.own.ok.0) in
    let nsame = c.as_mut_slice.ensures.value in
    let gsame = c.as_mut_slice-2.ensures.value in
    let groups = written gs c.shift-2.new.numbers s.groups.len (omega (arith, c.shift-2.auto.numbers, ap length gsame, s.groups.ok.0)) in
    let own = written ns c.shift.new.numbers s.own.len (omega (arith, c.shift.auto.numbers, ap length nsame, s.own.ok.0)) in
    let len_g = c.shift-2.auto.numbers ∙ ap length gsame in
    let len_n = c.shift.auto.numbers ∙ ap length nsame in
    let fits : (k : ℕ) → c.args.from ≤ k → k < length ns → get_or gs (k / 64) 0 + get_or ns k 0 + 1 < 2 ^ 64 = λ k l m. omega (arith, c.requires.fits k l (omega (arith, many gs ns xs e)), sum_at gs ns xs k e m) in
    let below : (k : ℕ) → k < g → get_or c.shift-2.new.numbers k 0 ≡ get_or gs k 0 = λ k l. c.shift-2.ensures.before k l ∙ ap (λ ys. get_or ys k 0) gsame in
    let above : (k : ℕ) → g ≤ k → k < length gs → get_or c.shift-2.new.numbers k 0 ≡ get_or gs k 0 + 1 = λ k l m. c.shift-2.ensures.moved k l (omega (arith, m, c.len-groups.ensures, s.groups.ok.0)) ∙ ap (λ ys. get_or ys k 0 + 1) gsame in
    let early : (k : ℕ) → k < c.args.from → get_or c.shift.new.numbers k 0 ≡ get_or ns k 0 = λ k l. c.shift.ensures.before k l ∙ ap (λ ys. get_or ys k 0) nsame in
    let mid : (k : ℕ) → c.args.from ≤ k → k < end → get_or c.shift.new.numbers k 0 ≡ get_or ns k 0 + 1 = λ k l m. c.shift.ensures.moved k l m ∙ ap (λ ys. get_or ys k 0 + 1) nsame in
    let late : (k : ℕ) → end ≤ k → get_or c.shift.new.numbers k 0 ≡ get_or ns k 0 = λ k l. c.shift.ensures.after k l ∙ ap (λ ys. get_or ys k 0) nsame in
    rw (groups, own) (shifted gs c.shift-2.new.numbers ns c.shift.new.numbers c.args.from c.next_group.result g end a len_g len_n fits n.from n.next g_is inside last below above early mid late)

pub returns-clause-len : goal.returns-clause-len
returns-clause-len c =
    let s = c.self.inside in
    let gs = s.groups.items in
    let ns = s.own.items in
    let xs = c.args.self.now.items in
    let e = ap (λ v. v.items) c.self.view_is in
    let a = c.self.invariant in
    let n = c.next_group.ensures in
    let g = c.min-group.result in
    let end = c.group_end-end.result in
    let g_is : g ≡ min c.next_group.result (length gs) = omega (arith, c.min-group.ensures, c.len-groups.ensures, s.groups.ok.0) in
    let inside : g < length gs → end ≡ 64 * g = λ m. c.group_end-end.ensures.inside (omega (arith, m, c.len-groups.ensures, s.groups.ok.0)) in
    let last : length gs ≤ g → end ≡ length ns = λ m. omega (arith, c.group_end-end.ensures.last (omega (arith, m, c.len-groups.ensures, s.groups.ok.0)), c.len.ensures, s.own.ok.0) in
    let nsame = c.as_mut_slice.ensures.value in
    let gsame = c.as_mut_slice-2.ensures.value in
    let groups = written gs c.shift-2.new.numbers s.groups.len (omega (arith, c.shift-2.auto.numbers, ap length gsame, s.groups.ok.0)) in
    let own = written ns c.shift.new.numbers s.own.len (omega (arith, c.shift.auto.numbers, ap length nsame, s.own.ok.0)) in
    let len_g = c.shift-2.auto.numbers ∙ ap length gsame in
    let len_n = c.shift.auto.numbers ∙ ap length nsame in
    let fits : (k : ℕ) → c.args.from ≤ k → k < length ns → get_or gs (k / 64) 0 + get_or ns k 0 + 1 < 2 ^ 64 = λ k l m. omega (arith, c.requires.fits k l (omega (arith, many gs ns xs e)), sum_at gs ns xs k e m) in
    let below : (k : ℕ) → k < g → get_or c.shift-2.new.numbers k 0 ≡ get_or gs k 0 = λ k l. c.shift-2.ensures.before k l ∙ ap (λ ys. get_or ys k 0) gsame in
    let above : (k : ℕ) → g ≤ k → k < length gs → get_or c.shift-2.new.numbers k 0 ≡ get_or gs k 0 + 1 = λ k l m. c.shift-2.ensures.moved k l (omega (arith, m, c.len-groups.ensures, s.groups.ok.0)) ∙ ap (λ ys. get_or ys k 0 + 1) gsame in
    let early : (k : ℕ) → k < c.args.from → get_or c.shift.new.numbers k 0 ≡ get_or ns k 0 = λ k l. c.shift.ensures.before k l ∙ ap (λ ys. get_or ys k 0) nsame in
    let mid : (k : ℕ) → c.args.from ≤ k → k < end → get_or c.shift.new.numbers k 0 ≡ get_or ns k 0 + 1 = λ k l m. c.shift.ensures.moved k l m ∙ ap (λ ys. get_or ys k 0 + 1) nsame in
    let late : (k : ℕ) → end ≤ k → get_or c.shift.new.numbers k 0 ≡ get_or ns k 0 = λ k l. c.shift.ensures.after k l ∙ ap (λ ys. get_or ys k 0) nsame in
    rw (groups, own) (omega (arith, length-sums_of 0 c.shift-2.new.numbers c.shift.new.numbers, len_n, many gs ns xs e))

pub returns-clause-kept : goal.returns-clause-kept
returns-clause-kept c = λ k l.
    let s = c.self.inside in
    let gs = s.groups.items in
    let ns = s.own.items in
    let xs = c.args.self.now.items in
    let e = ap (λ v. v.items) c.self.view_is in
    let a = c.self.invariant in
    let n = c.next_group.ensures in
    let g = c.min-group.result in
    let end = c.group_end-end.result in
    let g_is : g ≡ min c.next_group.result (length gs) = omega (arith, c.min-group.ensures, c.len-groups.ensures, s.groups.ok.0) in
    let inside : g < length gs → end ≡ 64 * g = λ m. c.group_end-end.ensures.inside (omega (arith, m, c.len-groups.ensures, s.groups.ok.0)) in
    let last : length gs ≤ g → end ≡ length ns = λ m. omega (arith, c.group_end-end.ensures.last (omega (arith, m, c.len-groups.ensures, s.groups.ok.0)), c.len.ensures, s.own.ok.0) in
    let nsame = c.as_mut_slice.ensures.value in
    let gsame = c.as_mut_slice-2.ensures.value in
    let groups = written gs c.shift-2.new.numbers s.groups.len (omega (arith, c.shift-2.auto.numbers, ap length gsame, s.groups.ok.0)) in
    let own = written ns c.shift.new.numbers s.own.len (omega (arith, c.shift.auto.numbers, ap length nsame, s.own.ok.0)) in
    let len_g = c.shift-2.auto.numbers ∙ ap length gsame in
    let len_n = c.shift.auto.numbers ∙ ap length nsame in
    let fits : (k : ℕ) → c.args.from ≤ k → k < length ns → get_or gs (k / 64) 0 + get_or ns k 0 + 1 < 2 ^ 64 = λ k l m. omega (arith, c.requires.fits k l (omega (arith, many gs ns xs e)), sum_at gs ns xs k e m) in
    let below : (k : ℕ) → k < g → get_or c.shift-2.new.numbers k 0 ≡ get_or gs k 0 = λ k l. c.shift-2.ensures.before k l ∙ ap (λ ys. get_or ys k 0) gsame in
    let above : (k : ℕ) → g ≤ k → k < length gs → get_or c.shift-2.new.numbers k 0 ≡ get_or gs k 0 + 1 = λ k l m. c.shift-2.ensures.moved k l (omega (arith, m, c.len-groups.ensures, s.groups.ok.0)) ∙ ap (λ ys. get_or ys k 0 + 1) gsame in
    let early : (k : ℕ) → k < c.args.from → get_or c.shift.new.numbers k 0 ≡ get_or ns k 0 = λ k l. c.shift.ensures.before k l ∙ ap (λ ys. get_or ys k 0) nsame in
    let mid : (k : ℕ) → c.args.from ≤ k → k < end → get_or c.shift.new.numbers k 0 ≡ get_or ns k 0 + 1 = λ k l m. c.shift.ensures.moved k l m ∙ ap (λ ys. get_or ys k 0 + 1) nsame in
    let late : (k : ℕ) → end ≤ k → get_or c.shift.new.numbers k 0 ≡ get_or ns k 0 = λ k l. c.shift.ensures.after k l ∙ ap (λ ys. get_or ys k 0) nsame in
    let in_own : k < length ns = omega (arith, l, c.requires.from, many gs ns xs e) in
    rw (groups, own) (omega (arith, sum_at c.shift-2.new.numbers c.shift.new.numbers (sums_of 0 c.shift-2.new.numbers c.shift.new.numbers) k refl (omega (arith, len_n, in_own)), sum_kept gs c.shift-2.new.numbers ns c.shift.new.numbers c.args.from c.next_group.result g end a len_g len_n fits n.from n.next g_is inside last below above early mid late k l in_own, sum_at gs ns xs k e in_own))

pub returns-clause-moved : goal.returns-clause-moved
returns-clause-moved c = λ k l m.
    let s = c.self.inside in
    let gs = s.groups.items in
    let ns = s.own.items in
    let xs = c.args.self.now.items in
    let e = ap (λ v. v.items) c.self.view_is in
    let a = c.self.invariant in
    let n = c.next_group.ensures in
    let g = c.min-group.result in
    let end = c.group_end-end.result in
    let g_is : g ≡ min c.next_group.result (length gs) = omega (arith, c.min-group.ensures, c.len-groups.ensures, s.groups.ok.0) in
    let inside : g < length gs → end ≡ 64 * g = λ m. c.group_end-end.ensures.inside (omega (arith, m, c.len-groups.ensures, s.groups.ok.0)) in
    let last : length gs ≤ g → end ≡ length ns = λ m. omega (arith, c.group_end-end.ensures.last (omega (arith, m, c.len-groups.ensures, s.groups.ok.0)), c.len.ensures, s.own.ok.0) in
    let nsame = c.as_mut_slice.ensures.value in
    let gsame = c.as_mut_slice-2.ensures.value in
    let groups = written gs c.shift-2.new.numbers s.groups.len (omega (arith, c.shift-2.auto.numbers, ap length gsame, s.groups.ok.0)) in
    let own = written ns c.shift.new.numbers s.own.len (omega (arith, c.shift.auto.numbers, ap length nsame, s.own.ok.0)) in
    let len_g = c.shift-2.auto.numbers ∙ ap length gsame in
    let len_n = c.shift.auto.numbers ∙ ap length nsame in
    let fits : (k : ℕ) → c.args.from ≤ k → k < length ns → get_or gs (k / 64) 0 + get_or ns k 0 + 1 < 2 ^ 64 = λ k l m. omega (arith, c.requires.fits k l (omega (arith, many gs ns xs e)), sum_at gs ns xs k e m) in
    let below : (k : ℕ) → k < g → get_or c.shift-2.new.numbers k 0 ≡ get_or gs k 0 = λ k l. c.shift-2.ensures.before k l ∙ ap (λ ys. get_or ys k 0) gsame in
    let above : (k : ℕ) → g ≤ k → k < length gs → get_or c.shift-2.new.numbers k 0 ≡ get_or gs k 0 + 1 = λ k l m. c.shift-2.ensures.moved k l (omega (arith, m, c.len-groups.ensures, s.groups.ok.0)) ∙ ap (λ ys. get_or ys k 0 + 1) gsame in
    let early : (k : ℕ) → k < c.args.from → get_or c.shift.new.numbers k 0 ≡ get_or ns k 0 = λ k l. c.shift.ensures.before k l ∙ ap (λ ys. get_or ys k 0) nsame in
    let mid : (k : ℕ) → c.args.from ≤ k → k < end → get_or c.shift.new.numbers k 0 ≡ get_or ns k 0 + 1 = λ k l m. c.shift.ensures.moved k l m ∙ ap (λ ys. get_or ys k 0 + 1) nsame in
    let late : (k : ℕ) → end ≤ k → get_or c.shift.new.numbers k 0 ≡ get_or ns k 0 = λ k l. c.shift.ensures.after k l ∙ ap (λ ys. get_or ys k 0) nsame in
    let in_own : k < length ns = omega (arith, m, many gs ns xs e) in
    rw (groups, own) (omega (arith, sum_at c.shift-2.new.numbers c.shift.new.numbers (sums_of 0 c.shift-2.new.numbers c.shift.new.numbers) k refl (omega (arith, len_n, in_own)), sum_moved gs c.shift-2.new.numbers ns c.shift.new.numbers c.args.from c.next_group.result g end a len_g len_n fits n.from n.next g_is inside last below above early mid late k l in_own, sum_at gs ns xs k e in_own))
