use Rattle.std.proofs.Common.{arith, ap, ℕ, ◌<◌, ◌≤◌, ◌*◌, ◌/◌, ◌+◌, ◌≡◌, ◌∙◌, length, get_or, refl, sym, subst}
use Rattle.std.specs.List.{insert}
use Rattle.chunk_list.proofs.Joined.{written, where_ok}
use Rattle.chunk_list.proofs.Sums.{many, put_length, put_rise, put_grouped, put_sums}
use Rattle.chunk_list.proofs.places.Places.insert.Goals as goal

pub insert-requires : goal.insert-requires
insert-requires c =
    let s = c.self.inside in
    omega (arith, c.requires.place, many s.groups.items s.own.items c.args.self.now.items (ap (λ v. v.items) c.self.view_is), s.own.ok.0)

pub part_groups-requires-clause-rise : goal.part_groups-requires-clause-rise
part_groups-requires-clause-rise c = λ i j f l m.
    let s = c.self.inside in
    let gs = s.groups.items in
    let ns = s.own.items in
    let xs = c.args.self.now.items in
    let k = c.args.k in
    let e = ap (λ v. v.items) c.self.view_is in
    let ms = c.join_groups.new.own in
    let gsame = c.as_slice.ensures.value in
    let nsame = c.as_mut_slice.ensures.value in
    let len_m : length ms ≡ length ns = c.join_groups.auto.own ∙ ap length nsame in
    let joined = written ns ms s.own.len (omega (arith, len_m, s.own.ok.0)) in
    let room : s.own.len < s.own.cap = omega (arith, ap (λ v. v.spare) c.self.view_is, c.requires.room) in
    let put = where_ok c.insert.result _ _ _ (c.insert.ensures.succeeds room) c.insert.ensures.items ∙ ap (λ ys. insert ys k c.args.number) joined in
    let all = c.as_mut_slice-2.ensures.value ∙ put in
    let kept : (j : ℕ) → j < 64 * (k / 64) → get_or ms j 0 ≡ get_or ns j 0 = λ j l. c.join_groups.ensures.kept j (omega arith) ∙ ap (λ ys. get_or ys j 0) nsame in
    let sums : (j : ℕ) → 64 * (k / 64) ≤ j → j < length ns → get_or ms j 0 ≡ get_or gs (j / 64) 0 + get_or ns j 0 = λ j f l. c.join_groups.ensures.sums j (omega arith) (omega (arith, l, ap length nsame)) ∙ (λ t. get_or (gsame t) (j / 64) 0 + get_or (nsame t) j 0) in
    subst (λ ys. get_or ys i 0 ≤ get_or ys j 0) (sym all) (put_rise gs ns xs ms k c.args.number (k / 64) e c.self.invariant c.requires.place refl len_m kept sums c.requires.some c.requires.rise c.requires.before c.requires.after i j f l (omega (arith, m, ap length all)))

pub invariant_of-self : goal.invariant_of-self
invariant_of-self c =
    let s = c.self.inside in
    let gs = s.groups.items in
    let ns = s.own.items in
    let xs = c.args.self.now.items in
    let k = c.args.k in
    let e = ap (λ v. v.items) c.self.view_is in
    let ms = c.join_groups.new.own in
    let gsame = c.as_slice.ensures.value in
    let nsame = c.as_mut_slice.ensures.value in
    let len_m : length ms ≡ length ns = c.join_groups.auto.own ∙ ap length nsame in
    let joined = written ns ms s.own.len (omega (arith, len_m, s.own.ok.0)) in
    let room : s.own.len < s.own.cap = omega (arith, ap (λ v. v.spare) c.self.view_is, c.requires.room) in
    let put = where_ok c.insert.result _ _ _ (c.insert.ensures.succeeds room) c.insert.ensures.items ∙ ap (λ ys. insert ys k c.args.number) joined in
    let all = c.as_mut_slice-2.ensures.value ∙ put in
    let kept : (j : ℕ) → j < 64 * (k / 64) → get_or ms j 0 ≡ get_or ns j 0 = λ j l. c.join_groups.ensures.kept j (omega arith) ∙ ap (λ ys. get_or ys j 0) nsame in
    let sums : (j : ℕ) → 64 * (k / 64) ≤ j → j < length ns → get_or ms j 0 ≡ get_or gs (j / 64) 0 + get_or ns j 0 = λ j f l. c.join_groups.ensures.sums j (omega arith) (omega (arith, l, ap length nsame)) ∙ (λ t. get_or (gsame t) (j / 64) 0 + get_or (nsame t) j 0) in
    let q = c.part_groups.ensures in
    let hs = c.part_groups.new.groups.items in
    let os = c.part_groups.new.own in
    let own = written c.insert.new.self.items os c.insert.new.self.len (omega (arith, c.part_groups.auto.own, ap length c.as_mut_slice-2.ensures.value, c.insert.new.self.ok.0)) in
    rw own (put_grouped gs ns xs ms k c.args.number (k / 64) e c.self.invariant c.requires.place refl len_m kept sums hs os (omega (arith, c.ranges.number.fits)) (c.part_groups.auto.own ∙ ap length all)
    (omega (arith, q.covered, c.part_groups.new.groups.ok.0, ap length all)) (λ g l. omega (arith, q.begun g (omega (arith, l, c.part_groups.new.groups.ok.0)), ap length all))
    q.groups (λ j l. q.kept j l ∙ ap (λ ys. get_or ys j 0) all) (λ g f l. q.first g f (omega (arith, l, c.part_groups.new.groups.ok.0)) ∙ ap (λ ys. get_or ys (64 * g) 0) all)
    (λ j f l. q.sums j f (omega (arith, l, ap length all)) ∙ ap (λ ys. get_or ys j 0) all))

pub returns : goal.returns
returns c =
    let s = c.self.inside in
    let gs = s.groups.items in
    let ns = s.own.items in
    let xs = c.args.self.now.items in
    let k = c.args.k in
    let e = ap (λ v. v.items) c.self.view_is in
    let ms = c.join_groups.new.own in
    let gsame = c.as_slice.ensures.value in
    let nsame = c.as_mut_slice.ensures.value in
    let len_m : length ms ≡ length ns = c.join_groups.auto.own ∙ ap length nsame in
    let joined = written ns ms s.own.len (omega (arith, len_m, s.own.ok.0)) in
    let room : s.own.len < s.own.cap = omega (arith, ap (λ v. v.spare) c.self.view_is, c.requires.room) in
    let put = where_ok c.insert.result _ _ _ (c.insert.ensures.succeeds room) c.insert.ensures.items ∙ ap (λ ys. insert ys k c.args.number) joined in
    let all = c.as_mut_slice-2.ensures.value ∙ put in
    let kept : (j : ℕ) → j < 64 * (k / 64) → get_or ms j 0 ≡ get_or ns j 0 = λ j l. c.join_groups.ensures.kept j (omega arith) ∙ ap (λ ys. get_or ys j 0) nsame in
    let sums : (j : ℕ) → 64 * (k / 64) ≤ j → j < length ns → get_or ms j 0 ≡ get_or gs (j / 64) 0 + get_or ns j 0 = λ j f l. c.join_groups.ensures.sums j (omega arith) (omega (arith, l, ap length nsame)) ∙ (λ t. get_or (gsame t) (j / 64) 0 + get_or (nsame t) j 0) in
    let q = c.part_groups.ensures in
    let hs = c.part_groups.new.groups.items in
    let os = c.part_groups.new.own in
    let own = written c.insert.new.self.items os c.insert.new.self.len (omega (arith, c.part_groups.auto.own, ap length c.as_mut_slice-2.ensures.value, c.insert.new.self.ok.0)) in
    record {
      items = rw own (put_sums gs ns xs ms k c.args.number (k / 64) e c.self.invariant c.requires.place refl len_m kept sums hs os (omega (arith, c.ranges.number.fits)) (c.part_groups.auto.own ∙ ap length all)
          (omega (arith, q.covered, c.part_groups.new.groups.ok.0, ap length all)) (λ g l. omega (arith, q.begun g (omega (arith, l, c.part_groups.new.groups.ok.0)), ap length all))
          q.groups (λ j l. q.kept j l ∙ ap (λ ys. get_or ys j 0) all) (λ g f l. q.first g f (omega (arith, l, c.part_groups.new.groups.ok.0)) ∙ ap (λ ys. get_or ys (64 * g) 0) all)
          (λ j f l. q.sums j f (omega (arith, l, ap length all)) ∙ ap (λ ys. get_or ys j 0) all));
    }

pub join_groups-requires-clause-from : goal.join_groups-requires-clause-from
join_groups-requires-clause-from c =
    let s = c.self.inside in
    omega (arith, c.requires.place, many s.groups.items s.own.items c.args.self.now.items (ap (λ v. v.items) c.self.view_is), ap length c.as_mut_slice.ensures.value)

pub part_groups-requires-clause-groups : goal.part_groups-requires-clause-groups
part_groups-requires-clause-groups c =
    let s = c.self.inside in
    omega (arith, c.requires.place, many s.groups.items s.own.items c.args.self.now.items (ap (λ v. v.items) c.self.view_is), c.self.invariant.covered, s.groups.ok.0)

pub part_groups-requires-clause-from : goal.part_groups-requires-clause-from
part_groups-requires-clause-from c =
    let s = c.self.inside in
    let gs = s.groups.items in
    let ns = s.own.items in
    let xs = c.args.self.now.items in
    let k = c.args.k in
    let e = ap (λ v. v.items) c.self.view_is in
    let ms = c.join_groups.new.own in
    let gsame = c.as_slice.ensures.value in
    let nsame = c.as_mut_slice.ensures.value in
    let len_m : length ms ≡ length ns = c.join_groups.auto.own ∙ ap length nsame in
    let joined = written ns ms s.own.len (omega (arith, len_m, s.own.ok.0)) in
    let room : s.own.len < s.own.cap = omega (arith, ap (λ v. v.spare) c.self.view_is, c.requires.room) in
    let put = where_ok c.insert.result _ _ _ (c.insert.ensures.succeeds room) c.insert.ensures.items ∙ ap (λ ys. insert ys k c.args.number) joined in
    let kept : (j : ℕ) → j < 64 * (k / 64) → get_or ms j 0 ≡ get_or ns j 0 = λ j l. c.join_groups.ensures.kept j (omega arith) ∙ ap (λ ys. get_or ys j 0) nsame in
    let sums : (j : ℕ) → 64 * (k / 64) ≤ j → j < length ns → get_or ms j 0 ≡ get_or gs (j / 64) 0 + get_or ns j 0 = λ j f l. c.join_groups.ensures.sums j (omega arith) (omega (arith, l, ap length nsame)) ∙ (λ t. get_or (gsame t) (j / 64) 0 + get_or (nsame t) j 0) in
    omega (arith, c.requires.place, many gs ns xs e, ap length (c.as_mut_slice-2.ensures.value ∙ put), put_length gs ns xs ms k c.args.number (k / 64) e c.self.invariant c.requires.place refl len_m kept sums)
