use Rattle.std.proofs.Common.{arith, ◌/◌, ◌∙◌}
use Rattle.chunk_list.proofs.Joined.{read_at}
use Rattle.chunk_list.proofs.Sums.{first_more, left_more, before_more, sums_more}
use Rattle.chunk_list.proofs.places.part_groups.Goals as goal

pub loop-k-preserved : goal.loop-k-preserved
loop-k-preserved c =
    let inv = c.loop-k.invariant in
    let b = c.begin_group.ensures in
    let gs = c.loop-k.groups.items in
    let hs = c.begin_group.new.groups.items in
    let old = c.args.own.now in
    let own = c.loop-k.own in
    let k = c.loop-k.k in
    let from = c.args.from in
    let base = read_at hs (k / 64) c.index.result.now 0 (omega (arith, b.covered, c.begin_group.new.groups.ok.0)) c.index.ensures in
    record {
      start = omega (arith, inv.start);
      since = omega (arith, inv.since, b.len);
      covered = omega (arith, b.covered);
      begun = λ g l. omega (arith, b.begun g l);
      groups = λ g l. b.kept g (omega (arith, l, inv.since)) ∙ inv.groups g l;
      before = before_more gs hs old own from k c.loop-k.groups.len c.begin_group.new.groups.len c.index.result.now c.requires.rise (omega arith) (omega arith) inv.start inv.covered inv.first inv.sums inv.before inv.left b.covered b.kept b.new b.place base;
      first = first_more gs hs old own from k c.loop-k.groups.len c.begin_group.new.groups.len c.index.result.now c.requires.rise (omega arith) (omega arith) inv.start inv.covered inv.first inv.sums inv.before inv.left b.covered b.kept b.new b.place base;
      sums = sums_more gs hs old own from k c.loop-k.groups.len c.begin_group.new.groups.len c.index.result.now c.requires.rise (omega arith) (omega arith) inv.start inv.covered inv.first inv.sums inv.before inv.left b.covered b.kept b.new b.place base;
      left = left_more gs hs old own from k c.loop-k.groups.len c.begin_group.new.groups.len c.index.result.now c.requires.rise (omega arith) (omega arith) inv.start inv.covered inv.first inv.sums inv.before inv.left b.covered b.kept b.new b.place base;
      room = omega (arith, inv.room, b.capacity);
    }
