use Rattle.std.proofs.Common.{◌≡◌, ◌∙◌, ◌+◌, ◌++◌, ◌∷◌, [], length, ap, rules, arith}
use Rattle.std.specs.Prelude.{nat_lt}
use Rattle.std.proofs.lemmas.List.Sorted.{IsPartitionPoint-from_clause, IsPartitionedBy-ltb}
use Rattle.present_links.specs.Links.{ends_in}
use Rattle.present_links.specs.Adjacent.{ways_before}
use Rattle.present_links.proofs.SortedPlaces.{climbs_by, parted_at}
use Rattle.present_links.proofs.WayLists.{first_start, next_start}
use Rattle.present_links.proofs.Ways.{links_climb, before_links}
use Rattle.present_links.proofs.neighbour_rows.starts_of.Goals as goal

pub loop-v-init : goal.loop-v-init
loop-v-init c =
    let one : c.push.new.self.items ≡ 0 ∷ [] = c.in_ok-push.ensures.items ∙ ap (λ xs. xs ++ 0 ∷ []) c.new-starts.ensures.items in
    record { count = ap length one; starts = first_start (ends_in c.args.ways.now) c.push.new.self.items one }

pub loop-v-preserved : goal.loop-v-preserved
loop-v-preserved c =
    let more = c.in_ok-push-2.ensures in
    let point : c.partition_point.result ≡ ways_before (ends_in c.args.ways.now) (c.loop-v.v + 1) = (
    parted_at (λ way. nat_lt way.src (c.loop-v.v + 1)) c.args.ways.now c.partition_point.result c.partition_point.ensures.bound
    (IsPartitionPoint-from_clause (λ way. nat_lt way.src (c.loop-v.v + 1)) c.args.ways.now c.partition_point.result c.partition_point.ensures.partitioned
    (IsPartitionedBy-ltb (λ way. way.src) c.args.ways.now (c.loop-v.v + 1) (climbs_by (λ way. way.src) c.args.ways.now (links_climb c.args.ways.now c.requires.rise)))
    (λ a r f' k. search rules))
    ∙ before_links c.args.ways.now (c.loop-v.v + 1)
    ) in
    record {
      count = (let long = ap length more.items in let was = c.loop-v.invariant.count in omega (arith, more.len, was));
      starts = next_start (ends_in c.args.ways.now) c.loop-v.starts.items c.push-in-loop-v.new.self.items c.loop-v.v c.partition_point.result c.loop-v.invariant.count c.loop-v.invariant.starts more.items point;
    }
