use Rattle.std.proofs.Common.{rules, arith}
use Rattle.std.specs.Prelude.{nat_lt}
use Rattle.std.proofs.lemmas.List.Sorted.{IsPartitionPoint-from_clause, IsPartitionedBy-ltb}
use Rattle.present_links.proofs.SortedPlaces.{climbs_by, parted_at}
use Rattle.present_links.proofs.AmongNumbers.{climbs_numbers, place_small}
use Rattle.present_links.proofs.neighbour_rows.place_in.Goals as goal

pub returns-clause-place : goal.returns-clause-place
returns-clause-place c =
    parted_at (λ m. nat_lt m c.args.n) c.args.numbers.now c.partition_point.result c.partition_point.ensures.bound
    (IsPartitionPoint-from_clause (λ m. nat_lt m c.args.n) c.args.numbers.now c.partition_point.result c.partition_point.ensures.partitioned
    (IsPartitionedBy-ltb (λ m. m) c.args.numbers.now c.args.n (climbs_by (λ m. m) c.args.numbers.now (climbs_numbers c.args.numbers.now c.requires)))
    (λ a r f' k. search rules))

pub returns-clause-small : goal.returns-clause-small
returns-clause-small c = let is = returns-clause-place c in let small = place_small c.args.numbers.now c.args.n c.requires in omega (arith, is, small)
