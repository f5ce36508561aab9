use Rattle.std.proofs.Common.{leb, ltb, rules}
use Rattle.std.proofs.lemmas.List.Sorted.{IsPartitionPoint-from_clause, IsPartitionedBy-leb, IsPartitionedBy-ltb}
use Rattle.layout_picture.specs.Sides.{has_later}
use Rattle.layout_picture.specs.declared.touching.Pair.{Pair}
use Rattle.layout_picture.proofs.PairLemmas.{later_is, up_to}
use Rattle.layout_picture.proofs.Parting.{part_between, points_rise}
use Rattle.layout_picture.proofs.touching.pairs_of.Goals as goal

pub slice_bounds-result-count : goal.slice_bounds-result-count
slice_bounds-result-count c =
    points_rise (λ (p : Pair). ltb p.later c.args.b) (λ (p : Pair). leb p.later c.args.b) c.args.pairs.now
    c.partition_point-first.result c.partition_point-end.result (up_to c.args.b)
    (IsPartitionPoint-from_clause (λ (p : Pair). ltb p.later c.args.b) c.args.pairs.now c.partition_point-first.result
    c.partition_point-first.ensures.partitioned (IsPartitionedBy-ltb (λ (p : Pair). p.later) c.args.pairs.now c.args.b
    c.requires) (λ a r q k. search rules))
    (IsPartitionPoint-from_clause (λ (p : Pair). leb p.later c.args.b) c.args.pairs.now c.partition_point-end.result
    c.partition_point-end.ensures.partitioned (IsPartitionedBy-leb (λ (p : Pair). p.later) c.args.pairs.now c.args.b
    c.requires) (λ a r q k. search rules))
    c.partition_point-first.ensures.bound

pub slice_bounds-result-start : goal.slice_bounds-result-start
slice_bounds-result-start c = let k = slice_bounds-result-count c in search rules

pub returns : goal.returns
returns c =
    part_between (λ (p : Pair). ltb p.later c.args.b) (λ (p : Pair). leb p.later c.args.b) (has_later c.args.b)
    c.args.pairs.now c.partition_point-first.result c.partition_point-end.result (up_to c.args.b) (later_is c.args.b)
    (IsPartitionPoint-from_clause (λ (p : Pair). ltb p.later c.args.b) c.args.pairs.now c.partition_point-first.result
    c.partition_point-first.ensures.partitioned (IsPartitionedBy-ltb (λ (p : Pair). p.later) c.args.pairs.now c.args.b
    c.requires) (λ a r q k. search rules))
    (IsPartitionPoint-from_clause (λ (p : Pair). leb p.later c.args.b) c.args.pairs.now c.partition_point-end.result
    c.partition_point-end.ensures.partitioned (IsPartitionedBy-leb (λ (p : Pair). p.later) c.args.pairs.now c.args.b
    c.requires) (λ a r q k. search rules))
    c.partition_point-first.ensures.bound c.partition_point-end.ensures.bound
