use Rattle.std.proofs.Common.{rules}
use Rattle.std.proofs.lemmas.List.Sorted.{IsPartitionPoint-from_clause}
use Rattle.layout_picture.specs.Sides.{is_before}
use Rattle.layout_picture.proofs.SideOrder.{parted}
use Rattle.layout_picture.proofs.side.count_before.Goals as goal

pub returns-clause-point : goal.returns-clause-point
returns-clause-point c = IsPartitionPoint-from_clause (is_before c.args.line c.args.at) c.args.sides.now
    c.partition_point.result c.partition_point.ensures.partitioned
    (parted c.args.sides.now c.args.line c.args.at c.requires) (λ a r q k. search rules)
