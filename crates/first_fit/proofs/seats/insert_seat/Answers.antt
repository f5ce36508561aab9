use Rattle.std.proofs.Common.{rules}
use Rattle.std.proofs.lemmas.List.Sorted.{IsPartitionPoint-from_clause, IsPartitionedBy-leb}
use Rattle.first_fit.specs.declared.seats.Seat.{Seat}
use Rattle.first_fit.proofs.Seating.{one_more, starts_by, stay_in_order}
use Rattle.first_fit.proofs.seats.insert_seat.Goals as goal

pub returns-clause-order : goal.returns-clause-order
returns-clause-order c = stay_in_order c.args.seats.now.items _ c.partition_point-place.result c.args.seat c.requires
    (rw c.deref.ensures.value at c.partition_point-place.ensures.bound)
    (IsPartitionPoint-from_clause (starts_by c.args.seat.span.start) c.args.seats.now.items
    c.partition_point-place.result (rw c.deref.ensures.value at c.partition_point-place.ensures.partitioned)
    (IsPartitionedBy-leb (λ (s : Seat). s.span.start) c.args.seats.now.items c.args.seat.span.start c.requires)
    (λ a r q k. search rules)) c.in_ok-insert.ensures.items

pub returns-clause-appended : goal.returns-clause-appended
returns-clause-appended c = one_more _ _ _ _ c.in_ok-insert.ensures.items
