use Rattle.std.proofs.Common.{◌≡◌, ℕ, true, false, leb, rules, sym, ◌∙◌, arith}
use Rattle.std.specs.List.Sorted.{IsPartitionPoint}
use Rattle.std.proofs.lemmas.List.Sorted.{IsPartitionPoint-from_clause}
use Rattle.dsa_terms.proofs.NumberTests.{not_below}
use Rattle.dsa_model.proofs.LiveRanges.{are_parted, in_none, in_one}
use Rattle.dsa_model.proofs.live_ranges.is_in.Goals as goal

pub returns-then-place-ranges : goal.returns-then-place-ranges
returns-then-place-ranges c =
    let p : IsPartitionPoint (λ (r : ℕ × ℕ). leb r.1 c.args.t ≡ true) (λ (r : ℕ × ℕ). leb r.1 c.args.t ≡ false)
    c.args.ranges.now c.partition_point-place.result =
    IsPartitionPoint-from_clause (λ (r : ℕ × ℕ). leb r.1 c.args.t) c.args.ranges.now c.partition_point-place.result
    c.partition_point-place.ensures.partitioned (are_parted c.args.ranges.now c.args.t c.requires)
    (λ a r q k. search rules) in
    sym (in_one 0 c.args.ranges.now c.args.t c.partition_point-place.result (0, 0) c.requires
    (λ i e l. p.0 i e (omega arith) l) (p.1 c.partition_point-place.result (0, 0) (omega arith) c.if-place-ranges.true)
    c.if-place-ranges.true)

pub returns-else-place-ranges : goal.returns-else-place-ranges
returns-else-place-ranges c =
    not_below _ _ c.if-place-ranges.false
    ∙ sym (in_none c.args.ranges.now c.args.t c.partition_point-place.result
    (IsPartitionPoint-from_clause (λ (r : ℕ × ℕ). leb r.1 c.args.t) c.args.ranges.now c.partition_point-place.result
    c.partition_point-place.ensures.partitioned (are_parted c.args.ranges.now c.args.t c.requires)
    (λ a r q k. search rules)) c.if-place-ranges.false)
