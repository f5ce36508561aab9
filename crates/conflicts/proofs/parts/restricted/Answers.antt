use Rattle.std.proofs.Common.{◌≡◌, ◌≤◌, false, filter, length, slice_index_or, ap, arith}
use Rattle.dsa_terms.specs.Claims.{Entry}
use Rattle.dsa_terms.proofs.Lists.{from_filter, length-filter_le}
use Rattle.conflicts.proofs.ListSteps.{filter_all}
use Rattle.conflicts.proofs.LowerClaims.{lower_filter}
use Rattle.canonical_order.proofs.Places.{has_at}
use Rattle.conflicts.proofs.parts.restricted.Goals as goal
use Rattle.conflicts.proofs.parts.restricted.Goals.{After-loop-place}

pub bounds-marks-all : goal.bounds-marks-all
bounds-marks-all c =
    let v = c.pairs-all.ensures.value in
    rw c.requires.marks (c.args.lows.now.in_range _ (has_at c.args.lows.now.claim.now _ _ v
    (let len = ap length v in let each = c.requires.each in omega arith)))

kept : (c : After-loop-place) →
    c.loop-place.pairs.items
    ≡ filter (λ (e : Entry). slice_index_or c.args.marks.now e.0 false) c.args.lows.now.claim.now
kept c =
    let each = c.requires.each in
    let le : length c.args.lows.now.claim.now ≤ c.loop-place.place = omega arith in
    filter_all (λ (e : Entry). slice_index_or c.args.marks.now e.0 false)
    c.args.lows.now.claim.now c.loop-place.place _ le c.loop-place.invariant.left

pub from_vec-claim-requires-clause-rises : goal.from_vec-claim-requires-clause-rises
from_vec-claim-requires-clause-rises c =
    let p = λ (e : Entry). slice_index_or c.args.marks.now e.0 false in
    rw (kept c) ((lower_filter p c.args.lows.now.claim.now c.pairs-all.ensures.kept.rises).rises)

pub from_vec-claim-requires-clause-count : goal.from_vec-claim-requires-clause-count
from_vec-claim-requires-clause-count c =
    let p = λ (e : Entry). slice_index_or c.args.marks.now e.0 false in
    rw (kept c)
    (let k = length-filter_le p c.args.lows.now.claim.now in let n = c.pairs-all.ensures.kept.count in omega arith)

pub from_vec-claim-requires-clause-bounds : goal.from_vec-claim-requires-clause-bounds
from_vec-claim-requires-clause-bounds c =
    let p = λ (e : Entry). slice_index_or c.args.marks.now e.0 false in
    rw (kept c) (λ e i. c.requires.bounds e (from_filter p c.args.lows.now.claim.now e i).0)

pub returns-clause-lower : goal.returns-clause-lower
returns-clause-lower c =
    let p = λ (e : Entry). slice_index_or c.args.marks.now e.0 false in
    let l = c.args.lows.now.claim.now in
    let each = c.requires.each in
    let le : length l ≤ c.loop-place.place = omega arith in
    let all = filter_all p l c.loop-place.place _ le c.loop-place.invariant.left in
    rw (c.from_vec-claim.ensures, all) (lower_filter p l c.pairs-all.ensures.kept.rises)
