use Rattle.std.proofs.Common.{◌≡◌, ◌∙◌, ℕ, ◌+◌, false, Bool, drop, length, replicate, slice_index_or, subst, arith, rules}
use Rattle.std.proofs.lemmas.List.{drop_all, length-replicate, length-set}
use Rattle.dsa_terms.specs.Claims.{Claim, buffers_of}
use Rattle.canonical_order.specs.Claims.{HasBuffer}
use Rattle.canonical_order.proofs.Places.{at_place, has_at}
use Rattle.conflicts.proofs.Walking.{AreMarkedBut, all_marked, marked_next, none_marked, nothing_met}
use Rattle.conflicts.proofs.parts.all_unmet.Goals as goal

pub loop-pair-init : goal.loop-pair-init
loop-pair-init c =
    let count = length c.args.lows.now.instance.now in
    let q : c.in_ok-unmet.unmet.items ≡ replicate count false = search rules in
    record {
      count = rw q (length-replicate {A = Bool} count false);
      left = rw q (none_marked count (buffers_of c.args.lows.now.claim.now));
    }

pub index_mut-requires : goal.index_mut-requires
index_mut-requires c =
    let lt = c.args.lows.now.in_range _ (has_at c.args.lows.now.claim.now c.pairs-pair-items.result.now
    c.loop-pair.pair-index c.pairs-pair-items.ensures.value c.loop-pair-test.true) in
    omega (arith, lt, c.loop-pair.invariant.count, c.loop-pair.unmet.ok.0)

pub loop-pair-preserved : goal.loop-pair-preserved
loop-pair-preserved c =
    let l = c.args.lows.now.claim.now in
    let items = c.pairs-pair-items.result.now in
    let n = c.loop-pair.pair-index in
    let v = c.pairs-pair-items.ensures.value in
    let P = λ (b : ℕ). HasBuffer l b in
    record {
      count = length-set _ _ _ ∙ c.loop-pair.invariant.count;
      left = marked_next P (buffers_of (drop (n + 1) l)) (slice_index_or items n (0, 0)).0 c.loop-pair.unmet.items
          (rw c.loop-pair.invariant.count (c.args.lows.now.in_range _ (has_at l items n v c.loop-pair-test.true)))
          (subst (λ (es : Claim). AreMarkedBut P (buffers_of es) c.loop-pair.unmet.items)
          (at_place l items n v c.loop-pair-test.true) c.loop-pair.invariant.left);
    }

pub returns : goal.returns
returns c =
    let l = c.args.lows.now.claim.now in
    let P = λ (b : ℕ). HasBuffer l b in
    nothing_met c.args.lows.now.instance.now l c.loop-pair.unmet.items c.loop-pair.invariant.count
    (all_marked P c.loop-pair.unmet.items
    (subst (λ (es : Claim). AreMarkedBut P (buffers_of es) c.loop-pair.unmet.items)
    (drop_all c.loop-pair.pair-index l (rw c.pairs-pair-items.ensures.value at c.loop-pair-test.false))
    c.loop-pair.invariant.left))
