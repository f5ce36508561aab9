use Rattle.std.proofs.Common.{rules, refl}
use Rattle.dsa_terms.proofs.Places.{handed}
use Rattle.lower_bounds.specs.Best.{IsBest}
use Rattle.lower_bounds.proofs.SoFar.{best_all, best_more}
use Rattle.lower_bounds.proofs.Reaching.{BoundLaws, capacity, height, is_bound, modulus, moment}
use Rattle.lower_bounds.proofs.highest.bound.Goals as goal

pub loop-modulus-preserved : goal.loop-modulus-preserved
loop-modulus-preserved c = (
  best_more c.args.instance.now c.args.sections.now c.deref-modulus-items.result.now
      c.loop-modulus.modulus-index _ c.loop-modulus.best c.raised-best.result
      (rw c.deref-modulus-items.ensures.value c.in_ok-candidates.ensures.rises) c.loop-modulus-test.true refl
      c.loop-modulus.invariant.0 c.raised-best.ensures.raised,
  rw (handed c.raised-best.new.tallies _ c.loop-modulus.tallies.len (search rules)) c.raised-best.ensures.count,
)

pub returns : goal.returns
returns c =
    let I = c.args.instance.now in
    let S = c.args.sections.now in
    let candidates = c.in_ok-candidates.candidates.items in
    let b = c.loop-modulus.best in
    let laws : BoundLaws I = record {
      positive = c.bound_is_low.ensures.positive I;
      most = c.bound_is_low.ensures.most I;
      among = c.bound_modulus_is_least.ensures.among I;
      reaches = c.bound_modulus_is_least.ensures.reaches I;
      least = c.bound_modulus_is_least.ensures.least I;
      same = c.sections_reach_the_bound.ensures.same I;
      height = c.sections_reach_the_bound.ensures.height I;
      lowest = c.sections_reach_the_bound.ensures.lowest I;
    } in
    let buffers = c.len-buffers.ensures.buffers in
    let same = c.in_ok-candidates.ensures.same in
    let best : IsBest I S candidates b = best_all I S candidates c.loop-modulus.modulus-index b
    (rw c.deref-modulus-items.ensures.value at c.loop-modulus-test.false)
    (rw c.deref-modulus-items.ensures.value at c.loop-modulus.invariant.0) in
    record {
      capacity = capacity I S candidates b laws c.requires buffers same best;
      modulus = modulus I S candidates b laws c.requires buffers same best;
      moment = moment I S candidates b laws c.requires buffers same best;
      height = height I S candidates b laws c.requires buffers same best;
      bound = is_bound I S candidates b laws c.requires buffers same best;
    }
