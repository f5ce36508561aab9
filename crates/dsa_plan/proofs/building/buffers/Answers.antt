use Rattle.std.proofs.Common.{◌≡◌, ◌-◌, length, arith, refl}
use Rattle.dsa_plan.specs.Arrays.{arrays_of, buffer_at}
use Rattle.dsa_plan.specs.Faults.{buffers_fault, fault_at}
use Rattle.dsa_plan.proofs.Growing.{built_length, built_more, gaps_more}
use Rattle.dsa_plan.proofs.Failing.{if_fault}
use Rattle.dsa_plan.proofs.Faulty.{gaps_within, none_here, some_here}
use Rattle.dsa_plan.proofs.building.buffers.Goals as goal

pub loop-b-init : goal.loop-b-init
unfolding buffers_fault
loop-b-init c =
    let e : length c.args.arrays.now.lower.now - 0 ≡ length c.args.arrays.now.lower.now = omega arith in
    record { built = c.new-instance.ensures; gaps = refl; sound = rw e refl }

pub gaps_from-gaps-requires : goal.gaps_from-gaps-requires
gaps_from-gaps-requires c =
    let e = c.loop-b.invariant.gaps in
    let le = gaps_within (arrays_of c.args.arrays.now) c.loop-b.b _ c.requires.lengths in
    let n = c.gap_count-count.ensures in omega arith

pub returns-in-Err : goal.returns-in-Err
returns-in-Err c = if_fault _ _ c.in-Err.failure
    (λ f some. some_here (fault_at (arrays_of c.args.arrays.now)) c.loop-b.b _ _ f (omega arith) some
    c.loop-b.invariant.sound) c.in-Err.ensures

pub push-requires : goal.push-requires
push-requires c =
    let l = built_length (buffer_at (arrays_of c.args.arrays.now)) c.loop-b.b _ c.loop-b.invariant.built in
    omega arith

pub loop-b-preserved : goal.loop-b-preserved
loop-b-preserved c =
    let a = arrays_of c.args.arrays.now in
    let le = gaps_within a c.loop-b.b _ c.requires.lengths in
    let e = c.loop-b.invariant.gaps in
    let n = c.gap_count-count.ensures in record {
      built = built_more (buffer_at a) c.loop-b.b _ _ _ c.loop-b.invariant.built c.in-Ok.ensures.0
          c.in_ok-push.ensures.appended;
      gaps = gaps_more a.gap_counts a.gaps _ c.loop-b.b c.loop-b.first c.gap_count-count.result e n (omega arith)
          c.gaps_from-gaps.ensures.gaps;
      sound = none_here (fault_at a) c.loop-b.b _ _ (omega arith) c.in-Ok.ensures.1 c.loop-b.invariant.sound;
    }
