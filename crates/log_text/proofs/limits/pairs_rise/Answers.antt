use Rattle.std.proofs.Common.{◌+◌, ◌-◌, refl, arith}
use Rattle.dsa_terms.specs.Claims.{Entry}
use Rattle.log_text.proofs.Rising.{rise_back, rise_end, rise_there}
use Rattle.log_text.proofs.limits.pairs_rise.Goals as goal

pub returns-then-pairs-place : goal.returns-then-pairs-place
returns-then-pairs-place c = (
  λ t. absurd cc,
  λ h. absurd (omega (
    arith,
    rise_there (λ (p : Entry). p.0) c.args.pairs.now c.loop-place.place
        (c.loop-place.place - 1) (0, 0) (omega arith) c.loop-place-test.true h,
  )),
)

pub loop-place-preserved : goal.loop-place-preserved
loop-place-preserved c = λ h. c.loop-place.invariant
    (rise_back (λ (p : Entry). p.0) c.args.pairs.now c.loop-place.place (c.loop-place.place - 1)
    (c.loop-place.place + 1 - 1) (0, 0) (omega arith) (omega arith) c.loop-place-test.true c.if-pairs-place.false h)

pub returns : goal.returns
returns c = (
  λ t. c.loop-place.invariant (rise_end (λ (p : Entry). p.0) c.args.pairs.now (c.loop-place.place - 1)
      (omega arith)),
  λ h. refl,
)
