use Rattle.std.proofs.Common.{ℕ, ◌+◌, ◌-◌, refl, arith}
use Rattle.log_text.specs.declared.raw.RawCite.{RawCite}
use Rattle.log_text.specs.declared.raw.RawCite.TheVariants as raw_cite
use Rattle.log_text.proofs.Rising.{rise_back, rise_end, rise_there}
use Rattle.log_text.proofs.limits.cites_rise.Goals as goal

pub returns-then-cites-place : goal.returns-then-cites-place
returns-then-cites-place c = (
  λ t. absurd cc,
  λ h. absurd (omega (
    arith,
    rise_there (λ (p : ℕ × RawCite). p.0) c.args.cites.now
        c.loop-place.place (c.loop-place.place - 1) (0, raw_cite.Line 0) (omega arith) c.loop-place-test.true h,
  )),
)

pub loop-place-preserved : goal.loop-place-preserved
loop-place-preserved c = λ h. c.loop-place.invariant
    (rise_back (λ (p : ℕ × RawCite). p.0) c.args.cites.now c.loop-place.place (c.loop-place.place - 1)
    (c.loop-place.place + 1 - 1) (0, raw_cite.Line 0) (omega arith) (omega arith) c.loop-place-test.true
    c.if-cites-place.false h)

pub returns : goal.returns
returns c = (
  λ t. c.loop-place.invariant (rise_end (λ (p : ℕ × RawCite). p.0) c.args.cites.now
      (c.loop-place.place - 1) (omega arith)),
  λ h. refl,
)
