use Rattle.std.proofs.Common.{rules, refl, sym, arith}
use Rattle.log_text.proofs.ReadLemmas.{fitting_small, next_digit}
use Rattle.log_text.proofs.split.digits_of.Goals as goal

pub loop-place-init : goal.loop-place-init
loop-place-init c = (refl, sym (fitting_small 0 (omega arith)))

pub loop-place-preserved : goal.loop-place-preserved
loop-place-preserved c = next_digit c.args.bytes.now c.loop-place.place _ c.loop-place.invariant.0
    c.loop-place-test.true (search rules) (c.with_digit-value.ensures _ c.loop-place.invariant.1)
