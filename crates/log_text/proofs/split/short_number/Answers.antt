use Rattle.std.proofs.Common.{rules, get_or, refl, arith}
use Rattle.log_text.proofs.ShortNumbers.{few_digits, next_fits, next_short, short_ends, short_is_all}
use Rattle.log_text.proofs.split.short_number.Goals as goal

pub loop-place-init : goal.loop-place-init
loop-place-init c = (refl, (refl, omega arith))

pub overflow_mul-value : goal.overflow_mul-value
overflow_mul-value c =
    let h = few_digits c.loop-place.place _ (omega arith) c.loop-place.invariant.1.1 in omega arith

pub overflow_add-value : goal.overflow_add-value
overflow_add-value c =
    let h = next_fits c.loop-place.place c.loop-place.value (get_or c.args.bytes.now c.loop-place.place 0)
    (omega arith) c.loop-place.invariant.1.1 (search rules) in
    omega arith

pub loop-place-preserved : goal.loop-place-preserved
loop-place-preserved c = next_short c.args.bytes.now c.loop-place.place _ c.loop-place.invariant.0
    (omega arith) (search rules) c.loop-place.invariant.1.0 c.loop-place.invariant.1.1

pub returns-then-not-is_ascii_digit-clause-some : goal.returns-then-not-is_ascii_digit-clause-some
returns-then-not-is_ascii_digit-clause-some c = short_ends _ _ _ c.loop-place.invariant.0 (omega arith) (search rules)
    c.loop-place.invariant.1.0 c.loop-place.invariant.1.1 (omega arith) (omega arith)
    (search rules)

pub returns-clause-none : goal.returns-clause-none
returns-clause-none c = λ count value p. short_is_all c.args.bytes.now c.loop-place.place count value
    c.loop-place.invariant.0 (λ few. omega arith) p
