use Rattle.std.proofs.Common.{◌≡◌, ◌<◌, ◌^◌, ◌∙◌, sym, arith, add-one, true, false, get_or}
use Rattle.std.specs.Char.{is_ascii_digit}
use Rattle.dsa_model.proofs.NumberLemmas.{digits-more, not-number, value-small, value-more}
use Rattle.dsa_model.proofs.number.parse_number.Goals as goal

pub returns-then-not-is_ascii_digit-clause-number : goal.returns-then-not-is_ascii_digit-clause-number
returns-then-not-is_ascii_digit-clause-number c =
    let no : is_ascii_digit (get_or c.args.bytes.now c.loop-byte.byte-index 0) ≡ false =
    sym c.is_ascii_digit.ensures.value ∙ c.if-not-is_ascii_digit.true in
    not-number _ _ c.loop-byte.byte-index c.loop-byte-test.true no

pub overflow_mul-value : goal.overflow_mul-value
overflow_mul-value c =
    let small : c.loop-byte.value < 10 ^ 19 =
    rw c.loop-byte.invariant.1
    (value-small c.args.bytes.now c.loop-byte.byte-index
    (omega arith) c.loop-byte-test.true c.loop-byte.invariant.0) in
    omega arith

pub overflow_add-value : goal.overflow_add-value
overflow_add-value c =
    let small : c.loop-byte.value < 10 ^ 19 =
    rw c.loop-byte.invariant.1
    (value-small c.args.bytes.now c.loop-byte.byte-index
    (omega arith) c.loop-byte-test.true c.loop-byte.invariant.0) in
    let byte = c.type_inv.bytes c.loop-byte.byte-index in
    omega arith

pub loop-byte-preserved : goal.loop-byte-preserved
loop-byte-preserved c =
    let yes : is_ascii_digit (get_or c.args.bytes.now c.loop-byte.byte-index 0) ≡ true =
    sym c.is_ascii_digit.ensures.value ∙ c.if-not-is_ascii_digit.false in (
      rw add-one (digits-more c.args.bytes.now c.loop-byte.byte-index c.loop-byte.invariant.0 c.loop-byte-test.true
          yes),
      value-more c.args.bytes.now c.loop-byte.byte-index c.loop-byte.value c.loop-byte-test.true yes
          c.loop-byte.invariant.1,
    )
