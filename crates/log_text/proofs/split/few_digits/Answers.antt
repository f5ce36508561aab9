use Rattle.std.proofs.Common.{rules, arith}
use Rattle.log_text.proofs.ShortNumbers.{one_digit, two_digits}
use Rattle.log_text.proofs.split.few_digits.Goals as goal

pub returns-then-not-is_ascii_digit-2-clause-some : goal.returns-then-not-is_ascii_digit-2-clause-some
returns-then-not-is_ascii_digit-2-clause-some c = one_digit _ (omega arith) (search rules) (search rules)

pub returns-clause-some : goal.returns-clause-some
returns-clause-some c = two_digits _ (omega arith) (search rules) (search rules) (search rules) (search rules)
