use Rattle.std.proofs.Common.{rules, arith}
use Rattle.dsa_terms.proofs.Numbers.{next_is_least}
use Rattle.lower_bounds.proofs.one_line.line_height.Goals as goal

pub next_multiple_of-requires-clause-fits : goal.next_multiple_of-requires-clause-fits
next_multiple_of-requires-clause-fits c =
    let e = c.saturating_sub-least.ensures in
    let l = c.requires.below in
    let h = c.requires.height in
    let k = next_is_least c.saturating_sub-least.result c.args.bound.modulus c.args.bound.height c.requires.modulus
    (omega arith) c.requires.multiple in
    search rules

pub returns-clause-limit : goal.returns-clause-limit
returns-clause-limit c =
    let e = c.saturating_sub-least.ensures in
    let l = c.requires.below in
    let h = c.requires.height in
    let k = next_is_least c.saturating_sub-least.result c.args.bound.modulus c.args.bound.height c.requires.modulus
    (omega arith) c.requires.multiple in
    let v = c.next_multiple_of.ensures.value in
    omega arith
