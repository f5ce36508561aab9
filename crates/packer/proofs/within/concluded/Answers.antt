use Rattle.std.proofs.Common.{arith}
use Rattle.packer.proofs.Reaching.{apart, refuted_at}
use Rattle.packer.proofs.within.concluded.Goals as goal

pub returns-then-bracket-capacity-2-clause-value : goal.returns-then-bracket-capacity-2-clause-value
returns-then-bracket-capacity-2-clause-value c steps h =
    let brief = c.in_ok-bracket.ensures in
    let low = brief.low in
    let high = brief.high in
    let from = c.if-bracket-capacity-2.true in
    let below = c.if-bracket-capacity.false in (
      apart c.args.instance.now steps c.args.bracket c.in_ok-bracket.bracket h (brief.between steps h) low high
          (omega arith),
      from,
      omega arith,
    )

pub returns-then-bracket-capacity-2-clause-open : goal.returns-then-bracket-capacity-2-clause-open
returns-then-bracket-capacity-2-clause-open c =
    let low = c.in_ok-bracket.ensures.low in
    let from = c.if-bracket-capacity-2.true in
    let below = c.if-bracket-capacity.false in (omega arith, omega arith)

pub returns-clause-value : goal.returns-clause-value
returns-clause-value c steps h =
    let brief = c.in_ok-bracket.ensures in
    let low = brief.low in
    refuted_at c.args.instance.now c.args.capacity steps c.in_ok-bracket.bracket c.in-Some.log (brief.between steps h)
    c.in-Some.is c.if-bracket-capacity-2.false (let le = c.requires.decided in omega arith)
