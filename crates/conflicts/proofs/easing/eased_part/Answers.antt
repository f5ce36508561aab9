use Rattle.refute_log.specs.Lines.{line_value}
use Rattle.conflicts.proofs.CasesLines.{lower_answer, lower_line}
use Rattle.conflicts.proofs.LowerClaims.{lower_again, lower_bounded, lower_stands}
use Rattle.conflicts.proofs.easing.eased_part.Goals as goal

pub part_of-requires-clause-bounds : goal.part_of-requires-clause-bounds
part_of-requires-clause-bounds c = rw c.in_ok-lows.ensures.claim c.requires.bounds

pub needed-requires-clause-stands : goal.needed-requires-clause-stands
needed-requires-clause-stands c =
    lower_stands _ _ _ c.requires.stands (rw c.in_ok-lows.ensures.claim at c.in_ok-part.ensures.lower)

pub needed-requires-clause-bounds : goal.needed-requires-clause-bounds
needed-requires-clause-bounds c =
    lower_bounded _ _ _ c.requires.stands (rw c.in_ok-lows.ensures.claim at c.in_ok-part.ensures.lower) _
    c.requires.bounds

pub legal_line-requires-clause-stands : goal.legal_line-requires-clause-stands
legal_line-requires-clause-stands c =
    lower_stands _ _ _ c.requires.stands
    (lower_again _ _ _ (rw c.in_ok-lows.ensures.claim at c.in_ok-part.ensures.lower) c.in_ok-lower.ensures.lower)

pub legal_line-requires-clause-bounds : goal.legal_line-requires-clause-bounds
legal_line-requires-clause-bounds c =
    lower_bounded _ _ _ c.requires.stands
    (lower_again _ _ _ (rw c.in_ok-lows.ensures.claim at c.in_ok-part.ensures.lower) c.in_ok-lower.ensures.lower) _
    c.requires.bounds

pub returns-in-Some : goal.returns-in-Some
returns-in-Some c =
    lower_line _ _ _ _ _
    (lower_again _ _ _ (rw c.in_ok-lows.ensures.claim at c.in_ok-part.ensures.lower) c.in_ok-lower.ensures.lower)
    (rw c.in-Some.is at c.in_ok-line.ensures)

pub legal_line-requires-in-None-clause-stands : goal.legal_line-requires-in-None-clause-stands
legal_line-requires-in-None-clause-stands c =
    lower_stands _ _ _ c.requires.stands (rw c.in_ok-lows.ensures.claim at c.in_ok-part.ensures.lower)

pub legal_line-requires-in-None-clause-bounds : goal.legal_line-requires-in-None-clause-bounds
legal_line-requires-in-None-clause-bounds c =
    lower_bounded _ _ _ c.requires.stands (rw c.in_ok-lows.ensures.claim at c.in_ok-part.ensures.lower) _
    c.requires.bounds

pub returns : goal.returns
returns c =
    lower_answer line_value _ _ _ _ _ (rw c.in_ok-lows.ensures.claim at c.in_ok-part.ensures.lower)
    c.legal_line-in-None.ensures
