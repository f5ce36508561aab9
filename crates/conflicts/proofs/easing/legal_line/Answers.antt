use Rattle.refute_log.specs.Lines.{cite_value}
use Rattle.conflicts.proofs.CasesLines.{line_is_lower}
use Rattle.conflicts.proofs.Easings.{cites_of_all}
use Rattle.conflicts.proofs.easing.legal_line.Goals as goal

pub are_legal-legal-requires-clause-each : goal.are_legal-legal-requires-clause-each
are_legal-legal-requires-clause-each c =
    rw c.as_slice.ensures (cites_of_all _ cite_value _ _ c.in_ok-eased.ensures.own)

pub are_legal-legal-requires-clause-bounds : goal.are_legal-legal-requires-clause-bounds
are_legal-legal-requires-clause-bounds c = rw c.in_ok-lows.ensures.claim c.requires.bounds

pub returns-then-legal : goal.returns-then-legal
returns-then-legal c =
    line_is_lower _ _ _ _ _ _ c.in_ok-lows.ensures.instance c.in_ok-lows.ensures.claim
    (c.requires.stands).claim.rises c.requires.some
    (rw c.as_slice.ensures at (c.are_legal-legal.ensures c.if-legal.true)) c.in_ok-eased.ensures.own
