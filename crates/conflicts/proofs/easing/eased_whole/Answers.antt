use Rattle.refute_log.specs.Lines.{cite_value}
use Rattle.conflicts.proofs.CasesLines.{line_is_lower}
use Rattle.conflicts.proofs.Easings.{cites_of_all}
use Rattle.conflicts.proofs.easing.eased_whole.Goals as goal

pub eased_cites-requires-clause-each : goal.eased_cites-requires-clause-each
eased_cites-requires-clause-each c =
    rw c.in_ok-lows.ensures.claim (cites_of_all _ cite_value _ _ c.requires.legal)

pub returns : goal.returns
returns c =
    line_is_lower _ _ _ _ _ _ c.in_ok-lows.ensures.instance c.in_ok-lows.ensures.claim
    (c.requires.stands).claim.rises c.requires.some
    (c.in_ok-eased.ensures.legal c.args.log.now.lines
    (rw (c.in_ok-lows.ensures.instance, c.in_ok-lows.ensures.claim) c.requires.legal))
    c.in_ok-eased.ensures.own
