use Rattle.conflicts.proofs.OwnCites.{none_ends_below}
use Rattle.conflicts.proofs.cites.own_cite.Goals as goal

pub returns-in-None : goal.returns-in-None
returns-in-None c = record {
  below = none_ends_below c.args.lows.now.instance.now c.args.lows.now.claim.now c.args.least c.args.b c.requires.stands
      c.requires.least c.requires.b_in (λ h. let k = c.is_below.ensures.1 h in absurd cc);
  twin = c.in-None.ensures;
}
