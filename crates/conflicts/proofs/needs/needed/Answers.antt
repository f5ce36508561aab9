use Rattle.std.proofs.Common.{◌≡◌, length, map}
use Rattle.std.proofs.lemmas.Result.{IfOk-weaker}
use Rattle.std.proofs.lemmas.List.{length-map}
use Rattle.conflicts.specs.Eased.{IsLower, cut}
use Rattle.refute_log.specs.Lines.{cite_value}
use Rattle.conflicts.proofs.Easings.{cites_of_all}
use Rattle.conflicts.proofs.LowerClaims.{cut_is_lower}
use Rattle.conflicts.proofs.needs.needed.Goals as goal

pub needs_of-requires : goal.needs_of-requires
needs_of-requires c = rw c.as_slice.ensures (cites_of_all _ cite_value _ _ c.in_ok-eased.ensures.own)

pub returns-clause-lower : goal.returns-clause-lower
returns-clause-lower c =
    IfOk-weaker c.cut.result (λ (made : _). made ≡ map (cut c.deref.result.now) c.args.claim.now)
    (λ (made : _). IsLower c.args.claim.now made)
    (λ made q. rw q (cut_is_lower c.deref.result.now c.args.claim.now (c.requires.stands).claim.rises)) c.cut.ensures

pub returns-clause-count : goal.returns-clause-count
returns-clause-count c =
    IfOk-weaker c.cut.result (λ (made : _). made ≡ map (cut c.deref.result.now) c.args.claim.now)
    (λ (made : _). length made ≡ length c.args.claim.now)
    (λ made q. rw q (length-map c.args.claim.now (cut c.deref.result.now))) c.cut.ensures
