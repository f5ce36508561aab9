use Rattle.std.proofs.Common.{◌≡◌, ◌∙◌, length, map, sym}
use Rattle.dsa_terms.specs.Buffers.{Instance}
use Rattle.dsa_terms.specs.Claims.{Claim}
use Rattle.std.proofs.lemmas.List.{length-map}
use Rattle.canonical_order.specs.Stands.{Stands}
use Rattle.refute_log.specs.Lines.{cite_value, line_value}
use Rattle.conflicts.specs.Eased.{IsLower, lowered}
use Rattle.conflicts.proofs.CasesLines.{lower_line, lower_whole}
use Rattle.conflicts.proofs.Easings.{cites_of_all}
use Rattle.conflicts.proofs.LeastBounds.{lowered_is_lower, lowered_legal}
use Rattle.conflicts.proofs.LowerClaims.{lower_bounded, lower_stands}
use Rattle.conflicts.proofs.easing.ease_cases.Goals as goal

-- the least bounds are no higher
least : (I : Instance) (l k : Claim) → Stands I l → k ≡ map (lowered I) l → IsLower l k
least I l k s q = rw q (lowered_is_lower I l s)

same_length : (I : Instance) (l k : Claim) → k ≡ map (lowered I) l → length k ≡ length l
same_length I l k q = rw q (length-map l (lowered I))

pub eased_part-requires-clause-stands : goal.eased_part-requires-clause-stands
eased_part-requires-clause-stands c =
    lower_stands _ _ _ c.requires.stands (least _ _ _ c.requires.stands c.in_ok-least.ensures)

pub eased_part-requires-clause-bounds : goal.eased_part-requires-clause-bounds
eased_part-requires-clause-bounds c =
    lower_bounded _ _ _ c.requires.stands (least _ _ _ c.requires.stands c.in_ok-least.ensures) _ c.requires.bounds

pub eased_part-requires-clause-each : goal.eased_part-requires-clause-each
eased_part-requires-clause-each c =
    cites_of_all _ cite_value _ _ c.requires.legal ∙ sym (same_length _ _ _ c.in_ok-least.ensures)

pub eased_whole-requires-clause-stands : goal.eased_whole-requires-clause-stands
eased_whole-requires-clause-stands c =
    lower_stands _ _ _ c.requires.stands (least _ _ _ c.requires.stands c.in_ok-least.ensures)

pub eased_whole-requires-clause-legal : goal.eased_whole-requires-clause-legal
eased_whole-requires-clause-legal c =
    rw c.in_ok-least.ensures
    (lowered_legal c.args.instance.now c.args.claim.now c.requires.stands c.args.log.now.lines _ c.requires.legal)

pub returns-in-Some : goal.returns-in-Some
returns-in-Some c =
    lower_line _ _ _ _ _ (least _ _ _ c.requires.stands c.in_ok-least.ensures)
    (rw c.in-Some.is at c.in_ok-line.ensures)

pub returns-in-None : goal.returns-in-None
returns-in-None c =
    lower_whole line_value _ _ _ _ _ (least _ _ _ c.requires.stands c.in_ok-least.ensures) c.eased_whole.ensures
