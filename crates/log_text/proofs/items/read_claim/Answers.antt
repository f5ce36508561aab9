use Rattle.std.proofs.Common.{◌∙◌}
use Rattle.log_text.specs.RawTexts.{pair_text}
use Rattle.log_text.specs.Reading.{capped_pair}
use Rattle.log_text.proofs.ListLemmas.{more_read, no_end, no_first, no_more, one_read}
use Rattle.log_text.proofs.PrefixFree.{pairs_are_items}
use Rattle.log_text.proofs.items.read_claim.Goals as goal

pub returns-in_default : goal.returns-in_default
returns-in_default c = no_first pair_text _ _ c.requires c.in_default.ensures.none

pub loop-cursor-init : goal.loop-cursor-init
loop-cursor-init c = one_read pair_text capped_pair _ _ _ _ _ c.in-Some.ensures.some c.clear.ensures.items
    c.in_ok-push.ensures.items

pub returns-in_default-read_pair : goal.returns-in_default-read_pair
returns-in_default-read_pair c =
    no_more pair_text capped_pair pairs_are_items _ _ c.loop-cursor.room.items _ _ c.requires
    c.loop-cursor.invariant c.loop-cursor-test.ensures.0 c.loop-cursor-test.ensures.1
    c.in_default-read_pair.ensures.none

pub loop-cursor-preserved : goal.loop-cursor-preserved
loop-cursor-preserved c =
    more_read pair_text capped_pair _ _ _ _ _ _ _ c.loop-cursor.invariant c.loop-cursor-test.ensures.0
    c.in-Some-read_pair.ensures.some c.in_ok-push-2.ensures.items

pub returns-then-not-take : goal.returns-then-not-take
returns-then-not-take c =
    no_end pair_text capped_pair pairs_are_items _ _ c.loop-cursor.room.items _ c.requires c.loop-cursor.invariant
    c.loop-cursor-test.ensures.1 (λ r e. c.if-not-take.ensures.1 r (c.loop-cursor-test.ensures.0 ∙ e))
