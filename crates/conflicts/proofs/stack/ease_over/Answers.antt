use Rattle.std.proofs.Common.{◌∙◌, refl}
use Rattle.dsa_terms.specs.Logs.{stacked}
use Rattle.conflicts.proofs.OverLines.{from_bounds, from_count, from_is_claim, height_is, most_within, pairs_are}
use Rattle.conflicts.proofs.stack.ease_over.Goals as goal

pub overflow_sub-stack : goal.overflow_sub-stack
overflow_sub-stack c =
    rw (c.in_ok-stack.ensures.sum, c.in_ok-stack.ensures.most)
    (most_within c.args.instance.now c.args.moment c.args.modulus
    (stacked c.args.instance.now c.args.claim.now c.args.moment c.args.height c.args.modulus))

pub from_vec-claim-requires-clause-rises : goal.from_vec-claim-requires-clause-rises
from_vec-claim-requires-clause-rises c =
    rw (pairs_are c.next_multiple_of-height.result
    (stacked c.args.instance.now c.args.claim.now c.args.moment c.args.height c.args.modulus) _ _
    (c.deref.ensures.value ∙ c.in_ok-stack.ensures.members) c.in_ok-pairs.ensures)
    (from_is_claim c.args.instance.now c.args.capacity c.args.claim.now c.args.moment c.args.height c.args.modulus
    c.requires.stands c.requires.over c.next_multiple_of-height.result).rises

pub from_vec-claim-requires-clause-count : goal.from_vec-claim-requires-clause-count
from_vec-claim-requires-clause-count c =
    rw (pairs_are c.next_multiple_of-height.result
    (stacked c.args.instance.now c.args.claim.now c.args.moment c.args.height c.args.modulus) _ _
    (c.deref.ensures.value ∙ c.in_ok-stack.ensures.members) c.in_ok-pairs.ensures)
    (from_count c.args.instance.now c.args.capacity c.args.claim.now c.args.moment c.args.height c.args.modulus
    c.requires.stands c.requires.over c.next_multiple_of-height.result)

pub from_vec-claim-requires-clause-bounds : goal.from_vec-claim-requires-clause-bounds
from_vec-claim-requires-clause-bounds c =
    rw (pairs_are c.next_multiple_of-height.result
    (stacked c.args.instance.now c.args.claim.now c.args.moment c.args.height c.args.modulus) _ _
    (c.deref.ensures.value ∙ c.in_ok-stack.ensures.members) c.in_ok-pairs.ensures)
    (from_bounds c.args.instance.now c.args.capacity c.args.claim.now c.args.moment c.args.height c.args.modulus
    c.requires.stands c.requires.over _ c.next_multiple_of-height.result
    (height_is c.args.instance.now c.args.capacity c.args.modulus
    (stacked c.args.instance.now c.args.claim.now c.args.moment c.args.height c.args.modulus) _ _ _ _
    c.in_ok-stack.ensures.sum c.in_ok-stack.ensures.most c.saturating_sub-above.ensures
    c.next_multiple_of-height.ensures.value)
    c.requires.height_limit)

pub returns : goal.returns
returns c =
    let s = stacked c.args.instance.now c.args.claim.now c.args.moment c.args.height c.args.modulus in
    let h = height_is c.args.instance.now c.args.capacity c.args.modulus s _ _ _ _ c.in_ok-stack.ensures.sum
    c.in_ok-stack.ensures.most c.saturating_sub-above.ensures c.next_multiple_of-height.ensures.value in
    let p = pairs_are c.next_multiple_of-height.result s _ _
    (c.deref.ensures.value ∙ c.in_ok-stack.ensures.members) c.in_ok-pairs.ensures in
    rw (c.from_vec-claim.ensures, p, h) refl
