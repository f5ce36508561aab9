use Rattle.std.proofs.Common.{◌<◌, ◌↔◌, ◌⊎◌, ℕ, List, length, subst, arith}
use Rattle.dsa_terms.specs.Claims.{IsIn}
use Rattle.conflicts.specs.Walks.{IsMarked}
use Rattle.conflicts.proofs.Walking.{index_in, unmet_again}
use Rattle.conflicts.proofs.parts.walk_from.Goals as goal
use Rattle.conflicts.proofs.parts.walk_from.Goals.{then-turn-len+in_ok-meet_cited, else-turn-len+in-Some+in_ok-meet-in-Some}

pub bounds-cites-b : goal.bounds-cites-b
bounds-cites-b c =
    let met = c.loop.walk.met.items in
    let lt : c.loop.turn < length met =
    omega (arith, c.if-turn-len.true, c.len-in-loop.ensures, c.loop.walk.met.ok.0) in
    rw c.requires.each (c.args.lows.now.in_range _ (c.loop.invariant.of_claim _
    (index_in met c.loop.turn _ c.index-b.ensures lt)))

pub loop-preserved : goal.loop-preserved
loop-preserved c = elim c.if-turn-len.branch [
  | then-turn-len+in_ok-meet_cited w ↦ rw (w.unmet-is, w.walk-is) w.in_ok-meet_cited.ensures
  | else-turn-len+in-Some+in_ok-meet-in-Some w ↦ rw (w.unmet-is, w.walk-is) w.in_ok-meet-in-Some.ensures
]

pub mark-requires : goal.mark-requires
mark-requires c = λ b i.
    rw c.loop.invariant.count (c.args.lows.now.in_range b (c.loop.invariant.of_claim b
    (subst (λ (bs : List ℕ). IsIn b bs) c.as_slice.ensures.value i)))

pub returns-clause-unmet : goal.returns-clause-unmet
returns-clause-unmet c =
    unmet_again _ _ c.loop.unmet c.loop.walk.met.items c.loop.invariant c.mark.new.marks c.mark.ensures.count
    (subst (λ (bs : List ℕ). (b : ℕ) → IsMarked c.mark.new.marks b ↔ (IsMarked c.loop.unmet b ⊎ IsIn b bs))
    c.as_slice.ensures.value c.mark.ensures.each)
