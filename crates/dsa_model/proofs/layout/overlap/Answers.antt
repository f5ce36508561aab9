use Rattle.std.proofs.Common.{sym, arith}
use Rattle.dsa_model.proofs.LayoutFaults.{no_overlap_of_apart, overlap_at, no_overlap_of_none}
use Rattle.dsa_model.proofs.layout.overlap.Goals as goal

pub returns-then-are_apart : goal.returns-then-are_apart
returns-then-are_apart c =
    sym (no_overlap_of_apart _ _ _ _ _ _ _ c.are_apart.ensures c.buffer-b.ensures.value c.buffer-c.ensures.value
    c.if-are_apart.true)

pub returns-in-Some : goal.returns-in-Some
returns-in-Some c =
    sym (overlap_at _ _ _ _ _ _ _ _ c.are_apart.ensures c.buffer-b.ensures.value c.buffer-c.ensures.value
    c.if-are_apart.false c.in-Some.ensures.moment)

pub returns-in-None : goal.returns-in-None
returns-in-None c =
    sym (no_overlap_of_none _ _ _ _ _ _ c.buffer-b.ensures.value c.buffer-c.ensures.value
    (λ t. c.in-None.ensures.moment t (omega arith)))
