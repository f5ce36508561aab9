use Rattle.search_core.proofs.Words.{last_claim}
use Rattle.dsa_search_laws.proofs.Search.{first_empty}
use Rattle.branching.specs.Tries.{order_of}
use Rattle.branching.proofs.ChoiceEntries.{order_entries}
use Rattle.branching.proofs.Descent.{is_instance}
use Rattle.branching.proofs.Searching.{are_choices}
use Rattle.branching.proofs.Uncovered.{covered_has_none, covers_less}
use Rattle.search_core.proofs.opening.open.Goals as goal

pub returns-then-is_empty-clause-opened : goal.returns-then-is_empty-clause-opened
returns-then-is_empty-clause-opened c =
    rw (c.is_empty.ensures.none _ _ c.requires.levels c.if-is_empty.true) (first_empty _ _)

pub append-requires-clause-legal : goal.append-requires-clause-legal
append-requires-clause-legal c =
    let r = rw c.in-Some.is at c.in_ok-line.ensures.some in r.legal c.args.log.now.lines

pub append-requires-clause-fresh : goal.append-requires-clause-fresh
append-requires-clause-fresh c =
    let s = rw (c.instance.ensures.value, c.requires.subject) at c.instance.ensures.stands in
    let r = rw c.in-Some.is at c.in_ok-line.ensures.some in
    covers_less _ _ _ _ (is_instance _ _ s) r.covers c.requires.fresh

pub returns-in_ok-append-in-Some-clause-opened : goal.returns-in_ok-append-in-Some-clause-opened
returns-in_ok-append-in-Some-clause-opened c =
    let s = rw (c.instance.ensures.value, c.requires.subject) at c.instance.ensures.stands in
    let r = rw c.in-Some.is at c.in_ok-line.ensures.some in
    let h = c.in_ok-append-in-Some.ensures.covered _ r.covers in
    record { none = covered_has_none _ _ _ _ _ s c.in_ok-append-in-Some.ensures.log h; covered = h }

pub returns-in-None-clause-opened : goal.returns-in-None-clause-opened
returns-in-None-clause-opened c =
    let I = c.args.task.now.instance.now in
    let l = last_claim c.args.sky.now.claims in
    let s = rw (c.instance.ensures.value, c.requires.subject) at c.instance.ensures.stands in
    let some = c.is_empty.ensures.some I l c.requires.levels c.if-is_empty.false in
    let none = rw c.in-None.is at c.in_ok-line.ensures.none in
    are_choices I _ l _ (order_of I l) _ s.claim some none (order_entries I l s.claim.rises) c.requires.fresh
