use Rattle.std.proofs.Common.{◌≡◌, ◌==◌, ◌∙◌, ℕ, false, refl, sym, subst, rules}
use Rattle.std.specs.List.{list_any}
use Rattle.dsa_terms.specs.Claims.{IsIn}
use Rattle.dsa_terms.proofs.Moments.{not_true}
use Rattle.core_find.specs.Looking.{next_member}
use Rattle.core_find.proofs.Without.{by_stack, named_in_range, next_is, not_left, not_there, rises_without_one}
use Rattle.core_find.proofs.known.without_next.Goals as goal

pub returns-then-not-contains-clause-unknown : goal.returns-then-not-contains-clause-unknown
returns-then-not-contains-clause-unknown c i =
    let at = c.args.looking in
    let b = c.index.result.now in
    let next : b ≡ next_member at =
    next_is at at c.len.result b refl refl (c.len.ensures ∙ at.rests.ok.0) c.requires.more c.index.ensures in
    let absent : c.contains.result ≡ false = search (rules, not_true) in
    let none : list_any (λ x. x == b) at.named.items ≡ false =
    rw (← c.deref.ensures.value) (sym c.contains.ensures.value ∙ absent) in
    absurd (not_there b at.named.items none (subst (λ (x : ℕ). IsIn x at.named.items) (sym next) i))

pub stack_log-requires-clause-rises : goal.stack_log-requires-clause-rises
stack_log-requires-clause-rises c =
    rw (c.deref-3.ensures.value, c.in_ok-few.ensures, c.deref-2.ensures.value)
    (rises_without_one c.index.result.now _ c.requires.looking.names.rise)

pub stack_log-requires-clause-in_range : goal.stack_log-requires-clause-in_range
stack_log-requires-clause-in_range c =
    rw (c.deref-3.ensures.value, c.in_ok-few.ensures, c.deref-2.ensures.value)
    (named_in_range c.args.instance.now c.args.capacity c.args.looking.members.items _ c.index.result.now
    c.requires.looking.looked.in_range c.requires.looking.names)

pub returns-in_ok-all-in-Some-clause-looking : goal.returns-in_ok-all-in-Some-clause-looking
returns-in_ok-all-in-Some-clause-looking c =
    let stack = rw c.in-Some.is at c.in_ok-stack_log.ensures.log in
    by_stack c.args.instance.now c.args.capacity c.index.result.now c.args.looking c.in_ok-few.few
    c.in_ok-all-in-Some.all c.in-Some.log c.len-count.ensures.buffers c.requires.looking
    (c.in_ok-few.ensures ∙ rw c.deref-2.ensures.value refl) c.in_ok-all-in-Some.ensures
    (rw (← c.deref-3.ensures.value) stack)

pub returns-in_ok-all-in-Some-clause-unknown : goal.returns-in_ok-all-in-Some-clause-unknown
returns-in_ok-all-in-Some-clause-unknown c i =
    let at = c.args.looking in
    let b = c.index.result.now in
    let next : b ≡ next_member at =
    next_is at at c.len.result b refl refl (c.len.ensures ∙ at.rests.ok.0) c.requires.more c.index.ensures in
    absurd (not_left b (next_member at) c.in_ok-few.few.items c.deref-2.result.now c.in_ok-few.ensures next i)
