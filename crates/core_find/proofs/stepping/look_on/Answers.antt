use Rattle.std.proofs.Common.{◌≡◌, ◌==◌, ◌<◌, ◌∙◌, ℕ, true, false, length, refl, sym, ap, subst, arith}
use Rattle.std.specs.Global.{Vec}
use Rattle.std.specs.List.{list_any}
use Rattle.dsa_terms.specs.Claims.{IsIn}
use Rattle.core_find.specs.Looking.{next_member}
use Rattle.core_find.proofs.Steps.{step_has_place}
use Rattle.core_find.proofs.Without.{is_there, next_is, not_there}
use Rattle.core_find.proofs.stepping.look_on.Goals as goal

pub dropped-requires-clause-there : goal.dropped-requires-clause-there
dropped-requires-clause-there g c =
    rw c.in_ok-known.ensures.rests
    (step_has_place c.args.instance.now c.args.capacity c.args.looking.members.items c.args.looking.rests.items _ refl
    c.requires.more c.requires.looking.looked)

pub returns-then-contains-clause-unasked : goal.returns-then-contains-clause-unasked
returns-then-contains-clause-unasked g c = λ known.
    let at = c.args.looking in
    let now = c.in_ok-known.known in
    let b = c.index.result.now in
    let next : b ≡ next_member at =
    next_is at now c.len-2.result b c.in_ok-known.ensures.members c.in_ok-known.ensures.rests
    (c.len-2.ensures ∙ now.rests.ok.0) c.requires.more c.index.ensures in
    let some : list_any (λ x. x == b) now.named.items ≡ true =
    rw (← c.deref-2.ensures.value) (sym c.contains.ensures.value ∙ c.if-contains.true) in
    absurd (known (c.in_ok-known.ensures.unknown
    (subst (λ (x : ℕ). IsIn x now.named.items) next (is_there b now.named.items some))))

pub returns-else-contains-clause-looking : goal.returns-else-contains-clause-looking
returns-else-contains-clause-looking g c =
    let now = c.in_ok-known.known in
    let b = c.index.result.now in
    let members = ap (λ (v : Vec ℕ). length v.items) c.in_ok-known.ensures.members in
    let rests = ap (λ (v : Vec (Vec ℕ)). length v.items) c.in_ok-known.ensures.rests in
    let more : length now.rests.items < length now.members.items = omega (arith, members, rests, c.requires.more) in
    let next : b ≡ next_member now =
    next_is now now c.len-2.result b refl refl (c.len-2.ensures ∙ now.rests.ok.0) more c.index.ensures in
    let none : list_any (λ x. x == b) now.named.items ≡ false =
    rw (← c.deref-2.ensures.value) (sym c.contains.ensures.value ∙ c.if-contains.false) in
    c.dropped.ensures.looking c.args.instance.now c.args.capacity c.in_ok-known.ensures.looking
    (λ i. not_there b now.named.items none (subst (λ (x : ℕ). IsIn x now.named.items) (sym next) i))
