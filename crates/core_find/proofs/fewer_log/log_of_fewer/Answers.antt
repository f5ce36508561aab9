use Rattle.std.proofs.Common.{◌≡◌, ◌≤◌, ◌∙◌, length, ap, arith}
use Rattle.std.proofs.lemmas.List.{length-map}
use Rattle.dsa_terms.specs.Buffers.{Instance, buffer}
use Rattle.dsa_model.specs.Buffer.{buffer_limit}
use Rattle.core_find.specs.Carried.{carried}
use Rattle.core_find.proofs.Carried.{carried_capacity}
use Rattle.core_find.proofs.Carrying.{ended_is_carried, is_ready, places_limit}
use Rattle.core_find.proofs.fewer_log.log_of_fewer.Goals as goal

pub renamed_log-requires-clause-numbers : goal.renamed_log-requires-clause-numbers
renamed_log-requires-clause-numbers c =
    let same = ap (λ (J : Instance). length J) c.in_ok-some.ensures.value
    ∙ length-map c.args.members.now (buffer c.args.instance.now) in
    let few : length c.args.members.now ≤ buffer_limit = omega (arith, same, c.len-count.ensures.limit) in
    rw c.deref.ensures.value
    (places_limit c.args.before.now c.args.members.now c.in_ok-places.places.items c.in_ok-places.ensures few)

pub renamed_log-requires-clause-belongs : goal.renamed_log-requires-clause-belongs
renamed_log-requires-clause-belongs c =
    (is_ready c.args.instance.now c.in_ok-some.some c.args.before.now c.args.members.now c.deref.result.now
    c.args.log.now c.in_ok-log.log c.in_ok-some.ensures.value c.in_ok-log.ensures.value
    (c.deref.ensures.value ∙ c.in_ok-places.ensures) c.requires.rises c.requires.needs).belongs

pub unreachable-requires : goal.unreachable-requires
unreachable-requires c =
    let end = (is_ready c.args.instance.now c.in_ok-some.some c.args.before.now c.args.members.now c.deref.result.now
    c.args.log.now c.in_ok-log.log c.in_ok-some.ensures.value c.in_ok-log.ensures.value
    (c.deref.ensures.value ∙ c.in_ok-places.ensures) c.requires.rises c.requires.needs).end in
    c.in-Err.ensures.whole end.0 (rw (c.in_ok-renamed.ensures.value, c.end.ensures.value) end.1) end.2

is_carried : (c : goal.After-drop-all-inside-2) →
    c.in-Ok.closed ≡ carried c.args.before.now c.args.members.now c.args.log.now
is_carried c =
    ended_is_carried c.args.instance.now c.in_ok-some.some c.args.before.now c.args.members.now c.deref.result.now
    c.args.log.now c.in_ok-log.log c.in-Ok.closed c.in_ok-renamed.renamed c.end.result c.in_ok-some.ensures.value
    c.requires.needs c.in_ok-log.ensures.value (c.deref.ensures.value ∙ c.in_ok-places.ensures)
    c.in_ok-renamed.ensures.value c.end.ensures.value c.in-Ok.ensures.closed

pub returns-clause-value : goal.returns-clause-value
returns-clause-value c = is_carried c

pub returns-clause-capacity : goal.returns-clause-capacity
returns-clause-capacity c = rw (is_carried c) (carried_capacity c.args.before.now c.args.members.now c.args.log.now)
