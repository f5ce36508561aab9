use Rattle.std.proofs.Common.{inl, inr}
use Rattle.log_text.specs.Faults.{no_header}
use Rattle.log_text.proofs.LogLemmas.{is_started, no_capacity, no_count, no_version, other_version}
use Rattle.log_text.proofs.read.read_sizes.Goals as goal

pub returns-in_default : goal.returns-in_default
returns-in_default c = no_header (λ v n d r h. c.in_default.ensures.none v n d r h.text)

pub returns-in_default-version : goal.returns-in_default-version
returns-in_default-version c = no_version _ _ _ _ _ c.in-Some.ensures.some c.in_default-version.is

pub returns-in_default-within_limit : goal.returns-in_default-within_limit
returns-in_default-within_limit c = no_count _ _ _ _ _ c.in-Some.ensures.some c.in_default-within_limit.ensures.none

pub returns-in_default-within_limit-2 : goal.returns-in_default-within_limit-2
returns-in_default-within_limit-2 c = no_capacity _ _ _ _ _ c.in-Some.ensures.some
    c.in_default-within_limit-2.ensures.none

pub returns-then-version-ne2 : goal.returns-then-version-ne2
returns-then-version-ne2 c =
    other_version _ _ _ _ c.in-Some-version.version c.in-Some-within_limit.count c.in-Some-within_limit-2.capacity _
    c.in-Some.ensures.some c.in-Some-version.is
    c.in-Some-within_limit.ensures.some.0 c.in-Some-within_limit-2.ensures.some.0
    c.in-Some-within_limit.ensures.some.1 c.in-Some-within_limit-2.ensures.some.1
    c.if-version-ne1.true c.if-version-ne2.true

pub returns : goal.returns
returns c = is_started _ _ _ _ c.in-Some-version.version c.in-Some-within_limit.count c.in-Some-within_limit-2.capacity
    _ c.in-Some.ensures.some c.in-Some-version.is
    c.in-Some-within_limit.ensures.some.0 c.in-Some-within_limit-2.ensures.some.0
    c.in-Some-within_limit.ensures.some.1 c.in-Some-within_limit-2.ensures.some.1
    (elim c.else-version-ne1.either [ inl e ↦ inr e.1 | inr e ↦ inl e ])
