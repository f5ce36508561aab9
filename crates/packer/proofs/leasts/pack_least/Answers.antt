use Rattle.std.proofs.Common.{arith}
use Rattle.packer.proofs.Opening.{open_from, tight_at_once}
use Rattle.packer.proofs.Reaching.{apart, reached, tight}
use Rattle.packer.proofs.leasts.pack_least.Goals as goal

pub returns-in-Exact-clause-value : goal.returns-in-Exact-clause-value
returns-in-Exact-clause-value g c =
    tight_at_once c.args.instance.now c.args.steps c.in-Exact.bracket
    (rw c.in-Exact.is at c.in_ok-bracket.ensures.value) (rw c.in-Exact.is at c.in_ok-bracket.ensures.steps)

pub improved-requires : goal.improved-requires
improved-requires g c =
    open_from c.args.instance.now c.in-Open.bracket c.len-count.ensures.buffers c.len-count.ensures.limit
    (rw c.in-Open.is at c.in_ok-bracket.ensures.value) (rw c.in-Open.is at c.in_ok-bracket.ensures.steps)

pub returns-in_ok-brief_bracket-in-Exact-2-clause-value : goal.returns-in_ok-brief_bracket-in-Exact-2-clause-value
returns-in_ok-brief_bracket-in-Exact-2-clause-value g c =
    let I = c.args.instance.now in
    let found = c.in-Exact-2.bracket in
    let h = c.in_ok-bracket-2.ensures in
    let brief = c.in_ok-brief_bracket-in-Exact-2.ensures in
    let r = reached I c.args.steps c.in_ok-start.left _ _ c.in_ok-start.start found c.in_ok-start.ensures.bracket
    (rw c.in-Exact-2.is at h.narrowed) h.used (let e = c.in_ok-start.ensures.steps in omega arith)
    (rw c.in-Exact-2.is at h.log) in
    tight I c.args.steps found c.in_ok-brief_bracket-in-Exact-2.field-0 r (brief.between c.args.steps r) brief.low
    brief.high (rw c.in-Exact-2.is at h.exact) (rw c.in-Exact-2.is at h.least)

pub returns-in_ok-brief_bracket-in-Open-2-clause-value : goal.returns-in_ok-brief_bracket-in-Open-2-clause-value
returns-in_ok-brief_bracket-in-Open-2-clause-value g c =
    let I = c.args.instance.now in
    let found = c.in-Open-2.bracket in
    let h = c.in_ok-bracket-2.ensures in
    let brief = c.in_ok-brief_bracket-in-Open-2.ensures in
    let r = reached I c.args.steps c.in_ok-start.left _ _ c.in_ok-start.start found c.in_ok-start.ensures.bracket
    (rw c.in-Open-2.is at h.narrowed) h.used (let e = c.in_ok-start.ensures.steps in omega arith)
    (rw c.in-Open-2.is at h.log) in
    apart I c.args.steps found c.in_ok-brief_bracket-in-Open-2.field-0 r (brief.between c.args.steps r) brief.low
    brief.high (rw c.in-Open-2.is at h.open)
