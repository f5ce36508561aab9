use Rattle.dsa_terms.specs.Logs.{Over}
use Rattle.dsa_search_laws.proofs.Members.{whole_is_whole}
use Rattle.core_find.proofs.Bounding.{whole_is_bounded}
use Rattle.core_find.proofs.Without.{first_line, over_by_few}
use Rattle.core_find.proofs.stack.over_log.Goals as goal

pub push-requires-clause-within : goal.push-requires-clause-within
push-requires-clause-within c = (
  rw c.in_ok-claim.ensures
      (whole_is_bounded c.args.instance.now c.args.few.now c.len-count.ensures.buffers c.requires.in_range),
  c.requires.moment_limit,
  c.requires.height_limit,
  c.requires.modulus_limit,
)

pub unreachable-requires : goal.unreachable-requires
unreachable-requires c =
    c.in-Err.ensures.whole (Over c.in_ok-claim.claim c.args.moment c.args.height c.args.modulus)
    (first_line c.new-log.result c.push.new.self _ _ _ c.new-log.ensures.value c.in-Ok.ensures.appended)
    (rw c.in_ok-claim.ensures (whole_is_whole c.args.instance.now c.args.few.now))

pub returns-clause-log : goal.returns-clause-log
returns-clause-log c =
    over_by_few c.args.instance.now c.args.capacity _ c.args.moment c.args.height c.args.modulus c.args.few.now
    c.in_ok-claim.claim
    c.new-log.result c.push.new.self c.in-Ok-close.closed c.new-log.ensures.value c.in-Ok.ensures.appended
    c.in_ok-claim.ensures c.in-Ok-close.ensures.closed c.in-Ok-close.ensures.accepted
