use Rattle.std.proofs.Common.{◌<◌, arith, slice_index}
use Rattle.dsa_terms.specs.Claims.{Entry}
use Rattle.line_index.proofs.Looking.{in_claim, none_next}
use Rattle.line_index.proofs.look.lacked.Goals as goal

pub returns-then-level_at-eq0-clause-some : goal.returns-then-level_at-eq0-clause-some
returns-then-level_at-eq0-clause-some c = record {
  among = in_claim c.pairs-pair-items.result.now c.args.k.now c.loop-pair.pair-index c.pairs-pair-items.ensures.value
      c.loop-pair-test.true;
  none = (let v = c.level_at.ensures.value in let z = c.if-level_at-eq0.true in omega arith);
}

pub loop-pair-preserved : goal.loop-pair-preserved
loop-pair-preserved c = none_next (λ (e : Entry). 0 < slice_index c.args.levels.now e.0) c.pairs-pair-items.result.now
    c.args.k.now c.loop-pair.pair-index c.pairs-pair-items.ensures.value c.loop-pair-test.true
    (let v = c.level_at.ensures.value in let z = c.if-level_at-eq0.false in omega arith) c.loop-pair.invariant
