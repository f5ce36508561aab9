use Rattle.std.proofs.Common.{◌≡◌, ◌<◌, IfNone, arith, slice_index, slice_index_or}
use Rattle.dsa_terms.specs.Claims.{Entry}
use Rattle.line_index.proofs.Looking.{if_none, in_claim, none_next}
use Rattle.line_index.proofs.look.highest_unmet.Goals as goal
use Rattle.line_index.proofs.look.highest_unmet.Goals.{then-level-gt0+then-level-pair+then-most-pair, else-level-gt0, else-level-gt0-via-then-level-gt0+then-level-pair+else-most-pair, else-level-gt0-via-then-level-gt0+else-level-pair, else-level-gt0-via-else-level-gt0}

pub loop-pair-preserved : goal.loop-pair-preserved
loop-pair-preserved c =
    let levels = c.args.levels.now in
    let e : Entry = slice_index_or c.pairs-pair-items.result.now c.loop-pair.pair-index (0, 0) in
    let level : c.level_at-level.result ≡ slice_index levels e.0 = c.level_at-level.ensures.value in
    let most = c.loop-pair.invariant.most in
    elim c.if-level-gt0.branch [
      | then-level-gt0+then-level-pair+then-most-pair w ↦ record {
        some = rw w.highest-is (record {
          among = in_claim c.pairs-pair-items.result.now c.args.k.now c.loop-pair.pair-index
              c.pairs-pair-items.ensures.value c.loop-pair-test.true;
          has = (let t = w.if-level-gt0.true in omega arith);
          unmet = (let t = w.if-level-pair.true in omega arith);
        });
        none = λ f i lt. rw w.highest-is tt;
        most = rw w.highest-is tt;
      }
      | else-level-gt0 w ↦ record {
        some = rw w.highest-is c.loop-pair.invariant.some;
        none = rw w.highest-is (none_next
            (λ (f : Entry). 0 < slice_index levels f.0 → IfNone c.loop-pair.highest (f.1 < slice_index levels f.0))
            c.pairs-pair-items.result.now c.args.k.now c.loop-pair.pair-index c.pairs-pair-items.ensures.value
            c.loop-pair-test.true (λ lt. if_none c.loop-pair.highest most (λ z. elim w.else-level-gt0.branch [
              | else-level-gt0-via-then-level-gt0+then-level-pair+else-most-pair v ↦
                  absurd (let t = v.if-most-pair.false in omega arith)
              | else-level-gt0-via-then-level-gt0+else-level-pair v ↦ (let t = v.if-level-pair.false in omega arith)
              | else-level-gt0-via-else-level-gt0 v ↦ absurd (let t = v.if-level-gt0.false in omega arith)
            ])) c.loop-pair.invariant.none);
        most = rw (w.highest-is, w.most-is) most;
      }
    ]
