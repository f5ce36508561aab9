use Rattle.std.proofs.Common.{◌∙◌, inl, refl, sym, subst, arith}
use Rattle.dsa_model.proofs.Instances.{sound_instance}
use Rattle.narrowing.specs.Narrowed.{IsDecidedAt, IsLogPaid, IsNarrowed}
use Rattle.narrowing.proofs.Narrowing.{decided_by_answer, narrowed_by_answer, paid_by_answer}
use Rattle.narrowing.proofs.one_capacity.settle.Goals as goal

-- an answer within the slice
pub returns-in_default : goal.returns-in_default
returns-in_default g c =
    let I = c.args.instance.now in
    let i = c.loop-alloc.invariant in
    let d = c.attempt.ensures in
    let r = c.in_ok-decided.ensures in
    let answered = sym c.with_answer.ensures in
    let start = c.args.start in
    let right = rw i.subject at r.right in
    record {
      subject = d.subject ∙ i.subject ∙ sym c.requires.subject;
      units = let k = i.units in let l = d.units in omega arith;
      used =
          let k = i.used in let l = d.used in let m = c.min-limit.ensures in let n = c.used-in-loop-alloc-2.ensures in
          let o = c.used.ensures in omega arith;
      narrowed = subst (IsNarrowed I start) answered
          (narrowed_by_answer I c.args.capacity start c.in_ok-decided.decided
          (sound_instance I c.len-count.ensures.buffers) c.requires.bracket c.requires.low c.requires.high right);
      settled = inl (subst (IsDecidedAt c.args.capacity) answered
          (decided_by_answer I c.args.capacity start c.in_ok-decided.decided c.in_default.not-Spent right));
      log = subst (IsLogPaid (g.T.Tries.units c.args.tries.now) (g.T.Tries.units c.attempt.new.self) start) answered
          (paid_by_answer I c.args.capacity (g.T.Tries.units c.args.tries.now) (g.T.Tries.units c.loop-alloc.tries)
          (g.T.Tries.units c.attempt.new.self) start start c.in_ok-decided.decided (omega arith) c.requires.low
          (inl refl) i.units r.charged);
    }
