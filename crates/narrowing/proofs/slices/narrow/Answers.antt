use Rattle.std.proofs.Common.{◌+◌, ◌-◌, ◌<◌, ◌∙◌, sym, subst, arith}
use Rattle.dsa_model.proofs.Instances.{sound_instance}
use Rattle.min_capacity.proofs.Narrowing.{met_is_least}
use Rattle.min_capacity.specs.declared.brackets.Bracket.{Bracket}
use Rattle.narrowing.specs.Narrowed.{IsLogPaid, IsNarrowed}
use Rattle.narrowing.proofs.Narrowing.{less_left, narrowed_by_answer, narrowed_twice, paid_by_answer}
use Rattle.narrowing.proofs.slices.narrow.Goals as goal

-- each attempt takes from the bracket or from the units
pub loop-bracket-smaller : goal.loop-bracket-smaller
loop-bracket-smaller g c =
    let i = c.loop-bracket.invariant in
    let units = g.T.Tries.units in
    let last = c.used.result + c.args.steps in
    let before = c.loop-bracket.bracket in
    let within = c.attempt.ensures.used in
    let size = c.min.ensures in
    let some = c.slice.ensures in
    let left = c.used-in-loop-bracket.ensures in
    subst
    (λ (b : Bracket). (b.high - b.low) + (last - units c.attempt.new.self)
    < (before.high - before.low) + (last - units c.loop-bracket.tries))
    (sym c.with_answer-bracket.ensures)
    (less_left c.args.instance.now c.next-capacity.result last (units c.loop-bracket.tries)
    (units c.attempt.new.self) c.min.result before c.in_ok-decided.decided c.next-capacity.ensures.low
    c.next-capacity.ensures.high (rw i.subject at c.in_ok-decided.ensures.right) c.attempt.ensures.units
    (let k = i.used in omega arith) (let k = c.if-left-eq0.false in omega (arith, k))
    c.in_ok-decided.ensures.exhausted)

pub loop-bracket-preserved : goal.loop-bracket-preserved
loop-bracket-preserved g c =
    let I = c.args.instance.now in
    let i = c.loop-bracket.invariant in
    let d = c.attempt.ensures in
    let r = c.in_ok-decided.ensures in
    let low = c.next-capacity.ensures.low in
    let answered = sym c.with_answer-bracket.ensures in
    let narrowed = narrowed_by_answer I c.next-capacity.result c.loop-bracket.bracket c.in_ok-decided.decided
    (sound_instance I c.len-count.ensures.buffers) i.narrowed.bracket low c.next-capacity.ensures.high
    (rw i.subject at r.right) in
    record {
      subject = d.subject ∙ i.subject;
      within = λ C from to. (d.within C).1 (i.within C from to);
      units = let k = i.units in let l = d.units in omega arith;
      used =
          let k = i.used in let l = d.used in let m = c.min.ensures in let n = c.used-in-loop-bracket.ensures in
          omega arith;
      narrowed = subst (IsNarrowed I c.args.start) answered (narrowed_twice i.narrowed narrowed);
      paid = subst (IsLogPaid (g.T.Tries.units c.args.tries.now) (g.T.Tries.units c.attempt.new.self) c.args.start)
          answered
          (paid_by_answer I c.next-capacity.result (g.T.Tries.units c.args.tries.now)
          (g.T.Tries.units c.loop-bracket.tries) (g.T.Tries.units c.attempt.new.self) c.args.start
          c.loop-bracket.bracket c.in_ok-decided.decided i.narrowed.low low i.paid i.units r.charged);
    }

-- the ends have met
pub returns-clause-least : goal.returns-clause-least
returns-clause-least g c =
    met_is_least c.args.instance.now c.loop-bracket.bracket
    (sound_instance c.args.instance.now c.len-count.ensures.buffers) c.loop-bracket.invariant.narrowed.bracket
    c.loop-bracket-test.false
