use Rattle.std.proofs.Common.{◌≡◌, ◌∙◌, true, false, length, ap, arith}
use Rattle.dsa_trim_laws.specs.Trimmed.{needed}
use Rattle.dsa_trim_laws.proofs.Needed.{cites_earlier}
use Rattle.refute_log.specs.Lines.{line_value}
use Rattle.refute_log.specs.Logs.{OpenLog}
use Rattle.log_trim.proofs.Keeping.{kept_none, kept_skipped, kept_taken, legal_next, moved_within, next_number, made_is, has_number}
use Rattle.log_trim.proofs.Marked.{length-marks, mark_says}
use Rattle.log_trim.proofs.trimming.kept.Goals.{then-marks-k+in_ok-line+in_ok-push_legal, else-marks-k}
use Rattle.log_trim.proofs.trimming.kept.Goals as goal

pub loop-k-init : goal.loop-k-init
loop-k-init c = kept_none c.args.instance.now c.args.log.now c.new-kept.result c.new-numbers.result.items
    c.new-kept.ensures.belongs (ap (λ (g : OpenLog). g.capacity) c.new-kept.ensures.value ∙ c.capacity.ensures.value)
    (ap (λ (g : OpenLog). g.lines) c.new-kept.ensures.value) c.new-numbers.ensures.items

pub bounds-marks-k : goal.bounds-marks-k
bounds-marks-k c =
    let e : length c.args.marks.now ≡ length c.args.log.now.lines =
    rw c.requires.marks (length-marks (length c.args.log.now.lines) (needed c.args.log.now)) in
    omega arith

pub moved_line-requires : goal.moved_line-requires
moved_line-requires c k i =
    let lt = cites_earlier c.args.instance.now c.args.log.now c.requires.accepted c.loop-k.k
    (line_value c.line.result.now) k c.line.ensures.value i in
    let e = next_number c.args.instance.now c.args.log.now c.loop-k.k c.loop-k.kept c.loop-k.numbers.items
    c.push.new.self.items c.len.result c.loop-k.invariant c.len.ensures.value c.in_ok-push.ensures.items in
    rw c.deref.ensures.value (has_number (needed c.args.log.now) c.push.new.self.items c.loop-k.k k e (omega arith))

pub push_legal-requires-clause-within : goal.push_legal-requires-clause-within
push_legal-requires-clause-within c =
    let e = next_number c.args.instance.now c.args.log.now c.loop-k.k c.loop-k.kept c.loop-k.numbers.items
    c.push.new.self.items c.len.result c.loop-k.invariant c.len.ensures.value c.in_ok-push.ensures.items in
    rw (made_is c.args.instance.now c.args.log.now c.loop-k.k c.push.new.self.items (line_value c.line.result.now)
    (line_value c.in_ok-line.line) c.requires.accepted e c.line.ensures.value
    (rw c.deref.ensures.value at c.in_ok-line.ensures))
    (moved_within (needed c.args.log.now) (line_value c.line.result.now) c.line.ensures.kept.within)

pub push_legal-requires-clause-legal : goal.push_legal-requires-clause-legal
push_legal-requires-clause-legal c =
    let e = next_number c.args.instance.now c.args.log.now c.loop-k.k c.loop-k.kept c.loop-k.numbers.items
    c.push.new.self.items c.len.result c.loop-k.invariant c.len.ensures.value c.in_ok-push.ensures.items in
    rw (made_is c.args.instance.now c.args.log.now c.loop-k.k c.push.new.self.items (line_value c.line.result.now)
    (line_value c.in_ok-line.line) c.requires.accepted e c.line.ensures.value
    (rw c.deref.ensures.value at c.in_ok-line.ensures))
    (legal_next c.args.instance.now c.args.log.now c.loop-k.k c.loop-k.kept c.loop-k.numbers.items
    (line_value c.line.result.now) c.requires.legal c.loop-k.invariant c.line.ensures.value
    (mark_says c.args.log.now c.args.marks.now c.loop-k.k true c.requires.marks (omega arith) c.if-marks-k.true))

pub loop-k-preserved : goal.loop-k-preserved
loop-k-preserved c =
    let e = next_number c.args.instance.now c.args.log.now c.loop-k.k c.loop-k.kept c.loop-k.numbers.items
    c.push.new.self.items c.len.result c.loop-k.invariant c.len.ensures.value c.in_ok-push.ensures.items in
    elim c.if-marks-k.branch [
      | then-marks-k+in_ok-line+in_ok-push_legal w ↦ rw w.kept-is
          (kept_taken c.args.instance.now c.args.log.now c.loop-k.k c.loop-k.kept w.push_legal.new.self
          c.loop-k.numbers.items c.push.new.self.items (line_value w.line.result.now) (line_value w.in_ok-line.line)
          c.loop-k.invariant e w.line.ensures.value
          (mark_says c.args.log.now c.args.marks.now c.loop-k.k true c.requires.marks (omega arith) w.if-marks-k.true)
          (made_is c.args.instance.now c.args.log.now c.loop-k.k c.push.new.self.items (line_value w.line.result.now)
          (line_value w.in_ok-line.line) c.requires.accepted e w.line.ensures.value
          (rw w.deref.ensures.value at w.in_ok-line.ensures))
          w.in_ok-push_legal.ensures.belongs w.in_ok-push_legal.ensures.appended)
      | else-marks-k w ↦ rw w.kept-is
          (kept_skipped c.args.instance.now c.args.log.now c.loop-k.k c.loop-k.kept c.loop-k.numbers.items
          c.push.new.self.items c.loop-k.invariant e (omega arith)
          (mark_says c.args.log.now c.args.marks.now c.loop-k.k false c.requires.marks (omega arith)
          w.if-marks-k.false))
    ]
