use Rattle.std.proofs.Common.{◌≡◌, ◌∙◌, ◌++◌, ◌∷◌, [], ap, arith}
use Rattle.branching.proofs.Words.{IsInstance, claim_of, line_value, OpenLog}
use Rattle.dsa_search_laws.proofs.Logs.{covers_along}
use Rattle.branching.proofs.Growing.{lean_next, extends_by, covered_last}
use Rattle.branching.proofs.Uncovered.{covers_less, uncovered_next}
use Rattle.branching.proofs.lines.append.Goals as goal

sound : (c : goal.In_ok-number) → IsInstance c.args.task.now.instance.now
sound c = λ k d h. (c.len-count.ensures.buffers k d h).sound

appended : (c : goal.In_ok-number) →
    c.push_legal.new.self.lines ≡ c.args.log.now.lines ++ line_value c.in_ok-eased.eased ∷ []
appended c = ap (λ (log : OpenLog). log.lines) c.in_ok-number.ensures.appended

pub returns-clause-log : goal.returns-clause-log
returns-clause-log c = record {
  belongs = c.in_ok-number.ensures.belongs;
  capacity = ap (λ (log : OpenLog). log.capacity) c.in_ok-number.ensures.appended ∙ c.requires.log.capacity;
  lean = lean_next c.args.task.now.instance.now c.args.task.now.capacity c.args.log.now.lines
      c.push_legal.new.self.lines (line_value c.in_ok-eased.eased) (appended c) c.requires.log.lean
      (rw (c.log-2.ensures, c.requires.log.capacity) at c.in_ok-eased.ensures.lean);
  uncovered = uncovered_next _ _ c.push_legal.new.self.lines (line_value c.in_ok-eased.eased) (appended c)
      c.requires.log.uncovered (covers_less _ _ _
      _ (sound c) c.in_ok-eased.ensures.covers c.requires.fresh);
}

pub returns-clause-grown : goal.returns-clause-grown
returns-clause-grown c l h =
    extends_by _ l c.args.log.now.lines c.push_legal.new.self.lines (line_value c.in_ok-eased.eased) (appended c)
    (covers_along c.args.task.now.instance.now (claim_of (line_value c.in_ok-eased.eased))
    (claim_of (line_value c.args.line)) l (sound c) c.in_ok-eased.ensures.covers h)

pub returns-clause-covered : goal.returns-clause-covered
returns-clause-covered c l h =
    let n = rw c.log.ensures at c.len-number.ensures.value in
    covered_last _ l c.in_ok-number.number c.args.log.now.lines c.push_legal.new.self.lines
    (line_value c.in_ok-eased.eased) (appended c) c.in_ok-number.ensures.number
    (omega (arith, c.in_ok-number.ensures.number, n, c.len-number.ensures.limit))
    (covers_along c.args.task.now.instance.now (claim_of (line_value c.in_ok-eased.eased))
    (claim_of (line_value c.args.line)) l (sound c) c.in_ok-eased.ensures.covers h)
