use Rattle.std.proofs.Common.{◌≡◌, ◌∙◌, ◌++◌, ◌∷◌, [], Some, sym, subst}
use Rattle.dsa_terms.specs.Logs.{Line}
use Rattle.dsa_model.specs.Fails.{IfFault}
use Rattle.refute_log.specs.Lines.{line_value}
use Rattle.log_check.proofs.Narrowed.{made_is_within, same_reason, is_line, has_own}
use Rattle.log_check.proofs.Texts.{raw_line_back}
use Rattle.log_check.proofs.lines.push_line.Goals as goal

pub push-requires-clause-within : goal.push-requires-clause-within
push-requires-clause-within c = made_is_within c.args.instance.now c.args.line (line_value c.in_ok-made.made)
    c.requires.kept c.in_ok-made.ensures

pub returns-in-Ok-clause-reason : goal.returns-in-Ok-clause-reason
returns-in-Ok-clause-reason c = sym (same_reason c.args.instance.now c.args.log.now.capacity c.args.log.now.lines
    c.args.line (line_value c.in_ok-made.made) c.in_ok-made.ensures) ∙ c.in-Ok.ensures.reason

pub returns-in-Ok-clause-appended : goal.returns-in-Ok-clause-appended
returns-in-Ok-clause-appended c =
    let e = is_line c.args.instance.now c.args.log.now.capacity c.args.log.now.lines c.args.line
    (line_value c.in_ok-made.made) c.in_ok-made.ensures c.in-Ok.ensures.reason in
    subst (λ (l : Line). c.push.new.self ≡ record c.args.log.now { lines = c.args.log.now.lines ++ l ∷ [] }) e
    c.in-Ok.ensures.appended

pub returns-in-Ok-clause-text : goal.returns-in-Ok-clause-text
returns-in-Ok-clause-text c = raw_line_back c.args.line (has_own c.args.instance.now c.args.line
    (line_value c.in_ok-made.made) c.in_ok-made.ensures)

pub returns-clause-reason : goal.returns-clause-reason
returns-clause-reason c =
    let e = same_reason c.args.instance.now c.args.log.now.capacity c.args.log.now.lines c.args.line
    (line_value c.in_ok-made.made) c.in_ok-made.ensures in
    subst (λ o. IfFault (λ r. o ≡ Some r) c.in-Err.fail) e c.in-Err.ensures.reason
