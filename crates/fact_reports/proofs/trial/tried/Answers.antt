use Rattle.std.proofs.Common.{ap, ◌∙◌}
use Rattle.run_course.specs.Course.{shows}
use Rattle.fact_reports.proofs.trial.tried.Goals as goal

pub returns : goal.returns
returns c = record {
  instance = c.args.instance.now;
  facts = c.in_ok-facts.facts;
  verdict = c.in_ok-verdict.verdict;
  made = c.requires.made;
  true_facts = c.in_ok-facts.ensures.value;
  true_verdict = c.in_ok-verdict.ensures;
  shown = c.shown.ensures ∙ ap shows c.in_ok-text.ensures;
}
