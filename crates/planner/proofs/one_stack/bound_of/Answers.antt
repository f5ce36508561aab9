use Rattle.lifetime.specs.Runs.{starts_of}
use Rattle.lower_bounds.proofs.Reaching.{sections_are_all}
use Rattle.planner.proofs.Refuting.{is_lower_bound}
use Rattle.planner.proofs.one_stack.bound_of.Goals as goal

pub returns : goal.returns
returns c =
    let laws = c.sections_reach_the_bound.ensures in
    is_lower_bound c.args.instance.now (starts_of c.args.sections.now.sections) c.in_ok-bound.field-0
    c.in_ok-bound.ensures.capacity c.in_ok-bound.ensures.modulus c.in_ok-bound.ensures.moment
    c.in_ok-bound.ensures.height c.in_ok-bound.ensures.bound
    (λ some. (laws.height c.args.instance.now (starts_of c.args.sections.now.sections)
    (sections_are_all c.args.instance.now c.args.sections.now c.requires.sections) some).0)
    (c.bound_moment_is_one.ensures.section c.args.instance.now c.args.sections.now (record {
      sections = c.requires.sections;
      runs = c.requires.runs;
      thin = c.requires.thin;
      stand = c.requires.stand;
    }))
    (λ H. laws.lowest c.args.instance.now (starts_of c.args.sections.now.sections) H)
