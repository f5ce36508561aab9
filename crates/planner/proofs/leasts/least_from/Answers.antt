use Rattle.std.proofs.Common.{arith}
use Rattle.min_capacity.specs.Brackets.{bracket_of}
use Rattle.planner.proofs.Finding.{finds}
use Rattle.planner.proofs.Halving.{by_bound_at_low, has_halved, is_within_steps}
use Rattle.planner.proofs.leasts.least_from.Goals as goal

pub returns : goal.returns
returns c =
    let h = c.in_ok-found.ensures in
    let e = c.used-used.ensures.value in
    let n = c.used-used.ensures.within in
    let b = c.budget_of.ensures.value in
    let s = c.in_ok-search.ensures in
    let steps = is_within_steps c.args.instance.now c.args.steps c.budget_of.result c.args.start
    c.in_ok-search.search c.least.new.decider (bracket_of c.in_ok-found.found) c.requires.start s b
    c.budget_of.ensures.range c.least.ensures.allowance n h.narrowed h.charged in
    record {
      value = finds c.args.instance.now c.args.steps c.budget_of.result c.args.start c.in_ok-search.search
          c.least.new.decider.units.used c.in_ok-found.found c.len-count.ensures.buffers c.requires.start
          c.in_ok-search.ensures c.budget_of.ensures.value h.narrowed h.exact h.least h.open h.exhausted h.fewer
          (let range = c.used-used.type_inv in omega arith);
      left = has_halved c.args.instance.now c.args.steps c.budget_of.result c.args.start c.in_ok-search.search
          c.least.new.decider.units.used c.in_ok-found.found c.len-count.ensures.buffers c.requires.start s b
          h.narrowed h.exhausted h.left;
      steps = steps;
      by_bound = by_bound_at_low c.args.instance.now c.args.steps (bracket_of c.in_ok-found.found) steps;
    }
