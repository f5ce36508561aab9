use Rattle.std.proofs.Common.{arith}
use Rattle.planner.proofs.Keeping.{search_keeps}
use Rattle.planner.proofs.Spending.{search_ends}
use Rattle.planner.proofs.searching.search.Goals as goal

pub returns : goal.returns
returns c =
    let e = c.used-used.ensures.value in
    let d = c.in_ok-decided.ensures in
    record {
      value = search_ends c.args.instance.now c.args.capacity c.args.steps c.budget_of.result c.in_ok-search.search
          c.decide.new.self.units.used c.in_ok-decided.decided c.len-count.ensures.buffers c.in_ok-search.ensures
          c.budget_of.ensures.value d.right d.given d.exhausted d.fewer
          (let range = c.used-used.type_inv in omega arith);
      steps = search_keeps c.args.instance.now c.args.steps c.budget_of.result c.in_ok-search.search c.decide.new.self
          c.in_ok-decided.decided c.in_ok-search.ensures c.budget_of.ensures.value c.decide.ensures.allowance
          c.used-used.ensures.within d.taken d.lines;
    }
