use Rattle.std.proofs.Common.{arith}
use Rattle.std.proofs.lemmas.Grind.{common_steps}
use Rattle.placing_search.proofs.Climbs.{order_swapped}
use Rattle.placing_search.proofs.Stacked.{two_set}
use Rattle.placing_search.proofs.rankings.Ranking.swap.Goals as goal

pub returns : goal.returns
returns c =
    let count = c.requires.ranking.each_once.count in
    record {
      each_once = order_swapped c.args.instance.now c.args.self.now.order.items c.swap.new.self.items c.args.one
          c.args.other (omega arith) (omega arith) c.swap.ensures.items c.requires.ranking.each_once;
      count = grind (arith, common_steps, c.requires.ranking.count);
      in_range = two_set _ _ _ _ _ _ c.requires.one c.requires.other c.requires.ranking.in_range;
    }
