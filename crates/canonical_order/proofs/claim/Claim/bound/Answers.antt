use Rattle.canonical_order.proofs.Search.{bound_here, no_bound}
use Rattle.canonical_order.proofs.claim.Claim.bound.Goals as goal

pub returns-in-Ok-clause-value : goal.returns-in-Ok-clause-value
returns-in-Ok-clause-value c =
    bound_here c.args.self.now c.self.inside.pairs.items c.args.b c.in-Ok.place _ c.self.view_is
    c.in-Ok.ensures.kept.rises c.in-Ok.ensures.found c.index.ensures

pub returns-in-Err-clause-value : goal.returns-in-Err-clause-value
returns-in-Err-clause-value c = no_bound c.args.self.now c.args.b c.in-Err.ensures.absent
